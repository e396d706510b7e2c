-- Pieces one after another: what is read, and what an error of one means for the whole.
use Rattle.std.proofs.Common.{◌≤◌, ◌⊎◌, Bool, ◌≡◌, ◌≢◌, ℕ, ◌+◌, ◌-◌, ◌%◌, ◌<◌, true, false, List, [], ◌∷◌, ◌++◌, length, take, drop, refl, sym, ap, subst, ◌∙◌, arith, inl, inr, append-nil, length-append, length-drop}
use Rattle.std.proofs.Math.Seq.{take-length}
use Rattle.std.proofs.lemmas.List.{append_assoc, length-take-le}
use Rattle.std.proofs.lemmas.List.Elements.{All-nil}
use Rattle.std.specs.Prelude.{Result, Ok, Err, OnOk, OnErr, IfErr}
use Rattle.dns_octets.specs.Room.{Room}
use Rattle.dns_octets.specs.Appending.{Extends}
use Rattle.dns_codec.specs.Bits.{digits, filled, joined, digits_from_bits}
use Rattle.dns_codec.specs.Base.{padded, encoded}
use Rattle.dns_codec.proofs.Encoding.{mod_front}
use Rattle.rdata_tokens.specs.Spelled.{SpellsDigits, opens_group, base_of, illegal}
use Rattle.rdata_tokens.specs.Reading.{DigitsState, HasRead, AcceptsPiece, MayGain, BeginsToGain, FollowsPadding, RefusesPiece}
use Rattle.rdata_tokens.specs.declared.kind.DigitsKind.{DigitsKind}
use Rattle.rdata_tokens.specs.declared.kind.DigitsKind.TheVariants.{Hex, Base64}
use Rattle.rdata_values.specs.declared.error.ErrorKind.TheVariants.{ShortBuf}
use Rattle.rdata_values.specs.declared.error.ErrorKind.{ErrorKind}
use Rattle.rdata_tokens.proofs.Spelling.{known, spells_once, spells_joined, opens_joined, spells_split, not_whole, spelled_whole}

pub cons_not_nil : (x : ℕ) (xs : List ℕ) → x ∷ xs ≢ []
cons_not_nil x xs is = cc is

nothing_printed : (k : DigitsKind) → encoded (base_of k) [] ≡ []
unfolding encoded padded digits filled joined digits_from_bits
nothing_printed Hex = refl
nothing_printed Base64 = refl

pub nothing_spelled : (k : DigitsKind) → SpellsDigits (base_of k) [] []
nothing_spelled Hex = record { bytes = All-nil (λ o. o < 256); text_is = sym (nothing_printed Hex) }
nothing_spelled Base64 = record { bytes = All-nil (λ o. o < 256); text_is = sym (nothing_printed Base64) }

pub nothing_open : (k : DigitsKind) → opens_group (base_of k) [] ≡ false
nothing_open Hex = refl
nothing_open Base64 = refl

pub zero_whole : (k : DigitsKind) → 0 % (base_of k).group ≡ 0
zero_whole Hex = refl
zero_whole Base64 = refl

pub some_group : (k : DigitsKind) → 0 < (base_of k).group
some_group Hex = omega arith
some_group Base64 = omega arith

-- ---- states

-- nothing was read but what is begun
pub begins : (s : DigitsState) (text rest more : List ℕ) → text ≡ s.begun → length text < (base_of s.kind).group → s.ended ≡ false → SpellsDigits (base_of s.kind) (text ++ rest) more
    → HasRead s text []
begins s text rest more is few goes started = record {
  groups = [];
  split = is;
  spelled = nothing_spelled s.kind;
  whole = zero_whole s.kind;
  few = subst (λ t. length t < (base_of s.kind).group) is few;
  ended = goes ∙ sym (nothing_open s.kind);
  last = λ ended. (let bad : false ≡ true = sym goes ∙ ended in cc bad);
  goes_on = (rest, more, subst (λ t. SpellsDigits (base_of s.kind) (t ++ rest) more) is started);
}

-- no group is begun after whole groups
pub closes : (s : DigitsState) (text octets : List ℕ) → s.begun ≡ [] → SpellsDigits (base_of s.kind) text octets → length text % (base_of s.kind).group ≡ 0 → s.ended ≡ opens_group (base_of s.kind) octets
    → HasRead s text octets
closes s text octets none spelled whole ended = record {
  groups = text;
  split = sym (append-nil text) ∙ ap (λ t. text ++ t) (sym none);
  spelled = spelled;
  whole = whole;
  few = subst (λ t. length t < (base_of s.kind).group) (sym none) (some_group s.kind);
  ended = ended;
  last = λ any. none;
  goes_on = ([], [], subst (λ t. SpellsDigits (base_of s.kind) (t ++ []) []) (sym none) (nothing_spelled s.kind));
}

-- a text is split, and more follows its second part
moved : (front back begun piece more : List ℕ) → begun ++ piece ≡ front ++ back → begun ++ (piece ++ more) ≡ front ++ (back ++ more)
moved front back begun piece more is = sym (append_assoc begun piece more) ∙ (ap (λ t. t ++ more) is ∙ append_assoc front back more)

joins : (a c : DigitsState) (text octets piece more : List ℕ) → HasRead a text octets → a.ended ≡ false → c.kind ≡ a.kind → HasRead c (a.begun ++ piece) more
    → HasRead c (text ++ piece) (octets ++ more)
joins a c text octets piece more h goes same j =
    let closed : opens_group (base_of c.kind) octets ≡ false = ap (λ k. opens_group (base_of k) octets) same ∙ (sym h.ended ∙ goes) in
    let front : SpellsDigits (base_of c.kind) h.groups octets = subst (λ k. SpellsDigits (base_of k) h.groups octets) (sym same) h.spelled in
    let even : length h.groups % (base_of c.kind).group ≡ 0 = ap (λ k. length h.groups % (base_of k).group) same ∙ h.whole in
    record {
      groups = h.groups ++ j.groups;
      split = ap (λ t. t ++ piece) h.split ∙ (append_assoc h.groups a.begun piece ∙ (ap (λ t. h.groups ++ t) j.split ∙ sym (append_assoc h.groups j.groups c.begun)));
      spelled = spells_joined c.kind h.groups j.groups octets more front closed j.spelled;
      whole = ap (λ n. n % (base_of c.kind).group) (length-append h.groups j.groups) ∙ (mod_front (length h.groups) (base_of c.kind).group (length j.groups) even ∙ j.whole);
      few = j.few;
      ended = j.ended ∙ sym (opens_joined c.kind octets more closed);
      last = j.last;
      goes_on = j.goes_on;
    }

-- ---- pieces

-- a state after no piece
pub takes_none : (s : DigitsState) → AcceptsPiece s [] [] s
takes_none s = record { kept = refl; none = λ is. (refl, refl); read = λ some. absurd (some refl) }

-- a piece with something in it
pub takes_some : (a b : DigitsState) (piece gained : List ℕ) → b.kind ≡ a.kind → piece ≢ [] → a.ended ≡ false → HasRead b (a.begun ++ piece) gained → AcceptsPiece a piece gained b
takes_some a b piece gained kept some goes h = record { kept = kept; none = λ is. absurd (some is); read = λ any. (goes, h) }

-- two pieces, one after the other
pub takes_on : (a b c : DigitsState) (p q m n : List ℕ) → AcceptsPiece a p m b → AcceptsPiece b q n c → AcceptsPiece a (p ++ q) (m ++ n) c
takes_on a b c [] q m n t u =
    let none = t.none refl in
    let first : AcceptsPiece a q n c = subst (λ s. AcceptsPiece s q n c) none.1 u in
    subst (λ xs. AcceptsPiece a q (xs ++ n) c) (sym none.0) first
takes_on a b c (x ∷ p) [] m n t u =
    let none = u.none refl in
    let all : AcceptsPiece a (x ∷ p) m c = subst (λ s. AcceptsPiece a (x ∷ p) m s) (sym none.1) t in
    let text : (x ∷ p) ++ [] ≡ x ∷ p = append-nil (x ∷ p) in
    let gained : m ++ n ≡ m = ap (λ xs. m ++ xs) none.0 ∙ append-nil m in
    subst (λ ys. AcceptsPiece a ys (m ++ n) c) (sym text) (subst (λ xs. AcceptsPiece a (x ∷ p) xs c) (sym gained) all)
takes_on a b c (x ∷ p) (y ∷ q) m n t u =
    let first = t.read (cons_not_nil x p) in
    let later = u.read (cons_not_nil y q) in
    let both = joins b c (a.begun ++ x ∷ p) m (y ∷ q) n first.1 later.0 u.kept later.1 in
    let text : (a.begun ++ x ∷ p) ++ y ∷ q ≡ a.begun ++ ((x ∷ p) ++ y ∷ q) = append_assoc a.begun (x ∷ p) (y ∷ q) in
    takes_some a c ((x ∷ p) ++ y ∷ q) (m ++ n) (u.kept ∙ t.kept) (cons_not_nil x (p ++ y ∷ q)) first.0 (subst (λ z. HasRead c z (m ++ n)) text both)

-- a text in pieces, and one more piece
pub reads_on : (a b : DigitsState) (text octets piece gained : List ℕ) → HasRead a text octets → AcceptsPiece a piece gained b → HasRead b (text ++ piece) (octets ++ gained)
reads_on a b text octets [] gained h t =
    let none = t.none refl in
    let all : octets ++ gained ≡ octets = ap (λ xs. octets ++ xs) none.0 ∙ append-nil octets in
    let same : HasRead b text octets = subst (λ s. HasRead s text octets) (sym none.1) h in
    subst (λ z. HasRead b z (octets ++ gained)) (sym (append-nil text)) (subst (λ xs. HasRead b text xs) (sym all) same)
reads_on a b text octets (x ∷ p) gained h t =
    let read = t.read (cons_not_nil x p) in
    joins a b text octets (x ∷ p) gained h read.0 t.kept read.1

-- ---- errors

not_nil : (xs : List ℕ) → xs ≢ [] → 0 < length xs
not_nil [] some = absurd (some refl)
not_nil (x ∷ xs) some = omega arith

behind_not_nil : (xs ys : List ℕ) → ys ≢ [] → xs ++ ys ≢ []
behind_not_nil [] ys some = some
behind_not_nil (x ∷ xs) ys some = cons_not_nil x (xs ++ ys)

some_length : (xs ys zs : List ℕ) → ys ≢ [] → 0 < length ((xs ++ ys) ++ zs)
some_length xs [] zs some = absurd (some refl)
some_length [] (y ∷ ys) zs some = omega arith
some_length (x ∷ xs) (y ∷ ys) zs some = omega arith

pub gains_on : (a b : DigitsState) (p q m v : List ℕ) → AcceptsPiece a p m b → q ≢ [] → MayGain a (p ++ q) v → (w : List ℕ) × MayGain b q w × (v ≡ m ++ w)
gains_on a b [] q m v t some g =
    let none = t.none refl in
    (v, subst (λ s. MayGain s q v) (sym none.1) g, ap (λ xs. xs ++ v) (sym none.0))
gains_on a b (x ∷ p) q m v t some g =
    let read = t.read (cons_not_nil x p) in
    let h = read.1 in
    let rest : List ℕ = g.1.0 in
    let ys : List ℕ = (b.begun ++ q) ++ rest in
    let text : (a.begun ++ ((x ∷ p) ++ q)) ++ rest ≡ h.groups ++ ys =
    ap (λ z. z ++ rest) (moved h.groups b.begun a.begun (x ∷ p) q h.split) ∙ append_assoc h.groups (b.begun ++ q) rest in
    let all : SpellsDigits (base_of b.kind) ((a.begun ++ ((x ∷ p) ++ q)) ++ rest) v = subst (λ k. SpellsDigits (base_of k) ((a.begun ++ ((x ∷ p) ++ q)) ++ rest) v) (sym t.kept) g.1.1 in
    let split = spells_split b.kind h.groups ys v h.whole (some_length b.begun q rest some) (subst (λ z. SpellsDigits (base_of b.kind) z v) text all) in
    let same : split.first ≡ m = spells_once (base_of b.kind) (known b.kind) h.groups split.first m split.front h.spelled in
    let goes : b.ended ≡ false = h.ended ∙ (ap (opens_group (base_of b.kind)) (sym same) ∙ split.closed) in
    (split.later, (goes, (rest, split.back)), split.parts ∙ ap (λ xs. xs ++ split.later) same)

-- a piece without its last digits may gain the same
shorter : (s : DigitsState) (q r v : List ℕ) → MayGain s (q ++ r) v → MayGain s q v
shorter s q r v g =
    let text : (s.begun ++ (q ++ r)) ++ g.1.0 ≡ (s.begun ++ q) ++ (r ++ g.1.0) = ap (λ z. z ++ g.1.0) (sym (append_assoc s.begun q r)) ∙ append_assoc (s.begun ++ q) r g.1.0 in
    (g.0, (r ++ g.1.0, subst (λ z. SpellsDigits (base_of s.kind) z v) text g.1.1))

some_more : (q r : List ℕ) → q ≢ [] → q ++ r ≢ []
some_more [] r some = absurd (some refl)
some_more (x ∷ q) r some = cons_not_nil x (q ++ r)

follows_more : (s : DigitsState) (q r : List ℕ) → FollowsPadding s q → FollowsPadding s (q ++ r)
follows_more s q r (inl f) = inl (f.0, some_more q r f.1)
follows_more s q r (inr f) =
    let g = f.1 in
    let text : s.begun ++ (q ++ r) ≡ g.0 ++ (g.1 ++ r) = moved g.0 g.1 s.begun q r g.3 in
    inr (f.0, (g.0, g.1 ++ r, g.2, text, some_more g.1 r g.4, g.5, g.6))

-- if the second piece follows padding, so do both pieces together
follows_behind : (a b : DigitsState) (p q m : List ℕ) → AcceptsPiece a p m b → q ≢ [] → FollowsPadding b q → FollowsPadding a (p ++ q)
follows_behind a b [] q m t some f = subst (λ s. FollowsPadding s q) (t.none refl).1 f
follows_behind a b (x ∷ p) q m t some (inl f) =
    let read = t.read (cons_not_nil x p) in
    let h = read.1 in
    let text : a.begun ++ ((x ∷ p) ++ q) ≡ h.groups ++ (b.begun ++ q) = moved h.groups b.begun a.begun (x ∷ p) q h.split in
    let front : SpellsDigits (base_of a.kind) h.groups m = subst (λ k. SpellsDigits (base_of k) h.groups m) t.kept h.spelled in
    let opens : opens_group (base_of a.kind) m ≡ true = ap (λ k. opens_group (base_of k) m) (sym t.kept) ∙ (sym h.ended ∙ f.0) in
    inr (read.0, (h.groups, b.begun ++ q, m, text, behind_not_nil b.begun q some, front, opens))
follows_behind a b (x ∷ p) q m t some (inr f) =
    let read = t.read (cons_not_nil x p) in
    let h = read.1 in
    let g = f.1 in
    let text : a.begun ++ ((x ∷ p) ++ q) ≡ (h.groups ++ g.0) ++ g.1 =
    moved h.groups b.begun a.begun (x ∷ p) q h.split ∙ (ap (λ z. h.groups ++ z) g.3 ∙ sym (append_assoc h.groups g.0 g.1)) in
    let closed : opens_group (base_of b.kind) m ≡ false = sym h.ended ∙ f.0 in
    let both = spells_joined b.kind h.groups g.0 m g.2 h.spelled closed g.5 in
    let front : SpellsDigits (base_of a.kind) (h.groups ++ g.0) (m ++ g.2) = subst (λ k. SpellsDigits (base_of k) (h.groups ++ g.0) (m ++ g.2)) t.kept both in
    let opens : opens_group (base_of a.kind) (m ++ g.2) ≡ true = ap (λ k. opens_group (base_of k) (m ++ g.2)) (sym t.kept) ∙ (opens_joined b.kind m g.2 closed ∙ g.6) in
    inr (read.0, (h.groups ++ g.0, g.1, m ++ g.2, text, g.4, front, opens))

-- ---- an error that isn't that of padding

pub never_illegal : (k : DigitsKind) → illegal k ≢ ShortBuf
never_illegal Hex = λ is. cc is
never_illegal Base64 = λ is. cc is

-- if two lists begin one text, one of them begins with the other
overlap : (xs ys us vs : List ℕ) → xs ++ ys ≡ us ++ vs → ((more : List ℕ) × (xs ≡ us ++ more) × (vs ≡ more ++ ys)) ⊎ ((more : List ℕ) × (us ≡ xs ++ more) × (more ≢ []) × (ys ≡ more ++ vs))
overlap xs ys [] vs is = inl (xs, refl, sym is)
overlap [] ys (u ∷ us) vs is = inr (u ∷ us, refl, cons_not_nil u us, is)
overlap (x ∷ xs) ys (u ∷ us) vs is =
    let head : x ≡ u = cc is in
    let tail : xs ++ ys ≡ us ++ vs = cc is in
    elim (overlap xs ys us vs tail) [
      | inl h ↦ let front : xs ≡ us ++ h.0 = h.1 in let all : x ∷ xs ≡ (u ∷ us) ++ h.0 = cc in inl (h.0, all, h.2)
      | inr h ↦ let front : us ≡ xs ++ h.0 = h.1 in let all : u ∷ us ≡ (x ∷ xs) ++ h.0 = cc in inr (h.0, all, h.2, h.3)
    ]

pub apart_digit : (s : DigitsState) (digit : ℕ) → s.ended ≡ false → length (s.begun ++ digit ∷ []) ≤ (base_of s.kind).group → FollowsPadding s (digit ∷ []) → ⊥
apart_digit s digit goes few (inl f) = let bad : true ≡ false = sym f.0 ∙ goes in cc bad
apart_digit s digit goes few (inr f) = by f.1.0 f.1.1 f.1.2 f.1.3 f.1.4 f.1.5 f.1.6
  where
    by : (front rest octets : List ℕ) → s.begun ++ digit ∷ [] ≡ front ++ rest → rest ≢ [] → SpellsDigits (base_of s.kind) front octets → opens_group (base_of s.kind) octets ≡ true → ⊥
    by [] rest octets is some spelled opens =
        let same : octets ≡ [] = spells_once (base_of s.kind) (known s.kind) [] octets [] spelled (nothing_spelled s.kind) in
        let bad : true ≡ false = sym opens ∙ (ap (opens_group (base_of s.kind)) same ∙ nothing_open s.kind) in
        cc bad
    by (x ∷ front) rest octets is some spelled opens =
        let there : 0 < length rest = not_nil rest some in
        let sum = ap length is ∙ length-append (x ∷ front) rest in
        let short : length (x ∷ front) < (base_of s.kind).group = omega (arith, there, sum, few) in
        not_whole s.kind (x ∷ front) octets (omega arith) short spelled

apart_front : (room : Room) (s : DigitsState) (q r old : List ℕ) (e : ErrorKind) → RefusesPiece room s q old e → e ≢ ShortBuf → (FollowsPadding s q → ⊥) → FollowsPadding s (q ++ r) → ⊥
apart_front room s q r old e h other apart (inl f) = apart (inl (f.0, h.some))
apart_front room s q r old e h other apart (inr f) =
    let g = f.1 in
    elim (overlap (s.begun ++ q) r g.0 g.1 (append_assoc s.begun q r ∙ g.3)) [
      | inl p ↦ by p.0 p.1
      | inr p ↦ h.none other g.2 (f.0, (p.0, subst (λ t. SpellsDigits (base_of s.kind) t g.2) p.1 g.5))
    ]
  where
    by : (more : List ℕ) → s.begun ++ q ≡ f.1.0 ++ more → ⊥
    by [] is = h.none other f.1.2 (f.0, ([], subst (λ t. SpellsDigits (base_of s.kind) t f.1.2) (sym (append-nil (s.begun ++ q) ∙ (is ∙ append-nil f.1.0))) f.1.5))
    by (x ∷ more) is = apart (inr (f.0, (f.1.0, x ∷ more, f.1.2, is, cons_not_nil x more, f.1.5, f.1.6)))

padded_before : (b : DigitsState) (q text m : List ℕ) → q ≢ [] → (FollowsPadding b q → ⊥) → (h : HasRead b text m) → (front more octets : List ℕ) → SpellsDigits (base_of b.kind) front octets
    → opens_group (base_of b.kind) octets ≡ true → h.groups ≡ front ++ more → ⊥
padded_before b q text m some apart h front [] octets spelled opens is =
    let here : SpellsDigits (base_of b.kind) h.groups octets = subst (λ t. SpellsDigits (base_of b.kind) t octets) (sym (is ∙ append-nil front)) spelled in
    let same : m ≡ octets = spells_once (base_of b.kind) (known b.kind) h.groups m octets h.spelled here in
    apart (inl (h.ended ∙ (ap (opens_group (base_of b.kind)) same ∙ opens), some))
padded_before b q text m some apart h front (y ∷ more) octets spelled opens is =
    let split = spells_split b.kind front (y ∷ more) m (spelled_whole b.kind front octets spelled) (omega arith) (subst (λ t. SpellsDigits (base_of b.kind) t m) is h.spelled) in
    let same : split.first ≡ octets = spells_once (base_of b.kind) (known b.kind) front split.first octets split.front spelled in
    let bad : true ≡ false = sym opens ∙ (ap (opens_group (base_of b.kind)) (sym same) ∙ split.closed) in
    cc bad

apart_behind : (a b : DigitsState) (p q m : List ℕ) → AcceptsPiece a p m b → q ≢ [] → (FollowsPadding b q → ⊥) → FollowsPadding a (p ++ q) → ⊥
apart_behind a b [] q m t some apart f = apart (subst (λ s. FollowsPadding s q) (sym (t.none refl).1) f)
apart_behind a b (x ∷ p) q m t some apart (inl f) = let bad : true ≡ false = sym f.0 ∙ (t.read (cons_not_nil x p)).0 in cc bad
apart_behind a b (x ∷ p) q m t some apart (inr f) =
    let g = f.1 in
    let h = (t.read (cons_not_nil x p)).1 in
    let spelled : SpellsDigits (base_of b.kind) g.0 g.2 = subst (λ k. SpellsDigits (base_of k) g.0 g.2) (sym t.kept) g.5 in
    let opens : opens_group (base_of b.kind) g.2 ≡ true = ap (λ k. opens_group (base_of k) g.2) t.kept ∙ g.6 in
    elim (overlap h.groups (b.begun ++ q) g.0 g.1 (sym (moved h.groups b.begun a.begun (x ∷ p) q h.split) ∙ g.3)) [
      | inl over ↦ padded_before b q (a.begun ++ x ∷ p) m some apart h g.0 over.0 g.2 spelled opens over.1
      | inr over ↦
          let there : 0 < length over.0 = not_nil over.0 over.2 in
          let split = spells_split b.kind h.groups over.0 g.2 h.whole there (subst (λ z. SpellsDigits (base_of b.kind) z g.2) over.1 spelled) in
          let same : split.first ≡ m = spells_once (base_of b.kind) (known b.kind) h.groups split.first m split.front h.spelled in
          let goes : b.ended ≡ false = h.ended ∙ (ap (opens_group (base_of b.kind)) (sym same) ∙ split.closed) in
          let later : opens_group (base_of b.kind) split.later ≡ true = sym (opens_joined b.kind split.first split.later split.closed) ∙ (ap (opens_group (base_of b.kind)) (sym split.parts) ∙ opens) in
          apart (inr (goes, (over.0, g.1, split.later, over.3, g.4, split.back, later)))
    ]

-- a beginning of the second piece, after the first
begins_behind : (a b : DigitsState) (p q m w : List ℕ) → AcceptsPiece a p m b → BeginsToGain b q w → BeginsToGain a (p ++ q) (m ++ w)
begins_behind a b [] q m w t g =
    let none = t.none refl in
    subst (λ xs. BeginsToGain a q (xs ++ w)) (sym none.0) (subst (λ s. BeginsToGain s q w) none.1 g)
begins_behind a b (x ∷ p) q m w t g =
    let read = t.read (cons_not_nil x p) in
    let h = read.1 in
    let front : List ℕ = g.1 in
    let rest : List ℕ = g.2 in
    let text : a.begun ++ ((x ∷ p) ++ front) ≡ h.groups ++ (b.begun ++ front) = moved h.groups b.begun a.begun (x ∷ p) front h.split in
    let closed : opens_group (base_of b.kind) m ≡ false = sym h.ended ∙ g.0 in
    let both = spells_joined b.kind h.groups (b.begun ++ front) m w h.spelled closed g.4 in
    let all : SpellsDigits (base_of b.kind) (a.begun ++ ((x ∷ p) ++ front)) (m ++ w) = subst (λ z. SpellsDigits (base_of b.kind) z (m ++ w)) (sym text) both in (
      read.0,
      (x ∷ p) ++ front,
      rest,
      ap (λ z. (x ∷ p) ++ z) g.3 ∙ sym (append_assoc (x ∷ p) front rest),
      subst (λ k. SpellsDigits (base_of k) (a.begun ++ ((x ∷ p) ++ front)) (m ++ w)) t.kept all,
      omega (arith, g.5, length-append m w),
    )

-- what rejects a piece rejects it with more after it
pub refuses_front : (room : Room) (s : DigitsState) (q r old : List ℕ) (e : ErrorKind) → RefusesPiece room s q old e → RefusesPiece room s (q ++ r) old e
refuses_front room s q r old e h = record {
  some = some_more q r h.some;
  why = elim h.why [
    | inl short ↦ inl short
    | inr (inl bad) ↦ inr (inl (bad.0, apart_front room s q r old e h (λ short. never_illegal s.kind (sym bad.0 ∙ short)) bad.1))
    | inr (inr f) ↦ inr (inr (f.0, follows_more s q r f.1))
  ];
  exceeds = λ short. (
      let x = h.exceeds short in
      let front : List ℕ = x.1.1 in
      let rest : List ℕ = x.1.2 in
      (x.0, (x.1.0, front, rest ++ r, ap (λ t. t ++ r) x.1.3 ∙ append_assoc front rest r, x.1.4, x.1.5), x.2)
      );
  none = λ other v g. h.none other v (shorter s q r v g);
}

-- what rejects a piece rejects it after a first piece
pub refuses_behind : (room : Room) (a b : DigitsState) (p q m old new : List ℕ) (e : ErrorKind) → AcceptsPiece a p m b → new ≡ old ++ m → RefusesPiece room b q new e → RefusesPiece room a (p ++ q) old e
refuses_behind room a b p q m old new e t is h = record {
  some = behind_not_nil p q h.some;
  why = elim h.why [
    | inl short ↦ inl short
    | inr (inl bad) ↦ inr (inl (bad.0 ∙ ap illegal t.kept, apart_behind a b p q m t h.some bad.1))
    | inr (inr f) ↦ inr (inr (f.0, follows_behind a b p q m t h.some f.1))
  ];
  exceeds = λ short. (
      let x = h.exceeds short in
      let w : List ℕ = x.0 in
      let sum : length new ≡ length old + length m = ap length is ∙ length-append old m in
      (m ++ w, begins_behind a b p q m w t x.1, omega (arith, x.2, sum, length-append m w))
      );
  none = λ other v g. (
      let on = gains_on a b p q m v t h.some g in
      h.none other on.0 on.1
      );
}

-- ---- a piece in three parts

pub rest_of : (n : ℕ) (xs : List ℕ) → take (length xs - n) (drop n xs) ≡ drop n xs
rest_of n xs = ap (λ k. take k (drop n xs)) (sym (length-drop n xs)) ∙ take-length (drop n xs)

pub takes_three : (a b c : DigitsState) (front middle last piece u v w : List ℕ) → AcceptsPiece a front u b → AcceptsPiece b middle v b → AcceptsPiece b last w c → front ++ (middle ++ last) ≡ piece
    → AcceptsPiece a piece (u ++ (v ++ w)) c
takes_three a b c front middle last piece u v w t m l parts =
    subst (λ z. AcceptsPiece a z (u ++ (v ++ w)) c) parts (takes_on a b c front (middle ++ last) u (v ++ w) t (takes_on b b c middle last v w m l))

pub gains_three : (old first second third u v w : List ℕ) → first ≡ old ++ u → second ≡ first ++ v → third ≡ second ++ w → third ≡ old ++ (u ++ (v ++ w))
gains_three old first second third u v w a b c =
    c ∙ (ap (λ t. t ++ w) (b ∙ (ap (λ t. t ++ v) a ∙ append_assoc old u v)) ∙ (append_assoc old (u ++ v) w ∙ ap (λ t. old ++ t) (append_assoc u v w)))

pub refuses_middle : (room : Room) (a b : DigitsState) (front rest piece u old first : List ℕ) (e : ErrorKind) → AcceptsPiece a front u b → first ≡ old ++ u → front ++ rest ≡ piece → RefusesPiece room b rest first e
    → RefusesPiece room a piece old e
refuses_middle room a b front rest piece u old first e t is parts h = subst (λ z. RefusesPiece room a z old e) parts (refuses_behind room a b front rest u old first e t is h)

pub refuses_last : (room : Room) (a b : DigitsState) (front middle last piece u v old first second : List ℕ) (e : ErrorKind) → AcceptsPiece a front u b → AcceptsPiece b middle v b → first ≡ old ++ u → second ≡ first ++ v
    → front ++ (middle ++ last) ≡ piece → RefusesPiece room b last second e → RefusesPiece room a piece old e
refuses_last room a b front middle last piece u v old first second e t m is on parts h =
    refuses_middle room a b front (middle ++ last) piece u old first e t is parts (refuses_behind room b b middle last v first second e m on h)

pub extends_on : (old first new u : List ℕ) → first ≡ old ++ u → Extends first new → Extends old new
extends_on old first new u is e = (u ++ e.0, e.1 ∙ (ap (λ t. t ++ e.0) is ∙ append_assoc old u e.0))

pub ok_then : {T E : Type 0} (r : Result T E) (P Q : Type 0) → (P → Q) → OnOk r P → OnOk r Q
ok_then (Ok x) P Q f p = f p
ok_then (Err e) P Q f p = tt

pub err_then : {T E : Type 0} (r : Result T E) (P Q : Type 0) → (P → Q) → OnErr r P → OnErr r Q
err_then (Ok x) P Q f p = tt
err_then (Err e) P Q f p = f p

pub error_then : {T E : Type 0} (r : Result T E) (P Q : E → Type 0) → ((e : E) → P e → Q e) → IfErr r P → IfErr r Q
error_then (Ok x) P Q f p = tt
error_then (Err e) P Q f p = f e p

-- ---- the end

pub ends_open : (s : DigitsState) (text octets : List ℕ) → HasRead s text octets → s.begun ≢ [] → (v : List ℕ) → SpellsDigits (base_of s.kind) text v → ⊥
ends_open s text octets h some v spelled =
    let there : 0 < length s.begun = not_nil s.begun some in
    let split = spells_split s.kind h.groups s.begun v h.whole there (subst (λ t. SpellsDigits (base_of s.kind) t v) h.split spelled) in
    not_whole s.kind s.begun split.later there h.few split.back

-- nothing is begun at the end
pub ends_closed : (s : DigitsState) (text octets : List ℕ) → HasRead s text octets → s.begun ≡ [] → SpellsDigits (base_of s.kind) text octets
ends_closed s text octets h none =
    let text_is : text ≡ h.groups = h.split ∙ (ap (λ t. h.groups ++ t) none ∙ append-nil h.groups) in
    subst (λ t. SpellsDigits (base_of s.kind) t octets) (sym text_is) h.spelled

-- how many digits of a group are held
pub held_length : (k : DigitsKind) (held : List ℕ) (count : ℕ) → count < (base_of k).group → length held ≡ 4 → length (take count held) ≡ count
held_length Hex held count few four = length-take-le count held (omega (arith, few, four))
held_length Base64 held count few four = length-take-le count held (omega (arith, few, four))

-- ---- the pieces of a text that spells octets

-- a whole text was read
pub reads_whole : (s : DigitsState) (text octets read : List ℕ) → SpellsDigits (base_of s.kind) text octets → HasRead s text read → (s.begun ≡ []) × (read ≡ octets)
reads_whole s text octets read spelled h = by s.begun refl
  where
    by : (xs : List ℕ) → s.begun ≡ xs → (s.begun ≡ []) × (read ≡ octets)
    by [] none = (none, spells_once (base_of s.kind) (known s.kind) text read octets (ends_closed s text read h none) spelled)
    by (x ∷ xs) some = absurd (ends_open s text read h (λ none. cons_not_nil x xs (sym some ∙ none)) octets spelled)

-- what the next piece may gain of it
pub gains_next : (s : DigitsState) (text piece rest octets read : List ℕ) → SpellsDigits (base_of s.kind) (text ++ (piece ++ rest)) octets → HasRead s text read → piece ≢ []
    → (later : List ℕ) × MayGain s piece later × (octets ≡ read ++ later)
gains_next s text piece rest octets read spelled h some =
    let all : text ++ (piece ++ rest) ≡ h.groups ++ ((s.begun ++ piece) ++ rest) =
    ap (λ t. t ++ (piece ++ rest)) h.split ∙ (append_assoc h.groups s.begun (piece ++ rest) ∙ ap (λ t. h.groups ++ t) (sym (append_assoc s.begun piece rest))) in
    let split = spells_split s.kind h.groups ((s.begun ++ piece) ++ rest) octets h.whole (some_length s.begun piece rest some) (subst (λ t. SpellsDigits (base_of s.kind) t octets) all spelled) in
    let same : split.first ≡ read = spells_once (base_of s.kind) (known s.kind) h.groups split.first read split.front h.spelled in
    let goes : s.ended ≡ false = h.ended ∙ (ap (opens_group (base_of s.kind)) (sym same) ∙ split.closed) in
    (split.later, (goes, (rest, split.back)), split.parts ∙ ap (λ xs. xs ++ split.later) same)

-- what was read can continue
pub reads_goes_on : (s : DigitsState) (text read : List ℕ) → HasRead s text read → (rest : List ℕ) × (more : List ℕ) × SpellsDigits (base_of s.kind) (text ++ rest) (read ++ more)
reads_goes_on s text read h = by s.ended refl
  where
    by : (ended : Bool) → s.ended ≡ ended → (rest : List ℕ) × (more : List ℕ) × SpellsDigits (base_of s.kind) (text ++ rest) (read ++ more)
    by true ends =
        let closed = ends_closed s text read h (h.last ends) in
        ([], [], subst (λ t. SpellsDigits (base_of s.kind) t (read ++ [])) (sym (append-nil text)) (subst (λ v. SpellsDigits (base_of s.kind) text v) (sym (append-nil read)) closed))
    by false goes =
        let rest : List ℕ = h.goes_on.0 in
        let more : List ℕ = h.goes_on.1 in
        let closed : opens_group (base_of s.kind) read ≡ false = sym h.ended ∙ goes in
        let parts : text ++ rest ≡ h.groups ++ (s.begun ++ rest) = ap (λ t. t ++ rest) h.split ∙ append_assoc h.groups s.begun rest in
        (rest, more, subst (λ t. SpellsDigits (base_of s.kind) t (read ++ more)) (sym parts) (spells_joined s.kind h.groups (s.begun ++ rest) read more h.spelled closed h.goes_on.2))

pub is_short : (e : ErrorKind) → (e ≡ ShortBuf) ⊎ (e ≢ ShortBuf)
is_short ShortBuf = inl refl
is_short other = inr (λ is. cc is)
