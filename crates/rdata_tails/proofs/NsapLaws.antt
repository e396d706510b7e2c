-- Addresses of network services.
use Rattle.std.proofs.Common.{ℕ, zero, suc, true, false, true≢false, ◌≡◌, ◌≢◌, ◌<◌, ◌+◌, ◌-◌, ◌/◌, ◌%◌, ◌==◌, List, [], ◌∷◌, ◌++◌, length, take, drop, map, get_or, refl, sym, ap, subst, ◌∙◌, inl, inr, arith, append-nil, length-append}
use Rattle.std.specs.Prelude.{Bool, not, All, slice_index, if◌then◌else◌, ◌*◌, ◌⊎◌, ◌≤◌}
use Rattle.std.specs.List.{filter}
use Rattle.std.proofs.lemmas.Bool.{eqb-true, eqb-false}
use Rattle.std.proofs.lemmas.Bool.Decides.{nat_tests}
use Rattle.std.proofs.lemmas.List.{append_assoc, nil_from_length, take_all, take-append-drop}
use Rattle.std.proofs.lemmas.List.Elements.{All-head, All-tail, All-nil, All-cons, filter_more, filter-append}
use Rattle.dns_octets.specs.Room.{Room}
use Rattle.dns_octets.specs.Appending.{Extends, Gains, ExceedsRoom}
use Rattle.dns_codec.specs.Bits.{digits}
use Rattle.dns_codec.specs.Base.{base16, capital, digit_char, encoded, padded, all_below}
use Rattle.dns_codec.proofs.Alphabets.{all_below_at}
use Rattle.dns_codec.proofs.Halves.{pieces_of_octet}
use Rattle.rdata_tokens.specs.Reading.{DigitsState, HasRead, AcceptsPiece, RefusesPiece, AppendsPiece, PaddedBefore}
use Rattle.rdata_tokens.specs.Spelled.{SpellsDigits, BeginsWithDigits, opens_group, base_of, illegal, unfinished}
use Rattle.rdata_tokens.specs.Spelling.{AreOctetValues}
use Rattle.rdata_tokens.specs.Tokens.{DigitsContinue, RefusesToken}
use Rattle.rdata_tokens.specs.declared.kind.DigitsKind.{DigitsKind}
use Rattle.rdata_tokens.specs.declared.kind.DigitsKind.TheVariants.{Hex}
use Rattle.rdata_tokens.proofs.Pieces.{takes_none, takes_on, reads_on, reads_goes_on, refuses_behind, refuses_front, nothing_spelled, is_short}
use Rattle.rdata_tokens.proofs.Together.{hex_digits}
use Rattle.rdata_tokens.proofs.Spelling.{known, spells_once, spells_joined}
use Rattle.rdata_tokens.proofs.TakenDigit.{least_begun}
use Rattle.rdata_tokens.proofs.TokenLemmas.{token_refused, token_unfinished}
use Rattle.rdata_values.specs.Hex.{pair_digit, pair_text, small_pairs}
use Rattle.rdata_values.specs.declared.error.ErrorKind.{ErrorKind}
use Rattle.rdata_values.specs.declared.error.ErrorKind.TheVariants.{ShortBuf, ExpectedNsap, ExpectedHex, UnevenHex, TrailingBase64}
use Rattle.rdata_tails.specs.Nsap.{AreNsapRead, BeginsNsap, HasDigits, NsapFault, RefusesNsap, SpellsNsap, nsap_text, without_dots}

-- ---- reading

-- from a first state on, the digits before an offset are pushed
pub record HasPushed (s : DigitsState) (dotted : List ℕ) (at : ℕ) (old new : List ℕ) : Type 0 where
  pub first : DigitsState
  pub kind : first.kind ≡ Hex
  pub fresh : HasRead first [] []
  pub gained : List ℕ
  pub pieces : AcceptsPiece first (without_dots (take at dotted)) gained s
  pub octets : new ≡ old ++ gained

pub none_pushed : (s : DigitsState) (dotted old : List ℕ) → s.kind ≡ Hex → HasRead s [] [] → HasPushed s dotted 0 old old
none_pushed s dotted old kind fresh = record { first = s; kind = kind; fresh = fresh; gained = []; pieces = takes_none s; octets = sym (append-nil old) }

one_at : (at : ℕ) (xs : List ℕ) → at < length xs → take 1 (drop at xs) ≡ get_or xs at 0 ∷ []
one_at at [] here = absurd (omega (arith, here))
one_at zero (x ∷ xs) here = refl
one_at (suc at) (x ∷ xs) here = one_at at xs (omega (arith, here))

next_at : (at : ℕ) (xs : List ℕ) → at < length xs → take (at + 1 - at) (drop at xs) ≡ get_or xs at 0 ∷ []
next_at at xs here = let one : at + 1 - at ≡ 1 = omega arith in ap (λ n. take n (drop at xs)) one ∙ one_at at xs here

abbrev kept_digit : ℕ → List ℕ
kept_digit d = if not (d == 46) then d ∷ [] else []

dot_gone : (d : ℕ) → d ≡ 46 → kept_digit d ≡ []
dot_gone d is = rw is refl

other_kept : (d : ℕ) → d ≢ 46 → kept_digit d ≡ d ∷ []
other_kept d other = by (d == 46) refl
  where
    by : (b : Bool) → (d == 46) ≡ b → (if not b then d ∷ [] else []) ≡ d ∷ []
    by true e = absurd (other (eqb-true d 46 e))
    by false e = refl

digits_more : (dotted : List ℕ) (at : ℕ) → at < length dotted → without_dots (take (at + 1) dotted) ≡ without_dots (take at dotted) ++ kept_digit (get_or dotted at 0)
digits_more dotted at here = filter_more (λ c. not (c == 46)) dotted at 0 here

pub dot_pushed : (s : DigitsState) (dotted : List ℕ) (at : ℕ) (old new : List ℕ) → at < length dotted → get_or dotted at 0 ≡ 46 → HasPushed s dotted at old new → HasPushed s dotted (at + 1) old new
dot_pushed s dotted at old new here dot h =
    let same : without_dots (take (at + 1) dotted) ≡ without_dots (take at dotted) =
    digits_more dotted at here ∙ ap (λ z. without_dots (take at dotted) ++ z) (dot_gone (get_or dotted at 0) dot) ∙ append-nil (without_dots (take at dotted)) in
    record { first = h.first; kind = h.kind; fresh = h.fresh; gained = h.gained; pieces = subst (λ t. AcceptsPiece h.first t h.gained s) (sym same) h.pieces; octets = h.octets }

one_more : (dotted : List ℕ) (at : ℕ) → at < length dotted → get_or dotted at 0 ≢ 46 → without_dots (take (at + 1) dotted) ≡ without_dots (take at dotted) ++ take (at + 1 - at) (drop at dotted)
one_more dotted at here other =
    digits_more dotted at here ∙ ap (λ z. without_dots (take at dotted) ++ z) (other_kept (get_or dotted at 0) other ∙ sym (next_at at dotted here))

pub digit_pushed : (s t : DigitsState) (dotted : List ℕ) (at : ℕ) (old middle new : List ℕ) → at < length dotted → get_or dotted at 0 ≢ 46 → HasPushed s dotted at old middle → AppendsPiece s (take (at + 1 - at) (drop at dotted)) t middle new
    → HasPushed t dotted (at + 1) old new
digit_pushed s t dotted at old middle new here other h k = record {
  first = h.first;
  kind = h.kind;
  fresh = h.fresh;
  gained = h.gained ++ k.0;
  pieces = subst (λ text. AcceptsPiece h.first text (h.gained ++ k.0) t) (sym (one_more dotted at here other)) (takes_on h.first s t (without_dots (take at dotted)) (take (at + 1 - at) (drop at dotted)) h.gained k.0 h.pieces k.1);
  octets = k.2 ∙ ap (λ o. o ++ k.0) h.octets ∙ append_assoc old h.gained k.0;
}

all_parts : (dotted : List ℕ) (at : ℕ) → without_dots dotted ≡ without_dots (take at dotted) ++ without_dots (drop at dotted)
all_parts dotted at = ap without_dots (sym (take-append-drop at dotted)) ∙ filter-append (λ c. not (c == 46)) (take at dotted) (drop at dotted)

-- a digit is refused, and so are all
pub digit_refused : (room : Room) (s : DigitsState) (dotted : List ℕ) (at : ℕ) (old middle : List ℕ) (e : ErrorKind) → at < length dotted → get_or dotted at 0 ≢ 46 → HasPushed s dotted at old middle
    → RefusesPiece room s (take (at + 1 - at) (drop at dotted)) middle e → RefusesToken Hex room (without_dots dotted) old e
digit_refused room s dotted at old middle e here other h r =
    let front : List ℕ = without_dots (take at dotted) in
    let next : List ℕ = take (at + 1 - at) (drop at dotted) in
    let behind : RefusesPiece room h.first (front ++ next) old e = refuses_behind room h.first s front next h.gained old middle e h.pieces h.octets r in
    let last : List ℕ = without_dots (drop (at + 1) dotted) in
    let whole : without_dots dotted ≡ (front ++ next) ++ last = all_parts dotted (at + 1) ∙ ap (λ z. z ++ last) (one_more dotted at here other) in
    let all : RefusesPiece room h.first (without_dots dotted) old e = subst (λ z. RefusesPiece room h.first z old e) (sym whole) (refuses_front room h.first (front ++ next) last old e behind) in
    token_refused room h.first (without_dots dotted) old e h.fresh all Hex h.kind

module _ (s : DigitsState) (dotted : List ℕ) (at : ℕ) (old new : List ℕ) (done : length dotted ≤ at) (h : HasPushed s dotted at old new) where
  all_taken : take at dotted ≡ dotted
  all_taken = take_all at dotted done

  kept : s.kind ≡ Hex
  kept = h.pieces.kept ∙ h.kind

  pub all_read : HasRead s (without_dots dotted) h.gained
  all_read = subst (λ t. HasRead s (without_dots t) h.gained) all_taken (reads_on h.first s [] [] (without_dots (take at dotted)) h.gained h.fresh h.pieces)

  pub all_gained : SpellsDigits (base_of s.kind) (without_dots dotted) h.gained → Gains (SpellsDigits base16 (without_dots dotted)) old new
  all_gained spelled = (h.gained, subst (λ (k : DigitsKind). SpellsDigits (base_of k) (without_dots dotted) h.gained) kept spelled, h.octets)

  pub all_refused : (room : Room) (e : ErrorKind) → e ≡ unfinished s.kind → ((v : List ℕ) → SpellsDigits (base_of s.kind) (without_dots dotted) v → ⊥) → RefusesToken Hex room (without_dots dotted) old e
  all_refused room e is never =
      let on = reads_goes_on s (without_dots dotted) h.gained all_read in
      token_unfinished Hex room (without_dots dotted) old e (is ∙ ap unfinished kept) (subst (λ (k : DigitsKind). DigitsContinue k (without_dots dotted)) kept (on.0, _, on.2))
      (subst (λ (k : DigitsKind). (v : List ℕ) → SpellsDigits (base_of k) (without_dots dotted) v → ⊥) kept never)

-- ---- the text

-- a text has one list of digits after `0x`
pub digits_once : (text a b : List ℕ) → HasDigits text a → HasDigits text b → a ≡ b
digits_once text a b h k = h.2 ∙ ap without_dots (same h.1 k.1) ∙ sym k.2
  where
    same : (text ≡ 48 ∷ 120 ∷ h.0) ⊎ (text ≡ 48 ∷ 88 ∷ h.0) → (text ≡ 48 ∷ 120 ∷ k.0) ⊎ (text ≡ 48 ∷ 88 ∷ k.0) → h.0 ≡ k.0
    same (inl x) (inl y) = let both : 48 ∷ 120 ∷ h.0 ≡ 48 ∷ 120 ∷ k.0 = sym x ∙ y in cc both
    same (inl x) (inr y) = let both : 48 ∷ 120 ∷ h.0 ≡ 48 ∷ 88 ∷ k.0 = sym x ∙ y in absurd (omega (arith, ap (λ t. get_or t 1 0) both))
    same (inr x) (inl y) = let both : 48 ∷ 88 ∷ h.0 ≡ 48 ∷ 120 ∷ k.0 = sym x ∙ y in absurd (omega (arith, ap (λ t. get_or t 1 0) both))
    same (inr x) (inr y) = let both : 48 ∷ 88 ∷ h.0 ≡ 48 ∷ 88 ∷ k.0 = sym x ∙ y in cc both

no_octets : (text digits octets : List ℕ) → HasDigits text digits → digits ≡ [] → SpellsNsap text octets → ⊥
no_octets text digits octets has none sp =
    let same : sp.0 ≡ [] = digits_once text sp.0 digits sp.1 has ∙ none in
    sp.3 (spells_once base16 (known Hex) [] octets [] (subst (λ d. SpellsDigits base16 d octets) same sp.2) (nothing_spelled Hex))

pub mark_refused : (room : Room) (text old : List ℕ) → ((digits : List ℕ) → HasDigits text digits → ⊥) → RefusesNsap room text old ExpectedNsap
mark_refused room text old never = inr (inl (refl, λ digits h. absurd (never digits h)), λ octets sp. never sp.0 sp.1)

module _ (room : Room) (text dotted old : List ℕ) (is : (text ≡ 48 ∷ 120 ∷ dotted) ⊎ (text ≡ 48 ∷ 88 ∷ dotted)) where
  has : HasDigits text (without_dots dotted)
  has = (dotted, is, refl)

  spelled_here : (octets : List ℕ) → SpellsNsap text octets → SpellsDigits base16 (without_dots dotted) octets
  spelled_here octets sp = subst (λ d. SpellsDigits base16 d octets) (digits_once text sp.0 (without_dots dotted) sp.1 has) sp.2

  unpadded : PaddedBefore base16 (without_dots dotted) → ⊥
  unpadded p =
      let even : 8 * length p.2 % 8 ≡ 0 = omega arith in
      let shut : opens_group base16 p.2 ≡ false = rw even refl in
      true≢false (sym p.6 ∙ shut)

  some_digits : (e : ErrorKind) → e ≢ ShortBuf → RefusesToken Hex room (without_dots dotted) old e → without_dots dotted ≢ []
  some_digits e other r none = r.none other [] (subst (λ d. SpellsDigits base16 d []) (sym none) (nothing_spelled Hex))

  fault_of : (e : ErrorKind) → e ≢ ShortBuf → without_dots dotted ≢ []
      → (e ≡ ShortBuf) ⊎ (((e ≡ unfinished Hex) × DigitsContinue Hex (without_dots dotted))
      ⊎ ((((e ≡ illegal Hex) × (PaddedBefore (base_of Hex) (without_dots dotted) → ⊥)) ⊎ ((e ≡ TrailingBase64) × PaddedBefore (base_of Hex) (without_dots dotted))) × (DigitsContinue Hex (without_dots dotted) → ⊥)))
      → NsapFault text e
  fault_of e other some (inl short) = absurd (other short)
  fault_of e other some (inr (inl ends)) = inr (without_dots dotted, has, some, inr ends)
  fault_of e other some (inr (inr (inl bad, goes))) = inr (without_dots dotted, has, some, inl (bad.0, goes))
  fault_of e other some (inr (inr (inr bad, goes))) = absurd (unpadded bad.1)

  pub digits_refused : (e : ErrorKind) → RefusesToken Hex room (without_dots dotted) old e → RefusesNsap room text old e
  digits_refused e r = elim (is_short e) [
    | inl short ↦ inl (short, ((r.exceeds short).0, (without_dots dotted, has, (r.exceeds short).1), (r.exceeds short).2))
    | inr other ↦ inr (fault_of e other (some_digits e other r) r.why, λ octets sp. r.none other octets (spelled_here octets sp))
  ]

  -- no octets were gained
  pub none_refused : (new : List ℕ) → Gains (SpellsDigits base16 (without_dots dotted)) old new → length new ≡ length old → RefusesNsap room text old ExpectedNsap
  none_refused new gains same = inr (inl (refl, λ digits h. digits_once text digits (without_dots dotted) h has ∙ empty), λ octets sp. no_octets text (without_dots dotted) octets has empty sp)
    where
      none : length gains.0 ≡ 0
      none = let sum = ap length gains.2 ∙ length-append old gains.0 in omega (arith, sum, same)

      empty : without_dots dotted ≡ []
      empty = let size = hex_digits (without_dots dotted) gains.0 gains.1 in nil_from_length (without_dots dotted) (omega (arith, size, none))

  pub some_gained : (new : List ℕ) → Gains (SpellsDigits base16 (without_dots dotted)) old new → length new ≢ length old → Gains (SpellsNsap text) old new
  some_gained new gains more =
      (gains.0, (without_dots dotted, has, gains.1, λ none. more (ap length gains.2 ∙ ap (λ o. length (old ++ o)) none ∙ ap length (append-nil old))), gains.2)

-- ---- printing

small_digit : (n : ℕ) → n < 16 → capital (pair_digit 97 n) ≡ digit_char base16 n
unfolding digit_char
small_digit n few = eqb-true (capital (pair_digit 97 n)) (slice_index base16.alphabet n) (all_below_at (λ n. capital (pair_digit 97 n) == slice_index base16.alphabet n) 16 n refl few)

pair_spells : (o : ℕ) → o < 256 → SpellsDigits base16 (pair_text 97 o) (o ∷ [])
unfolding encoded padded
pair_spells o low = record {
  bytes = All-cons (λ o. o < 256) o [] low (All-nil (λ o. o < 256));
  text_is = ap (λ c. c ∷ capital (pair_digit 97 (o % 16)) ∷ []) (small_digit (o / 16) (omega (arith, low)))
      ∙ ap (λ c. digit_char base16 (o / 16) ∷ c ∷ []) (small_digit (o % 16) (omega arith)) ∙ ap (λ ds. padded 1 (map (digit_char base16) ds)) (sym (pieces_of_octet o low));
}

closed : (o : ℕ) → opens_group base16 (o ∷ []) ≡ false
closed o = refl

pairs_spell : (octets : List ℕ) → AreOctetValues octets → SpellsDigits base16 (small_pairs octets) octets
pairs_spell [] all = nothing_spelled Hex
pairs_spell (o ∷ os) all =
    spells_joined Hex (pair_text 97 o) (small_pairs os) (o ∷ []) os (pair_spells o (All-head (λ o. o < 256) o os all)) (closed o) (pairs_spell os (All-tail (λ o. o < 256) o os all))

no_dot : (n : ℕ) → n < 16 → pair_digit 97 n ≢ 46
no_dot n few is = grind (arith, nat_tests, is)

no_dots : (octets : List ℕ) → AreOctetValues octets → without_dots (small_pairs octets) ≡ small_pairs octets
no_dots [] all = refl
no_dots (o ∷ os) all =
    let low = All-head (λ o. o < 256) o os all in
    let parts = filter-append (λ c. not (c == 46)) (pair_text 97 o) (small_pairs os) in
    let pair : without_dots (pair_text 97 o) ≡ pair_text 97 o = both (pair_digit 97 (o / 16)) (pair_digit 97 (o % 16)) (no_dot (o / 16) (omega (arith, low))) (no_dot (o % 16) (omega arith)) in
    parts ∙ ap (λ z. z ++ without_dots (small_pairs os)) pair ∙ ap (λ z. pair_text 97 o ++ z) (no_dots os (All-tail (λ o. o < 256) o os all))
  where
    both : (a b : ℕ) → a ≢ 46 → b ≢ 46 → without_dots (a ∷ b ∷ []) ≡ a ∷ b ∷ []
    both a b x y = by (a == 46) (b == 46) refl refl
      where
        by : (p q : Bool) → (a == 46) ≡ p → (b == 46) ≡ q → (if not p then a ∷ (if not q then b ∷ [] else []) else if not q then b ∷ [] else []) ≡ a ∷ b ∷ []
        by true q e f = absurd (x (eqb-true a 46 e))
        by false true e f = absurd (y (eqb-true b 46 f))
        by false false e f = refl

nsap_back : (octets : List ℕ) → AreOctetValues octets → octets ≢ [] → SpellsNsap (nsap_text octets) octets
nsap_back octets all some = (small_pairs octets, (small_pairs octets, inl refl, sym (no_dots octets all)), pairs_spell octets all, some)

nsap_once : (text a b : List ℕ) → SpellsNsap text a → SpellsNsap text b → a ≡ b
nsap_once text a b h k = spells_once base16 (known Hex) k.0 a b (subst (λ d. SpellsDigits base16 d a) (digits_once text h.0 k.0 h.1 k.1) h.2) k.2

nsap_within : (text front octets : List ℕ) → BeginsNsap text front → SpellsNsap text octets → length front ≤ length octets
nsap_within text front octets h k =
    let begun = h.2 in
    let fresh : DigitsState = record { kind = Hex; begun = []; ended = false } in
    let all : SpellsDigits base16 h.0 octets = subst (λ d. SpellsDigits base16 d octets) (digits_once text k.0 h.0 k.1 h.1) k.2 in
    least_begun fresh h.0 front octets (refl, begun.0, begun.1, begun.2, begun.3, begun.4) (refl, ([], subst (λ d. SpellsDigits base16 d octets) (sym (append-nil h.0)) all))

pub nsap_is_read : AreNsapRead
nsap_is_read = record { back = nsap_back; once = nsap_once; within = nsap_within }
