-- One digit after those of the group begun.
use Rattle.std.proofs.Common.{◌≡◌, ℕ, ◌+◌, ◌-◌, ◌%◌, ◌<◌, ◌≤◌, true, false, List, [], ◌∷◌, ◌++◌, length, take, refl, sym, ap, subst, ◌∙◌, arith, inl, inr, append-nil, length-append, append_assoc}
use Rattle.std.specs.Prelude.{Result, Ok, Err, IsOk, is_err}
use Rattle.dns_octets.specs.Room.{Room}
use Rattle.rdata_tokens.specs.Spelled.{SpellsDigits, opens_group, base_of, illegal}
use Rattle.rdata_tokens.specs.Reading.{DigitsState, AcceptsPiece, MayGain, BeginsToGain, RefusesPiece}
use Rattle.rdata_tokens.specs.declared.kind.DigitsKind.{DigitsKind}
use Rattle.rdata_tokens.specs.declared.kind.DigitsKind.TheVariants.{Hex, Base64}
use Rattle.rdata_values.specs.declared.error.ErrorKind.{ErrorKind}
use Rattle.rdata_values.specs.declared.error.ErrorKind.TheVariants.{ShortBuf}
use Rattle.rdata_tokens.proofs.Spelling.{known, spells_once, spells_split, spelled_whole}
use Rattle.rdata_tokens.proofs.Pieces.{never_illegal, apart_digit, cons_not_nil, begins, closes, takes_some, held_length}

pub held_within : (k : DigitsKind) (held : List ℕ) (count : ℕ) → count < (base_of k).group → length held ≡ 4 → count < length held
held_within Hex held count few four = omega (arith, few, four)
held_within Base64 held count few four = omega (arith, few, four)

pub last_digit : (k : DigitsKind) (count : ℕ) → count < (base_of k).group → (base_of k).group ≤ count + 1 → (count + 1) % (base_of k).group ≡ 0
last_digit Hex count few full = let e : count ≡ 1 = omega (arith, few, full) in rw e refl
last_digit Base64 count few full = let e : count ≡ 3 = omega (arith, few, full) in rw e refl

pub whole_group : (k : DigitsKind) (held : List ℕ) (count digit : ℕ) → count < (base_of k).group → length held ≡ 4 → (base_of k).group ≤ count + 1 → length (take count held ++ digit ∷ []) % (base_of k).group ≡ 0
whole_group k held count digit few four full =
    let len : length (take count held ++ digit ∷ []) ≡ count + 1 = length-append (take count held) (digit ∷ []) ∙ ap (λ n. n + 1) (held_length k held count few four) in
    ap (λ n. n % (base_of k).group) len ∙ last_digit k count few full

pub few_begun : (k : DigitsKind) (held : List ℕ) (count digit : ℕ) → count < (base_of k).group → length held ≡ 4 → count + 1 < (base_of k).group → length (take count held ++ digit ∷ []) < (base_of k).group
few_begun k held count digit few four more =
    let len : length (take count held ++ digit ∷ []) ≡ count + 1 = length-append (take count held) (digit ∷ []) ∙ ap (λ n. n + 1) (held_length k held count few four) in
    rw len more

pub few_digits : (k : DigitsKind) (held : List ℕ) (count digit : ℕ) → count < (base_of k).group → length held ≡ 4 → length (take count held ++ digit ∷ []) ≤ (base_of k).group
few_digits k held count digit few four =
    let len : length (take count held ++ digit ∷ []) ≡ count + 1 = length-append (take count held) (digit ∷ []) ∙ ap (λ n. n + 1) (held_length k held count few four) in
    omega (arith, len, few)

pub not_ok : {T E : Type 0} (r : Result T E) → true ≡ is_err r → IsOk r → ⊥
not_ok (Ok x) is ok = cc is
not_ok (Err e) is ok = cc ok

-- what spells no octets does not continue to any
pub none_on : (k : DigitsKind) (xs : List ℕ) → length xs % (base_of k).group ≡ 0 → ((v : List ℕ) → SpellsDigits (base_of k) xs v → ⊥) → (rest v : List ℕ) → SpellsDigits (base_of k) (xs ++ rest) v → ⊥
none_on k xs whole none [] v s = none v (subst (λ t. SpellsDigits (base_of k) t v) (append-nil xs) s)
none_on k xs whole none (y ∷ ys) v s =
    let split = spells_split k xs (y ∷ ys) v whole (omega arith) s in
    none split.first split.front

-- what spells octets does not continue to fewer
pub least_on : (k : DigitsKind) (xs rest u v : List ℕ) → length xs % (base_of k).group ≡ 0 → SpellsDigits (base_of k) xs u → SpellsDigits (base_of k) (xs ++ rest) v → length u ≤ length v
least_on k xs [] u v whole s t =
    let same = spells_once (base_of k) (known k) xs u v s (subst (λ z. SpellsDigits (base_of k) z v) (append-nil xs) t) in
    rw same (omega arith)
least_on k xs (y ∷ ys) u v whole s t =
    let split = spells_split k xs (y ∷ ys) v whole (omega arith) t in
    let same = ap length (spells_once (base_of k) (known k) xs u split.first s split.front) in
    let sum = ap length split.parts ∙ length-append split.first split.later in
    omega (arith, same, sum)

-- a beginning of a piece gains no more than the piece and what may follow it
pub least_begun : (s : DigitsState) (piece w v : List ℕ) → BeginsToGain s piece w → MayGain s piece v → length w ≤ length v
least_begun s piece w v b g =
    let front : List ℕ = b.1 in
    let rest : List ℕ = b.2 in
    let more : List ℕ = g.1.0 in
    let text : (s.begun ++ piece) ++ more ≡ (s.begun ++ front) ++ (rest ++ more) =
    ap (λ p. (s.begun ++ p) ++ more) b.3 ∙ (ap (λ t. t ++ more) (sym (append_assoc s.begun front rest)) ∙ append_assoc (s.begun ++ front) rest more) in
    least_on s.kind (s.begun ++ front) (rest ++ more) w v (spelled_whole s.kind (s.begun ++ front) w b.4) b.4 (subst (λ t. SpellsDigits (base_of s.kind) t v) text g.1.1)

module _ (room : Room) (s : DigitsState) (digit : ℕ) (old : List ℕ) where
  pub digit_illegal : (e : ErrorKind) → e ≡ illegal s.kind → s.ended ≡ false → length (s.begun ++ digit ∷ []) ≤ (base_of s.kind).group → ((rest v : List ℕ) → SpellsDigits (base_of s.kind) ((s.begun ++ digit ∷ []) ++ rest) v → ⊥) → RefusesPiece room s (digit ∷ []) old e
  digit_illegal e is goes few never = record {
    some = cons_not_nil digit [];
    why = inr (inl (is, apart_digit s digit goes few));
    exceeds = λ short. absurd (never_illegal s.kind (sym is ∙ short));
    none = λ other v g. never g.1.0 v g.1.1;
  }

  pub digit_short : (u : List ℕ) → s.ended ≡ false → length (s.begun ++ digit ∷ []) % (base_of s.kind).group ≡ 0 → SpellsDigits (base_of s.kind) (s.begun ++ digit ∷ []) u → (length u ≤ room.fits - length old → ⊥)
      → RefusesPiece room s (digit ∷ []) old ShortBuf
  digit_short u goes whole spelled full = record {
    some = cons_not_nil digit [];
    why = inl refl;
    exceeds = λ short. (u, (goes, digit ∷ [], [], refl, spelled, omega (arith, full)), omega (arith, full));
    none = λ other. absurd (other refl);
  }

module _ (s n : DigitsState) (digit : ℕ) (kept : n.kind ≡ s.kind) (goes : s.ended ≡ false) where
  pub digit_begun : (rest v : List ℕ) → n.ended ≡ false → n.begun ≡ s.begun ++ digit ∷ [] → length (s.begun ++ digit ∷ []) < (base_of n.kind).group → SpellsDigits (base_of n.kind) (n.begun ++ rest) v → AcceptsPiece s (digit ∷ []) [] n
  digit_begun rest v ended text few spelled = takes_some s n (digit ∷ []) [] kept (cons_not_nil digit []) goes
      (begins n (s.begun ++ digit ∷ []) rest v (sym text) few ended (subst (λ t. SpellsDigits (base_of n.kind) (t ++ rest) v) text spelled))

  pub digit_closed : (u : List ℕ) → n.begun ≡ [] → n.ended ≡ opens_group (base_of n.kind) u → length (s.begun ++ digit ∷ []) % (base_of n.kind).group ≡ 0 → SpellsDigits (base_of n.kind) (s.begun ++ digit ∷ []) u
      → AcceptsPiece s (digit ∷ []) u n
  digit_closed u none ended whole spelled = takes_some s n (digit ∷ []) u kept (cons_not_nil digit []) goes (closes n (s.begun ++ digit ∷ []) u none spelled whole ended)
