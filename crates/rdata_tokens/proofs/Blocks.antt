-- Whole groups, a block at a time.
use Rattle.std.proofs.Common.{◌≡◌, ◌≢◌, ℕ, ◌+◌, ◌-◌, ◌*◌, ◌/◌, ◌%◌, ◌<◌, ◌≤◌, false, List, [], ◌∷◌, ◌++◌, length, take, drop, refl, sym, ap, subst, ◌∙◌, arith, length-append, min, inl}
use Rattle.std.proofs.Math.Seq.{take-add}
use Rattle.std.proofs.lemmas.List.{length-take-le, take-append-drop}
use Rattle.dns_octets.specs.Room.{Room}
use Rattle.rdata_tokens.specs.Spelled.{SpellsDigits, opens_group, base_of}
use Rattle.rdata_tokens.specs.Reading.{DigitsState, AcceptsPiece, RefusesPiece}
use Rattle.rdata_tokens.specs.declared.kind.DigitsKind.{DigitsKind}
use Rattle.rdata_tokens.specs.declared.kind.DigitsKind.TheVariants.{Hex, Base64}
use Rattle.rdata_values.specs.declared.error.ErrorKind.TheVariants.{ShortBuf}
use Rattle.rdata_tokens.proofs.Spelling.{known, spells_once, spells_joined, opens_joined}
use Rattle.rdata_tokens.proofs.Pieces.{nothing_spelled, nothing_open, cons_not_nil, closes, takes_none, takes_some}

-- the end of the next block
pub block_end : (k : DigitsKind) (size at m total : ℕ) → size ≡ (base_of k).group → at % (base_of k).group ≡ 0 → m ≤ total - at - 1 → size < total - at
    → (at + m / size * size < total) × ((at + m / size * size) % (base_of k).group ≡ 0)
block_end Hex size at m total is even few lots = let e : size ≡ 2 = is in rw e (omega (arith, even, few, lots, e), omega (arith, even))
block_end Base64 size at m total is even few lots = let e : size ≡ 4 = is in rw e (omega (arith, even, few, lots, e), omega (arith, even))

pub least_min : (a b m : ℕ) → m ≡ min a b → m ≤ a
least_min a b m is = omega arith

-- what was read up to an offset
pub record Blocks (k : DigitsKind) (digits : List ℕ) (at : ℕ) (gained : List ℕ) : Type 0 where
  pub spelled : SpellsDigits (base_of k) (take at digits) gained
  pub closed : opens_group (base_of k) gained ≡ false

pub no_blocks : (k : DigitsKind) (digits : List ℕ) → Blocks k digits 0 []
no_blocks k digits = record { spelled = nothing_spelled k; closed = nothing_open k }

pub more_blocks : (k : DigitsKind) (digits : List ℕ) (at next : ℕ) (gained more : List ℕ) → Blocks k digits at gained → at ≤ next → SpellsDigits (base_of k) (take (next - at) (drop at digits)) more → opens_group (base_of k) more ≡ false
    → Blocks k digits next (gained ++ more)
more_blocks k digits at next gained more b on spelled closed =
    let e : at + (next - at) ≡ next = omega arith in
    let text : take next digits ≡ take at digits ++ take (next - at) (drop at digits) = ap (λ n. take n digits) (sym e) ∙ take-add at (next - at) digits in
    record {
      spelled = subst (λ t. SpellsDigits (base_of k) t (gained ++ more)) (sym text) (spells_joined k (take at digits) (take (next - at) (drop at digits)) gained more b.spelled b.closed spelled);
      closed = opens_joined k gained more b.closed ∙ closed;
    }

pub front_whole : (k : DigitsKind) (digits : List ℕ) (at : ℕ) → at < length digits → at % (base_of k).group ≡ 0 → length (take at digits) % (base_of k).group ≡ 0
front_whole k digits at within even = let len : length (take at digits) ≡ at = length-take-le at digits (omega arith) in rw len even

-- the target has no room for the next block
pub no_room : (fits : ℕ) (old now gained more : List ℕ) → now ≡ old ++ gained → (length more ≤ fits - length now → ⊥) → fits < length old + length (gained ++ more)
no_room fits old now gained more is full =
    let a = ap length is ∙ length-append old gained in
    let b = length-append gained more in
    omega (arith, a, b, full)

pub some_room : (fits : ℕ) (now gained more : List ℕ) → (length more ≤ fits - length now → ⊥) → 0 < length (gained ++ more)
some_room fits now gained more full = omega (arith, length-append gained more, full)

-- ---- blocks as a piece, if no group is begun

module _ (s : DigitsState) (digits : List ℕ) (goes : s.ended ≡ false) (none : s.begun ≡ []) where
  pub takes_blocks : (n : ℕ) (gained : List ℕ) → length (take n digits) % (base_of s.kind).group ≡ 0 → SpellsDigits (base_of s.kind) (take n digits) gained → opens_group (base_of s.kind) gained ≡ false → AcceptsPiece s (take n digits) gained s
  takes_blocks n gained whole spelled closed = by (take n digits) refl
    where
      by : (xs : List ℕ) → xs ≡ take n digits → AcceptsPiece s xs gained s
      by [] is =
          let none_gained : gained ≡ [] = spells_once (base_of s.kind) (known s.kind) [] gained [] (subst (λ t. SpellsDigits (base_of s.kind) t gained) (sym is) spelled) (nothing_spelled s.kind) in
          subst (λ u. AcceptsPiece s [] u s) (sym none_gained) (takes_none s)
      by (x ∷ xs) is =
          let text : s.begun ++ x ∷ xs ≡ take n digits = ap (λ t. t ++ x ∷ xs) none ∙ is in
          takes_some s s (x ∷ xs) gained refl (cons_not_nil x xs) goes (closes s (s.begun ++ x ∷ xs) gained none
          (subst (λ t. SpellsDigits (base_of s.kind) t gained) (sym text) spelled) (ap (λ t. length t % (base_of s.kind).group) text ∙ whole) (goes ∙ sym closed))

  pub lacks_blocks : (room : Room) (old : List ℕ) (n : ℕ) (gained : List ℕ) → length (take n digits) % (base_of s.kind).group ≡ 0 → SpellsDigits (base_of s.kind) (take n digits) gained
      → digits ≢ [] → 0 < length gained → room.fits < length old + length gained → RefusesPiece room s digits old ShortBuf
  lacks_blocks room old n gained whole spelled some more full = record {
    some = some;
    why = inl refl;
    exceeds = λ short. (
        let here : SpellsDigits (base_of s.kind) (s.begun ++ take n digits) gained = subst (λ (b : List ℕ). SpellsDigits (base_of s.kind) (b ++ take n digits) gained) (sym none) spelled in
        (gained, (goes, take n digits, drop n digits, sym (take-append-drop n digits), here, more), full)
        );
    none = λ other. absurd (other refl);
  }
