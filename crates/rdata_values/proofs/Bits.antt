-- Bits of octets by their index from the left.
use Rattle.std.proofs.Common.{◌≡◌, ◌≢◌, ℕ, ◌+◌, ◌-◌, ◌*◌, ◌/◌, ◌%◌, ◌^◌, ◌<◌, ◌==◌, Bool, true, false, cond, ◌||◌, List, [], ◌∷◌, length, get_or, set, inl, inr, refl, sym, ap, ◌∙◌, arith, bit_or, zero, suc, w8}
use Rattle.std.specs.Int.{bit_at}
use Rattle.std.proofs.lemmas.List.{get_or-set_same, get_or-set_other, ext_get_or}
use Rattle.std.proofs.lemmas.List.FromFn.{get_or-map-range_with_len, length-map-range_with_len}
use Rattle.std.proofs.lemmas.Bool.{cases_eq, eq-eqb, ne_eqb}
use Rattle.std.proofs.lemmas.Nat.Bits.{bit_at_set_same, bit_at_set_other, same_from_bits_below}
use Rattle.rdata_values.specs.Bitmap.{has, one_if, bit_in, types_octet, window_octets_of}

bit_small : (b : Bool) → one_if b < 2
bit_small true = omega arith
bit_small false = omega arith

-- the bits of a sum of eight
eighth : (i a b c d e f g h : ℕ) → i < 8 → a < 2 → b < 2 → c < 2 → d < 2 → e < 2 → f < 2 → g < 2 → h < 2
    → bit_at (128 * a + 64 * b + 32 * c + 16 * d + 8 * e + 4 * f + 2 * g + h) (7 - i) ≡ get_or (a ∷ b ∷ c ∷ d ∷ e ∷ f ∷ g ∷ h ∷ []) i 0
eighth zero a b c d e f g h _ p q r s t u v w = omega arith
eighth (suc zero) a b c d e f g h _ p q r s t u v w = omega arith
eighth (suc (suc zero)) a b c d e f g h _ p q r s t u v w = omega arith
eighth (suc (suc (suc zero))) a b c d e f g h _ p q r s t u v w = omega arith
eighth (suc (suc (suc (suc zero)))) a b c d e f g h _ p q r s t u v w = omega arith
eighth (suc (suc (suc (suc (suc zero))))) a b c d e f g h _ p q r s t u v w = omega arith
eighth (suc (suc (suc (suc (suc (suc zero)))))) a b c d e f g h _ p q r s t u v w = omega arith
eighth (suc (suc (suc (suc (suc (suc (suc zero))))))) a b c d e f g h _ p q r s t u v w = omega arith
eighth (suc (suc (suc (suc (suc (suc (suc (suc i)))))))) a b c d e f g h l p q r s t u v w = absurd (omega arith)

read_eight : (types : List ℕ) (first i : ℕ) → i < 8
    → get_or (one_if (has types first) ∷ one_if (has types (first + 1)) ∷ one_if (has types (first + 2)) ∷ one_if (has types (first + 3)) ∷ one_if (has types (first + 4)) ∷ one_if (has types (first + 5)) ∷ one_if (has types (first + 6)) ∷ one_if (has types (first + 7)) ∷ []) i 0
    ≡ one_if (has types (first + i))
read_eight types first zero _ = ap (λ n. one_if (has types n)) (omega arith)
read_eight types first (suc zero) _ = refl
read_eight types first (suc (suc zero)) _ = refl
read_eight types first (suc (suc (suc zero))) _ = refl
read_eight types first (suc (suc (suc (suc zero)))) _ = refl
read_eight types first (suc (suc (suc (suc (suc zero))))) _ = refl
read_eight types first (suc (suc (suc (suc (suc (suc zero)))))) _ = refl
read_eight types first (suc (suc (suc (suc (suc (suc (suc zero))))))) _ = refl
read_eight types first (suc (suc (suc (suc (suc (suc (suc (suc i)))))))) l = absurd (omega arith)

octet_bit : (types : List ℕ) (first i : ℕ) → i < 8 → bit_at (types_octet types first) (7 - i) ≡ one_if (has types (first + i))
unfolding types_octet
octet_bit types first i l =
    eighth i _ _ _ _ _ _ _ _ l (bit_small (has types first)) (bit_small (has types (first + 1))) (bit_small (has types (first + 2))) (bit_small (has types (first + 3)))
    (bit_small (has types (first + 4))) (bit_small (has types (first + 5))) (bit_small (has types (first + 6))) (bit_small (has types (first + 7)))
    ∙ read_eight types first i l

octet_small : (types : List ℕ) (first : ℕ) → types_octet types first < 256
unfolding types_octet
octet_small types first =
    omega (
      arith,
      bit_small (has types first),
      bit_small (has types (first + 1)),
      bit_small (has types (first + 2)),
      bit_small (has types (first + 3)),
      bit_small (has types (first + 4)),
      bit_small (has types (first + 5)),
      bit_small (has types (first + 6)),
      bit_small (has types (first + 7)),
    )

pub octets_length : (types : List ℕ) (window : ℕ) → length (window_octets_of types window) ≡ 32
unfolding window_octets_of
octets_length types window = length-map-range_with_len (λ k. types_octet types (256 * window + 8 * k)) 0 32

octet_at : (types : List ℕ) (window k : ℕ) → k < 32 → get_or (window_octets_of types window) k 0 ≡ types_octet types (256 * window + 8 * k)
unfolding window_octets_of
octet_at types window k l = get_or-map-range_with_len (λ j. types_octet types (256 * window + 8 * j)) 0 32 k k 0 l (omega arith)

pub octets_small : (types : List ℕ) (window k : ℕ) → k < 32 → get_or (window_octets_of types window) k 0 < 256
octets_small types window k l = let e = octet_at types window k l in let s = octet_small types (256 * window + 8 * k) in omega arith

-- the bit at an index is that of its code
pub bit_of_place : (types : List ℕ) (window p : ℕ) → p < 256 → bit_in (window_octets_of types window) p ≡ one_if (has types (256 * window + p))
bit_of_place types window p l =
    let below : p / 8 < 32 = omega arith in
    let inside : p % 8 < 8 = omega arith in
    ap (λ x. bit_at x (7 - p % 8)) (octet_at types window (p / 8) below)
    ∙ octet_bit types (256 * window + 8 * (p / 8)) (p % 8) inside
    ∙ ap (λ n. one_if (has types n)) (omega arith)

-- octets with the same bits are equal
pub same_octet : (xs ys : List ℕ) (k : ℕ) → get_or xs k 0 < 256 → get_or ys k 0 < 256 → ((p : ℕ) → p / 8 ≡ k → bit_in xs p ≡ bit_in ys p) → get_or xs k 0 ≡ get_or ys k 0
same_octet xs ys k a b h = same_from_bits_below 8 (get_or xs k 0) (get_or ys k 0) a b (λ i l.
    let at : (8 * k + (7 - i)) / 8 ≡ k = omega arith in
    let bit_place : 7 - (8 * k + (7 - i)) % 8 ≡ i = omega arith in
    let e = h (8 * k + (7 - i)) at in
    rw (at, bit_place) at e)

same_bit : (xs : List ℕ) (q p : ℕ) → q / 8 < length xs → q ≡ p
    → bit_in (set xs (q / 8) (bit_or (get_or xs (q / 8) 0) (1 * 2 ^ (7 - q % 8) % 2 ^ 8))) p ≡ 1
same_bit xs q p l e =
    let k : 7 - q % 8 < 8 = omega arith in
    ap (λ n. bit_in (set xs (q / 8) (bit_or (get_or xs (q / 8) 0) (1 * 2 ^ (7 - q % 8) % 2 ^ 8))) n) (sym e)
    ∙ ap (λ x. bit_at x (7 - q % 8)) (get_or-set_same xs (q / 8) _ 0 l)
    ∙ bit_at_set_same w8 (get_or xs (q / 8) 0) (7 - q % 8) k

other_bit : (xs : List ℕ) (q p : ℕ) → q / 8 < length xs → q / 8 ≡ p / 8 → (q ≡ p → ⊥)
    → bit_in (set xs (q / 8) (bit_or (get_or xs (q / 8) 0) (1 * 2 ^ (7 - q % 8) % 2 ^ 8))) p ≡ bit_in xs p
other_bit xs q p l d n =
    let k : 7 - q % 8 < 8 = omega arith in
    let apart : 7 - p % 8 ≢ 7 - q % 8 = (λ same. n (omega arith)) in
    ap (λ j. bit_at (get_or (set xs (q / 8) (bit_or (get_or xs (q / 8) 0) (1 * 2 ^ (7 - q % 8) % 2 ^ 8))) j 0) (7 - p % 8)) (sym d)
    ∙ ap (λ x. bit_at x (7 - p % 8)) (get_or-set_same xs (q / 8) _ 0 l)
    ∙ bit_at_set_other w8 (get_or xs (q / 8) 0) (7 - q % 8) k (7 - p % 8) apart
    ∙ ap (λ j. bit_at (get_or xs j 0) (7 - p % 8)) d

-- a bit set at the index q
pub set_place : (xs : List ℕ) (q p : ℕ) → q / 8 < length xs
    → bit_in (set xs (q / 8) (bit_or (get_or xs (q / 8) 0) (1 * 2 ^ (7 - q % 8) % 2 ^ 8))) p ≡ cond (q == p) 1 (bit_in xs p)
set_place xs q p l = elim (cases_eq q p) [
  | inl e ↦ same_bit xs q p l e ∙ sym (ap (λ b. cond b 1 (bit_in xs p)) (eq-eqb q p e))
  | inr n ↦ (elim (cases_eq (q / 8) (p / 8)) [
    | inl d ↦ other_bit xs q p l d n
    | inr d ↦ ap (λ x. bit_at x (7 - p % 8)) (get_or-set_other xs (q / 8) (p / 8) _ 0 (λ e. d (sym e)))
  ]) ∙ sym (ap (λ b. cond b 1 (bit_in xs p)) (ne_eqb q p n))
]

pub or_false : (b : Bool) → (b || false) ≡ b
or_false true = refl
or_false false = refl

-- all 32 octets are known by their bits
pub octets_by_bits : (types xs : List ℕ) (window : ℕ) → length xs ≡ 32 → ((k : ℕ) → get_or xs k 0 < 256)
    → ((p : ℕ) → p < 256 → bit_in xs p ≡ one_if (has types (256 * window + p))) → xs ≡ window_octets_of types window
octets_by_bits types xs window n small h =
    ext_get_or 0 xs (window_octets_of types window) (n ∙ sym (octets_length types window)) (λ k l.
    same_octet xs (window_octets_of types window) k (small k) (octets_small types window k (omega arith)) (λ p at.
    let below : p < 256 = omega arith in h p below ∙ sym (bit_of_place types window p below)))
