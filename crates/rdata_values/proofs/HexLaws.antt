-- Octets in pairs of hexadecimal digits: they are written so, and in one way.
use Rattle.std.proofs.Common.{ℕ, zero, suc, ◌≡◌, ◌<◌, ◌+◌, ◌*◌, ◌/◌, ◌%◌, List, [], ◌∷◌, ◌++◌, length, get_or, take, refl, sym, subst, arith, ap, ◌∙◌, ext_get_or}
use Rattle.std.specs.Prelude.{All}
use Rattle.std.specs.Char.{digit_value}
use Rattle.std.proofs.lemmas.Bool.Decides.{nat_tests}
use Rattle.std.proofs.lemmas.List.Elements.{All-head, All-tail}
use Rattle.rdata_values.specs.Hex.{IsPair, IsHex, pair_digit, pair_text, pairs_text, small_pairs}

upper : (n : ℕ) → n < 16 → digit_value (pair_digit 65 n) ≡ n
upper n small = Prim.grind (arith, nat_tests)

-- a pair is the same pair after one more character before it
pub pair_behind : (c : ℕ) (text : List ℕ) (at o : ℕ) → IsPair text at o → IsPair (c ∷ text) (suc at) o
pair_behind c text at o h =
    let e : suc at + 1 ≡ suc (at + 1) = omega arith in
    let same : get_or (c ∷ text) (suc at + 1) 0 ≡ get_or text (at + 1) 0 = ap (λ n. get_or (c ∷ text) n 0) e in
    record { high = h.high; low = rw same h.low; value = rw same h.value }

-- the digits of an octet, by a letter for ten that is one
pub written_pair : (ten : ℕ) → ((n : ℕ) → n < 16 → digit_value (pair_digit ten n) ≡ n) → (o : ℕ) (text : List ℕ) → o < 256 → IsPair (pair_text ten o ++ text) 0 o
written_pair ten digit o text small =
    let high = digit (o / 16) (omega (arith, small)) in
    let low = digit (o % 16) (omega arith) in
    record { high = omega (arith, high, small); low = omega (arith, low); value = omega (arith, high, low) }

hex_pairs : (os : List ℕ) → All (λ o. o < 256) os → (k : ℕ) → k < length os → IsPair (pairs_text os) (2 * k) (get_or os k 0)
hex_pairs [] h k here = absurd (omega (arith, here))
hex_pairs (o ∷ os) h zero here = written_pair 65 upper o (pairs_text os) (All-head (λ o. o < 256) o os h)
hex_pairs (o ∷ os) h (suc k) here =
    let e : 2 * suc k ≡ suc (suc (2 * k)) = omega arith in
    subst (λ at. IsPair (pairs_text (o ∷ os)) at (get_or os k 0)) (sym e)
    (pair_behind _ _ _ _ (pair_behind _ (pairs_text os) (2 * k) (get_or os k 0) (hex_pairs os (All-tail (λ o. o < 256) o os h) k (omega (arith, here)))))

hex_length : (os : List ℕ) → length (pairs_text os) ≡ 2 * length os
hex_length [] = refl
hex_length (o ∷ os) = let more = hex_length os in omega (arith, more)

pub is_hex : (os : List ℕ) → All (λ o. o < 256) os → IsHex (pairs_text os) os
is_hex os h = record { whole = hex_length os; pairs = hex_pairs os h }

-- pairs of digits write one octet each
pub one_way : (stride : ℕ) (text os ps : List ℕ) → length os ≡ length ps → ((k : ℕ) → k < length os → IsPair text (stride * k) (get_or os k 0)) → ((k : ℕ) → k < length ps → IsPair text (stride * k) (get_or ps k 0)) → os ≡ ps
one_way stride text os ps same h k = ext_get_or 0 os ps same (λ i here. (h i here).value ∙ sym (k i (omega (arith, here, same))).value)

-- the text of one octet more
pub hex_more : (os : List ℕ) (i : ℕ) → i < length os → pairs_text (take (i + 1) os) ≡ pairs_text (take i os) ++ pair_text 65 (get_or os i 0)
hex_more [] i here = absurd (omega (arith, here))
hex_more (o ∷ os) zero here = refl
hex_more (o ∷ os) (suc i) here = let e : suc i + 1 ≡ suc (i + 1) = omega arith in rw e (ap (λ text. pair_text 65 o ++ text) (hex_more os i (omega (arith, here))))

-- the same in lower case
pub small_more : (os : List ℕ) (i : ℕ) → i < length os → small_pairs (take (i + 1) os) ≡ small_pairs (take i os) ++ pair_text 97 (get_or os i 0)
small_more [] i here = absurd (omega (arith, here))
small_more (o ∷ os) zero here = refl
small_more (o ∷ os) (suc i) here = let e : suc i + 1 ≡ suc (i + 1) = omega arith in rw e (ap (λ text. pair_text 97 o ++ text) (small_more os i (omega (arith, here))))
