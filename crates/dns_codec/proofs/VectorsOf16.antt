-- Base 16 by vectors.
use Rattle.std.proofs.Common.{◌≡◌, ℕ, zero, suc, ◌+◌, ◌*◌, ◌/◌, ◌%◌, ◌<◌, ◌≤◌, List, [], ◌∷◌, ◌++◌, length, take, drop, map, get_or, bit_and, bit_or, append_assoc, refl, sym, ap, subst, ◌∙◌, arith}
use Rattle.std.specs.List.{AllByRecursion}
use Rattle.std.proofs.Math.Seq.{take-add}
use Rattle.std.proofs.lemmas.Nat.{and_mask, or_shifted}
use Rattle.std.proofs.lemmas.List.{drop-drop, map-append}
use Rattle.std.proofs.lemmas.Simd.{length-put_chunk, pick_l_whole, take_more_put_chunk}
use lib.Lanes.{chunk, pick_l, put_chunk}
use Rattle.dns_codec.specs.Bits.{low_digits, digits, whole}
use Rattle.dns_codec.proofs.Encoding.{digits-append, digits-nil}
use Rattle.dns_codec.proofs.Groups.{whole_group}
use Rattle.dns_codec.proofs.Halves.{pieces_of_octet}
use Rattle.dns_codec.proofs.Vectors.{kept_after}
use Rattle.dns_codec.proofs.Wholes.{whole-append, whole-nil}

-- ---- from octets to characters

abbrev pub two_by : (ℕ → ℕ) → (ℕ → ℕ) → List ℕ → List ℕ
two_by f g [] = []
two_by f g (x ∷ xs) = f x ∷ g x ∷ two_by f g xs

-- a lane of each of two vectors in turn
abbrev in_turn : List ℕ
in_turn = 0 ∷ 16 ∷ 1 ∷ 17 ∷ 2 ∷ 18 ∷ 3 ∷ 19 ∷ 4 ∷ 20 ∷ 5 ∷ 21 ∷ 6 ∷ 22 ∷ 7 ∷ 23 ∷ 8 ∷ 24 ∷ 9 ∷ 25 ∷ 10 ∷ 26 ∷ 11 ∷ 27 ∷ 12 ∷ 28 ∷ 13 ∷ 29 ∷ 14 ∷ 30 ∷ 15 ∷ 31 ∷ []

pub interleaved : (f g : ℕ → ℕ) (v high low : List ℕ) → length v ≡ 16 → high ≡ map f v → low ≡ map g v → pick_l 0 (high ++ low) in_turn ≡ two_by f g v
interleaved f g v high low long is_high is_low = rw (is_high, is_low) (subst (λ u. pick_l 0 (map f u ++ map g u) in_turn ≡ two_by f g u) (pick_l_whole 0 v 16 long) refl)

single_below : (o : ℕ) → o < 256 → (k : ℕ) → get_or (o ∷ []) k 0 < 256
single_below o low zero = low
single_below o low (suc k) = omega arith

pub digits_two : (h : ℕ → ℕ) (v : List ℕ) → AllByRecursion (λ o. o < 256) v → two_by (λ o. h (o / 16)) (λ o. h (bit_and o 15)) v ≡ map h (digits 4 v)
digits_two h [] all = rw (digits-nil 4 (omega arith)) refl
digits_two h (o ∷ os) all =
    let front : digits 4 (o ∷ os) ≡ digits 4 (o ∷ []) ++ digits 4 os = digits-append 4 (o ∷ []) os (omega arith) (single_below o all.0) refl in
    let low : bit_and o 15 ≡ o % 16 = and_mask o 4 in
    rw (front, pieces_of_octet o all.0, low, ← digits_two h os all.1) refl

-- ---- from values to octets

abbrev pub join_by : (ℕ → ℕ → ℕ) → List ℕ → List ℕ
join_by f [] = []
join_by f (x ∷ []) = []
join_by f (x ∷ y ∷ xs) = f x y ∷ join_by f xs

abbrev pub joined_octet : ℕ → ℕ → ℕ
joined_octet high low = bit_or (high * 16 % 256) low

two_whole : (h l : ℕ) → h < 16 → l < 16 → whole 4 (h ∷ l ∷ []) ≡ joined_octet h l ∷ []
unfolding low_digits
two_whole h l a b =
    let n : ℕ = h * 16 + l in
    let first : n / 16 % 16 ≡ h = omega arith in
    let second : n % 16 ≡ l = omega arith in
    let all : n % 256 ≡ n = omega arith in
    let kept : h * 16 % 256 ≡ h * 16 = omega arith in
    let is : joined_octet h l ≡ n = rw kept (or_shifted h 4 l b) in
    rw (first, second, all, ← is) at (whole_group 4 2 1 n refl)

whole_two : (xs : List ℕ) → AllByRecursion (λ v. v < 16) xs → length xs % 2 ≡ 0 → join_by joined_octet xs ≡ whole 4 xs
whole_two [] all even = sym (whole-nil 4)
whole_two (x ∷ []) all even = absurd (omega arith)
whole_two (h ∷ l ∷ xs) all even =
    let both : whole 4 (h ∷ l ∷ xs) ≡ whole 4 (h ∷ l ∷ []) ++ whole 4 xs = whole-append 4 (h ∷ l ∷ []) xs refl (all.0, (all.1.0, tt)) in
    rw (both, two_whole h l all.0 all.1.0, ← whole_two xs all.1.1 (omega arith)) refl

-- the 16 octets of 32 values
pub joined_lanes : (xs : List ℕ) → length xs ≡ 32 → AllByRecursion (λ v. v < 16) xs → join_by joined_octet (pick_l 0 xs (0 ∷ 1 ∷ 2 ∷ 3 ∷ 4 ∷ 5 ∷ 6 ∷ 7 ∷ 8 ∷ 9 ∷ 10 ∷ 11 ∷ 12 ∷ 13 ∷ 14 ∷ 15
    ∷ 16 ∷ 17 ∷ 18 ∷ 19 ∷ 20 ∷ 21 ∷ 22 ∷ 23 ∷ 24 ∷ 25 ∷ 26 ∷ 27 ∷ 28 ∷ 29 ∷ 30 ∷ 31 ∷ [])) ≡ whole 4 xs
joined_lanes xs long all = ap (join_by joined_octet) (pick_l_whole 0 xs 32 long) ∙ whole_two xs all (omega arith)

-- ---- two vectors at once

pub two_stored : (at : ℕ) (text front back : List ℕ) → length front ≡ 16 → length back ≡ 16 → at + 32 ≤ length text
    → (take (at + 32) (put_chunk (at + 16) (put_chunk at text front) back) ≡ take at text ++ (front ++ back)) × (drop (at + 32) (put_chunk (at + 16) (put_chunk at text front) back) ≡ drop (at + 32) text)
two_stored at text front back l m room =
    let one = take_more_put_chunk at text front (at + 16) (omega arith) (omega arith) in
    let two = take_more_put_chunk (at + 16) (put_chunk at text front) back (at + 32) (omega arith) (omega (arith, length-put_chunk at text front)) in (
      two ∙ rw (one, append_assoc) refl,
      kept_after (at + 16) (at + 32) (put_chunk at text front) back (omega arith) ∙ kept_after at (at + 32) text front (omega arith),
    )

pub two_loaded : (f : ℕ → ℕ) (at : ℕ) (text front back : List ℕ) → front ≡ map f (chunk at 16 text) → back ≡ map f (chunk (at + 16) 16 text) → front ++ back ≡ map f (take 32 (drop at text))
two_loaded f at text front back is_front is_back =
    let later : drop 16 (drop at text) ≡ drop (at + 16) text = drop-drop 16 at text in
    rw (is_front, is_back, take-add 16 16 (drop at text), later, map-append) refl
