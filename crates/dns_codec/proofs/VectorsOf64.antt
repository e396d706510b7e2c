-- Base 64 by vectors. Four octets are a word of 32 bits, the first one lowest.
use Rattle.std.proofs.Common.{◌≡◌, ℕ, zero, suc, ◌+◌, ◌*◌, ◌/◌, ◌%◌, ◌^◌, ◌<◌, ◌≤◌, List, [], ◌∷◌, ◌++◌, length, take, drop, map, get_or, bit_and, bit_or, refl, sym, ap, subst, ◌∙◌, arith}
use Rattle.std.specs.List.{AllByRecursion}
use Rattle.std.proofs.Math.Seq.{take-append-add}
use Rattle.std.proofs.lemmas.List.{length-take-le, take-append-le}
use Rattle.std.proofs.lemmas.Nat.{and_mask, or_shifted}
use Rattle.std.proofs.lemmas.Simd.{pick_l_whole, put_chunk_is}
use lib.Lanes.{digits_l, number_l, pick_l, put_chunk}
use Rattle.dns_codec.specs.Bits.{low_digits, digits, whole}
use Rattle.dns_codec.proofs.BitLemmas.{low_digits-below}
use Rattle.dns_codec.proofs.Encoding.{digits-append, digits-nil, low_digits-of-octets, register}
use Rattle.dns_codec.proofs.Groups.{whole_group}
use Rattle.dns_codec.proofs.Putting.{digits_by}
use Rattle.dns_codec.proofs.Wholes.{whole-append, whole-nil}

-- ---- words and octets

abbrev pub word : ℕ → ℕ → ℕ → ℕ → ℕ
word a b c d = a + 256 * b + 65536 * c + 16777216 * d

abbrev pub words : List ℕ → List ℕ
words [] = []
words (a ∷ []) = []
words (a ∷ b ∷ []) = []
words (a ∷ b ∷ c ∷ []) = []
words (a ∷ b ∷ c ∷ d ∷ xs) = word a b c d ∷ words xs

abbrev pub octets_in : List ℕ → List ℕ
octets_in [] = []
octets_in (w ∷ ws) = w % 256 ∷ w / 256 % 256 ∷ w / 65536 % 256 ∷ w / 16777216 % 256 ∷ octets_in ws

word_front : (a b c d r n : ℕ) → a < 256 → b < 256 → c < 256 → d < 256 → digits_l 4294967296 (suc n) (a + 256 * (b + 256 * (c + 256 * (d + 256 * r)))) ≡ word a b c d ∷ digits_l 4294967296 n r
word_front a b c d r n la lb lc ld =
    let low : (a + 256 * (b + 256 * (c + 256 * (d + 256 * r)))) % 4294967296 ≡ word a b c d = omega arith in
    let high : (a + 256 * (b + 256 * (c + 256 * (d + 256 * r)))) / 4294967296 ≡ r = omega arith in
    rw (low, high) refl

pub words_are : (n : ℕ) (xs : List ℕ) → length xs ≡ 4 * n → AllByRecursion (λ x. x < 256) xs → digits_l 4294967296 n (number_l 256 xs) ≡ words xs
words_are zero [] long all = refl
words_are zero (x ∷ xs) long all = absurd (omega arith)
words_are (suc n) [] long all = absurd (omega arith)
words_are (suc n) (a ∷ []) long all = absurd (omega arith)
words_are (suc n) (a ∷ b ∷ []) long all = absurd (omega arith)
words_are (suc n) (a ∷ b ∷ c ∷ []) long all = absurd (omega arith)
words_are (suc n) (a ∷ b ∷ c ∷ d ∷ xs) long all =
    word_front a b c d (number_l 256 xs) n all.0 all.1.0 all.1.1.0 all.1.1.1.0 ∙ ap (λ ws. word a b c d ∷ ws) (words_are n xs (omega arith) all.1.1.1.1)

octets_front : (w r n : ℕ) → w < 4294967296
    → digits_l 256 (suc (suc (suc (suc n)))) (w + 4294967296 * r) ≡ w % 256 ∷ w / 256 % 256 ∷ w / 65536 % 256 ∷ w / 16777216 % 256 ∷ digits_l 256 n r
octets_front w r n fits =
    let a : (w + 4294967296 * r) % 256 ≡ w % 256 = omega arith in
    let b : (w + 4294967296 * r) / 256 % 256 ≡ w / 256 % 256 = omega arith in
    let c : (w + 4294967296 * r) / 256 / 256 % 256 ≡ w / 65536 % 256 = omega arith in
    let d : (w + 4294967296 * r) / 256 / 256 / 256 % 256 ≡ w / 16777216 % 256 = omega arith in
    let e : (w + 4294967296 * r) / 256 / 256 / 256 / 256 ≡ r = omega arith in
    rw (a, b, c, d, e) refl

abbrev four_times : ℕ → ℕ
four_times zero = zero
four_times (suc n) = suc (suc (suc (suc (four_times n))))

pub octets_are : (n : ℕ) (ws : List ℕ) → length ws ≡ n → AllByRecursion (λ w. w < 4294967296) ws → digits_l 256 (four_times n) (number_l 4294967296 ws) ≡ octets_in ws
octets_are zero [] long all = refl
octets_are zero (w ∷ ws) long all = absurd (omega arith)
octets_are (suc n) [] long all = absurd (omega arith)
octets_are (suc n) (w ∷ ws) long all =
    octets_front w (number_l 4294967296 ws) (four_times n) all.0
    ∙ ap (λ xs. w % 256 ∷ w / 256 % 256 ∷ w / 65536 % 256 ∷ w / 16777216 % 256 ∷ xs) (octets_are n ws (omega arith) all.1)

-- ---- from octets to digits

-- three octets turned round, with one more
abbrev pub turned : List ℕ → List ℕ
turned [] = []
turned (a ∷ []) = []
turned (a ∷ b ∷ []) = []
turned (a ∷ b ∷ c ∷ xs) = c ∷ b ∷ a ∷ a ∷ turned xs

pub turned_lanes : (v : List ℕ) → length v ≡ 16 → pick_l 0 (v ++ v) (2 ∷ 1 ∷ 0 ∷ 0 ∷ 5 ∷ 4 ∷ 3 ∷ 3 ∷ 8 ∷ 7 ∷ 6 ∷ 6 ∷ 11 ∷ 10 ∷ 9 ∷ 9 ∷ []) ≡ turned (take 12 v)
turned_lanes v long = subst (λ u. pick_l 0 (u ++ u) (2 ∷ 1 ∷ 0 ∷ 0 ∷ 5 ∷ 4 ∷ 3 ∷ 3 ∷ 8 ∷ 7 ∷ 6 ∷ 6 ∷ 11 ∷ 10 ∷ 9 ∷ 9 ∷ []) ≡ turned (take 12 u)) (pick_l_whole 0 v 16 long) refl

-- the digits of a word, one in each octet
abbrev pub spread : ℕ → ℕ
spread w = bit_or (bit_or (bit_or (bit_and w 63 * 16777216 % 4294967296) (bit_and (w / 64) 63 * 65536 % 4294967296)) (bit_and (w / 4096) 63 * 256 % 4294967296)) (bit_and (w / 262144) 63)

-- or-ing parts that don't overlap adds them
parts_joined : (p q r s i j k : ℕ) → q * 2 ^ j < 2 ^ i → r * 2 ^ k < 2 ^ j → s < 2 ^ k → (m : ℕ) → p * 2 ^ i + q * 2 ^ j ≡ m * 2 ^ j → (n : ℕ) → m * 2 ^ j + r * 2 ^ k ≡ n * 2 ^ k
    → bit_or (bit_or (bit_or (p * 2 ^ i) (q * 2 ^ j)) (r * 2 ^ k)) s ≡ p * 2 ^ i + q * 2 ^ j + r * 2 ^ k + s
parts_joined p q r s i j k lq lr ls m em n en =
    let one : bit_or (p * 2 ^ i) (q * 2 ^ j) ≡ m * 2 ^ j = or_shifted p i (q * 2 ^ j) lq ∙ em in
    let two : bit_or (m * 2 ^ j) (r * 2 ^ k) ≡ n * 2 ^ k = or_shifted m j (r * 2 ^ k) lr ∙ en in
    rw (one, two) (or_shifted n k s ls ∙ rw (← en, ← em) refl)

spread_is : (w : ℕ) → spread w ≡ (w % 64) * 16777216 + (w / 64 % 64) * 65536 + (w / 4096 % 64) * 256 + w / 262144 % 64
spread_is w =
    let a : bit_and w 63 * 16777216 % 4294967296 ≡ (w % 64) * 2 ^ 24 = let m : bit_and w 63 ≡ w % 64 = and_mask w 6 in omega arith in
    let b : bit_and (w / 64) 63 * 65536 % 4294967296 ≡ (w / 64 % 64) * 2 ^ 16 = let m : bit_and (w / 64) 63 ≡ w / 64 % 64 = and_mask (w / 64) 6 in omega arith in
    let c : bit_and (w / 4096) 63 * 256 % 4294967296 ≡ (w / 4096 % 64) * 2 ^ 8 = let m : bit_and (w / 4096) 63 ≡ w / 4096 % 64 = and_mask (w / 4096) 6 in omega arith in
    let d : bit_and (w / 262144) 63 ≡ w / 262144 % 64 = and_mask (w / 262144) 6 in
    rw (a, b, c, d) (parts_joined (w % 64) (w / 64 % 64) (w / 4096 % 64) (w / 262144 % 64) 24 16 8 (omega arith) (omega arith) (omega arith)
    ((w % 64) * 256 + w / 64 % 64) (omega arith) (((w % 64) * 256 + w / 64 % 64) * 256 + w / 4096 % 64) (omega arith))

spread_fits : (w : ℕ) → spread w < 4294967296
spread_fits w = omega (arith, spread_is w)

pub spreads_fit : (ws : List ℕ) → AllByRecursion (λ w. w < 4294967296) (map spread ws)
spreads_fit [] = tt
spreads_fit (w ∷ ws) = (spread_fits w, spreads_fit ws)

abbrev four_parts : ℕ → ℕ → ℕ → ℕ → ℕ
four_parts p q r s = p * 16777216 + q * 65536 + r * 256 + s

part_of : (p q r s : ℕ) → p < 64 → q < 64 → r < 64 → s < 64
    → (four_parts p q r s % 256 ≡ s) × (four_parts p q r s / 256 % 256 ≡ r) × (four_parts p q r s / 65536 % 256 ≡ q) × (four_parts p q r s / 16777216 % 256 ≡ p)
part_of p q r s lp lq lr ls = (omega arith, omega arith, omega arith, omega arith)

-- the digits of three octets
spread_word : (a b c : ℕ) → a < 256 → b < 256 → c < 256 → spread (word c b a a) ≡ four_parts (c % 64) (b % 16 * 4 + c / 64) (a % 4 * 16 + b / 16) (a / 4)
spread_word a b c la lb lc =
    let w : ℕ = word c b a a in
    let p : w % 64 ≡ c % 64 = omega arith in
    let q : w / 64 % 64 ≡ b % 16 * 4 + c / 64 = omega arith in
    let r : w / 4096 % 64 ≡ a % 4 * 16 + b / 16 = omega arith in
    let s : w / 262144 % 64 ≡ a / 4 = omega arith in
    spread_is w ∙ rw (p, q, r, s) refl

three_digits : (a b c : ℕ) → a < 256 → b < 256 → c < 256 → digits 6 (a ∷ b ∷ c ∷ []) ≡ a / 4 ∷ (a % 4 * 16 + b / 16) ∷ (b % 16 * 4 + c / 64) ∷ c % 64 ∷ []
unfolding low_digits
three_digits a b c la lb lc =
    let n : ℕ = a * 65536 + b * 256 + c in
    let x : n / 256 / 256 % 256 ≡ a = omega arith in
    let y : n / 256 % 256 ≡ b = omega arith in
    let z : n % 256 ≡ c = omega arith in
    let same : low_digits 8 3 n ≡ a ∷ b ∷ c ∷ [] = rw (x, y, z) refl in
    let d : n * 1 / 64 / 64 / 64 % 64 ≡ a / 4 = omega arith in
    let e : n * 1 / 64 / 64 % 64 ≡ a % 4 * 16 + b / 16 = omega arith in
    let f : n * 1 / 64 % 64 ≡ b % 16 * 4 + c / 64 = omega arith in
    let g : n * 1 % 64 ≡ c % 64 = omega arith in
    digits_by 6 3 n 4 0 (a ∷ b ∷ c ∷ []) same refl (omega arith) ∙ rw (d, e, f, g) refl

three_spread : (a b c : ℕ) → a < 256 → b < 256 → c < 256
    → digits 6 (a ∷ b ∷ c ∷ []) ≡ spread (word c b a a) % 256 ∷ spread (word c b a a) / 256 % 256 ∷ spread (word c b a a) / 65536 % 256 ∷ spread (word c b a a) / 16777216 % 256 ∷ []
three_spread a b c la lb lc =
    let parts = part_of (c % 64) (b % 16 * 4 + c / 64) (a % 4 * 16 + b / 16) (a / 4) (omega arith) (omega arith) (omega arith) (omega arith) in
    rw (spread_word a b c la lb lc) (three_digits a b c la lb lc ∙ rw (parts.0, parts.1, parts.2, parts.3) refl)

three_below : (a b c : ℕ) → a < 256 → b < 256 → c < 256 → (k : ℕ) → get_or (a ∷ b ∷ c ∷ []) k 0 < 256
three_below a b c la lb lc zero = la
three_below a b c la lb lc (suc zero) = lb
three_below a b c la lb lc (suc (suc zero)) = lc
three_below a b c la lb lc (suc (suc (suc k))) = omega arith

pub digits_spread : (xs : List ℕ) → AllByRecursion (λ x. x < 256) xs → length xs % 3 ≡ 0 → octets_in (map spread (words (turned xs))) ≡ digits 6 xs
digits_spread [] all even = sym (digits-nil 6 (omega arith))
digits_spread (a ∷ []) all even = absurd (omega arith)
digits_spread (a ∷ b ∷ []) all even = absurd (omega arith)
digits_spread (a ∷ b ∷ c ∷ xs) all even =
    let front : digits 6 (a ∷ b ∷ c ∷ xs) ≡ digits 6 (a ∷ b ∷ c ∷ []) ++ digits 6 xs =
    digits-append 6 (a ∷ b ∷ c ∷ []) xs (omega arith) (three_below a b c all.0 all.1.0 all.1.1.0) refl in
    rw (front, three_spread a b c all.0 all.1.0 all.1.1.0, ← digits_spread xs all.1.1.1 (omega arith)) refl

pub turned_below : (xs : List ℕ) → AllByRecursion (λ x. x < 256) xs → AllByRecursion (λ x. x < 256) (turned xs)
turned_below [] all = tt
turned_below (a ∷ []) all = tt
turned_below (a ∷ b ∷ []) all = tt
turned_below (a ∷ b ∷ c ∷ xs) all = (all.1.1.0, (all.1.0, (all.0, (all.0, turned_below xs all.1.1.1))))

pub below_take : (n k : ℕ) (xs : List ℕ) → AllByRecursion (λ x. x < n) xs → AllByRecursion (λ x. x < n) (take k xs)
below_take n zero xs all = tt
below_take n (suc k) [] all = tt
below_take n (suc k) (x ∷ xs) all = (all.0, below_take n k xs all.1)

pub digits_low : (octets : List ℕ) → AllByRecursion (λ x. x < 256) octets → length octets ≡ 12 → AllByRecursion (λ v. v < 64) (digits 6 octets)
digits_low octets all long =
    let same : low_digits 8 12 (register 8 0 octets) ≡ octets = rw long at (low_digits-of-octets octets all) in
    rw (digits_by 6 12 (register 8 0 octets) 16 0 octets same refl (omega arith)) (low_digits-below 6 16 (register 8 0 octets * 1))

-- ---- from values to octets

-- the number of a word's four values
abbrev pub packed : ℕ → ℕ
packed w = bit_or (bit_or (bit_or (bit_and w 63 * 262144 % 4294967296) (bit_and (w / 256) 63 * 4096 % 4294967296)) (bit_and (w / 65536) 63 * 64 % 4294967296)) (w / 16777216)

packed_is : (a b c d : ℕ) → a < 64 → b < 64 → c < 64 → d < 64 → packed (word a b c d) ≡ a * 262144 + b * 4096 + c * 64 + d
packed_is a b c d la lb lc ld =
    let w : ℕ = word a b c d in
    let e : bit_and w 63 * 262144 % 4294967296 ≡ a * 2 ^ 18 = let m : bit_and w 63 ≡ w % 64 = and_mask w 6 in omega arith in
    let f : bit_and (w / 256) 63 * 4096 % 4294967296 ≡ b * 2 ^ 12 = let m : bit_and (w / 256) 63 ≡ w / 256 % 64 = and_mask (w / 256) 6 in omega arith in
    let g : bit_and (w / 65536) 63 * 64 % 4294967296 ≡ c * 2 ^ 6 = let m : bit_and (w / 65536) 63 ≡ w / 65536 % 64 = and_mask (w / 65536) 6 in omega arith in
    let h : w / 16777216 ≡ d = omega arith in
    rw (e, f, g, h) (parts_joined a b c d 18 12 6 (omega arith) (omega arith) (omega arith) (a * 64 + b) (omega arith) ((a * 64 + b) * 64 + c) (omega arith))

pub packed_fit : (xs : List ℕ) → AllByRecursion (λ v. v < 64) xs → AllByRecursion (λ w. w < 4294967296) (map packed (words xs))
packed_fit [] all = tt
packed_fit (a ∷ []) all = tt
packed_fit (a ∷ b ∷ []) all = tt
packed_fit (a ∷ b ∷ c ∷ []) all = tt
packed_fit (a ∷ b ∷ c ∷ d ∷ xs) all =
    (let is = packed_is a b c d all.0 all.1.0 all.1.1.0 all.1.1.1.0 in omega (arith, is, all.0, all.1.0, all.1.1.0, all.1.1.1.0), packed_fit xs all.1.1.1.1)

-- of four octets the lower three, turned round
abbrev pub threes : List ℕ → List ℕ
threes [] = []
threes (a ∷ []) = []
threes (a ∷ b ∷ []) = []
threes (a ∷ b ∷ c ∷ []) = []
threes (a ∷ b ∷ c ∷ d ∷ xs) = c ∷ b ∷ a ∷ threes xs

pub three_lanes : (v : List ℕ) → length v ≡ 16 → pick_l 0 (v ++ v) (2 ∷ 1 ∷ 0 ∷ 6 ∷ 5 ∷ 4 ∷ 10 ∷ 9 ∷ 8 ∷ 14 ∷ 13 ∷ 12 ∷ []) ≡ threes v
three_lanes v long = subst (λ u. pick_l 0 (u ++ u) (2 ∷ 1 ∷ 0 ∷ 6 ∷ 5 ∷ 4 ∷ 10 ∷ 9 ∷ 8 ∷ 14 ∷ 13 ∷ 12 ∷ []) ≡ threes u) (pick_l_whole 0 v 16 long) refl

four_whole : (a b c d : ℕ) → a < 64 → b < 64 → c < 64 → d < 64
    → whole 6 (a ∷ b ∷ c ∷ d ∷ []) ≡ packed (word a b c d) / 65536 % 256 ∷ packed (word a b c d) / 256 % 256 ∷ packed (word a b c d) % 256 ∷ []
unfolding low_digits
four_whole a b c d la lb lc ld =
    let n : ℕ = a * 262144 + b * 4096 + c * 64 + d in
    let is : packed (word a b c d) ≡ n = packed_is a b c d la lb lc ld in
    let x : n / 64 / 64 / 64 % 64 ≡ a = omega arith in
    let y : n / 64 / 64 % 64 ≡ b = omega arith in
    let z : n / 64 % 64 ≡ c = omega arith in
    let u : n % 64 ≡ d = omega arith in
    let e : n / 256 / 256 % 256 ≡ n / 65536 % 256 = omega arith in
    rw is (rw (x, y, z, u, e) at (whole_group 6 4 3 n refl))

pub whole_packed : (xs : List ℕ) → AllByRecursion (λ v. v < 64) xs → length xs % 4 ≡ 0 → threes (octets_in (map packed (words xs))) ≡ whole 6 xs
whole_packed [] all even = sym (whole-nil 6)
whole_packed (a ∷ []) all even = absurd (omega arith)
whole_packed (a ∷ b ∷ []) all even = absurd (omega arith)
whole_packed (a ∷ b ∷ c ∷ []) all even = absurd (omega arith)
whole_packed (a ∷ b ∷ c ∷ d ∷ xs) all even =
    let both : whole 6 (a ∷ b ∷ c ∷ d ∷ xs) ≡ whole 6 (a ∷ b ∷ c ∷ d ∷ []) ++ whole 6 xs =
    whole-append 6 (a ∷ b ∷ c ∷ d ∷ []) xs refl (all.0, (all.1.0, (all.1.1.0, (all.1.1.1.0, tt)))) in
    rw (both, four_whole a b c d all.0 all.1.0 all.1.1.0 all.1.1.1.0, ← whole_packed xs all.1.1.1.1 (omega arith)) refl

pub below_more : (xs : List ℕ) → AllByRecursion (λ v. v < 64) xs → AllByRecursion (λ x. x < 256) xs
below_more [] all = tt
below_more (x ∷ xs) all = (omega (arith, all.0), below_more xs all.1)

-- the prefix of a vector that is stored
pub stored_front : (at n : ℕ) (octets v : List ℕ) → n ≤ length v → at + length v ≤ length octets → take (at + n) (put_chunk at octets v) ≡ take at octets ++ take n v
stored_front at n octets v few room =
    let len : length (take at octets) ≡ at = length-take-le at octets (omega arith) in
    let rest : List ℕ = drop (length v) (drop at octets) in
    let front : take (length (take at octets) + n) (take at octets ++ (v ++ rest)) ≡ take at octets ++ take n (v ++ rest) = take-append-add (take at octets) (v ++ rest) n in
    let whole : take (at + n) (take at octets ++ (v ++ rest)) ≡ take at octets ++ take n (v ++ rest) = rw len at front in
    ap (take (at + n)) (put_chunk_is at octets v room) ∙ (whole ∙ ap (λ xs. take at octets ++ xs) (take-append-le n v rest few))
