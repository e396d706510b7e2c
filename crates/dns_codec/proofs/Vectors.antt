-- Vectors, lane by lane, and loads and stores in a row.
use Rattle.std.proofs.Common.{◌≡◌, ℕ, zero, suc, ◌+◌, ◌*◌, ◌/◌, ◌%◌, ◌^◌, ◌<◌, ◌≤◌, ◌==◌, Bool, true, false, cond, ltb, List, [], ◌∷◌, ◌++◌, length, take, drop, map, get_or, replicate, slice_index, bit_or, ◌-◌, refl, sym, ap, ◌∙◌, arith, w8, Fits, ltb-true}
use Rattle.std.specs.List.{AllByRecursion}
use Rattle.std.proofs.Math.Seq.{take-add}
use Rattle.std.proofs.lemmas.Bool.{agree_below, agree_below_at, eqb-true}
use Rattle.std.proofs.lemmas.List.{ext_get_or, get_or-drop, get_or-map, length-drop, length-map, length-take-le, map-append, take-append-drop}
use Rattle.std.proofs.lemmas.Nat.{le_or_l, le_or_r, pow-add}
use Rattle.std.proofs.lemmas.Simd.{length-chunk, map-map, swz_l, SwzOk, SwzOk-from_below, length-swz_l, get_or-swz_l_below, bitmask_splat, length-zip2, length-put_chunk, get_or-put_chunk_above}
use lib.Lanes.{Each1, chunk, zip2, sel_l, mask_l, top, put_chunk}
use Rattle.dns_codec.specs.Bits.{digits, whole}
use Rattle.dns_codec.proofs.Groups.{below_both}
use Rattle.dns_codec.proofs.Putting.{block_step}
use Rattle.dns_codec.proofs.Wholes.{whole-append}

-- ---- lanes that are computed from one vector

selected : (c f g : ℕ → ℕ) (vs : List ℕ) → sel_l (map (top 7) (map c vs)) (map f vs) (map g vs) ≡ map (λ v. cond (top 7 (c v)) (f v) (g v)) vs
selected c f g [] = refl
selected c f g (v ∷ vs) = ap (λ l. cond (top 7 (c v)) (f v) (g v) ∷ l) (selected c f g vs)

pub sel_of_maps : (c f g : ℕ → ℕ) (vs : List ℕ) {ms xs ys : List ℕ} → ms ≡ map c vs → xs ≡ map f vs → ys ≡ map g vs → sel_l (map (top 7) ms) xs ys ≡ map (λ v. cond (top 7 (c v)) (f v) (g v)) vs
sel_of_maps c f g vs is_c is_f is_g = rw (is_c, is_f, is_g) (selected c f g vs)

same_lanes : (n : ℕ) (table v : List ℕ) (f : ℕ → ℕ) → AllByRecursion (λ x. x < n) v → agree_below (λ x. f x == slice_index table x) (λ _. true) n ≡ true → map f v ≡ map (slice_index table) v
same_lanes n table [] f all agree = refl
same_lanes n table (x ∷ xs) f all agree =
    rw (eqb-true _ _ (agree_below_at (λ y. f y == slice_index table y) (λ _. true) n x agree all.0), same_lanes n table xs f all.1 agree) refl

-- lanes that agree with a table below a bound
pub by_table : (n : ℕ) (table v z : List ℕ) (f : ℕ → ℕ) → AllByRecursion (λ x. x < n) v → z ≡ map f v → agree_below (λ x. f x == slice_index table x) (λ _. true) n ≡ true → z ≡ map (slice_index table) v
by_table n table v z f low is agree = is ∙ same_lanes n table v f low agree

pub map_below : (n m : ℕ) (f : ℕ → ℕ) (vs : List ℕ) → ((x : ℕ) → x < n → f x < m) → AllByRecursion (λ x. x < n) vs → AllByRecursion (λ x. x < m) (map f vs)
map_below n m f [] low all = tt
map_below n m f (v ∷ vs) low all = (low v all.0, map_below n m f vs low all.1)

pub octets_fit : (xs : List ℕ) → Each1 (Fits w8) xs → AllByRecursion (λ x. x < 256) xs
octets_fit [] all = tt
octets_fit (x ∷ xs) all = (all.0.fits, octets_fit xs all.1)

bounded : (n m : ℕ) (f : ℕ → ℕ) (v : List ℕ) → AllByRecursion (λ x. x < n) v → agree_below (λ x. ltb (f x) m) (λ _. true) n ≡ true → AllByRecursion (λ x. x < m) (map f v)
bounded n m f [] all agree = tt
bounded n m f (x ∷ xs) all agree = (ltb-true (f x) m (agree_below_at (λ y. ltb (f y) m) (λ _. true) n x agree all.0), bounded n m f xs all.1 agree)

-- lanes that a test of each value keeps below a bound
pub by_bound : (n m : ℕ) (v z : List ℕ) (f : ℕ → ℕ) → AllByRecursion (λ x. x < n) v → z ≡ map f v → agree_below (λ x. ltb (f x) m) (λ _. true) n ≡ true → AllByRecursion (λ x. x < m) z
by_bound n m v z f low is agree = rw is (bounded n m f v low agree)

-- ---- look-ups of 16 lanes

each_below : (n : ℕ) (xs : List ℕ) → AllByRecursion (λ x. x < n) xs → Each1 (λ x. x < n) xs
each_below n [] all = tt
each_below n (x ∷ xs) all = (all.0, each_below n xs all.1)

pub may_look_up : (places : List ℕ) → length places ≡ 16 → AllByRecursion (λ j. j < 16) places → SwzOk w8 16 16 0 places
may_look_up places long low = SwzOk-from_below w8 16 1 16 0 places refl (omega arith) (each_below 16 places low)

at_place : (places : List ℕ) (i : ℕ) → AllByRecursion (λ j. j < 16) places → get_or places i 0 < 16
at_place [] i all = omega arith
at_place (j ∷ js) zero all = all.0
at_place (j ∷ js) (suc i) all = at_place js i all.1

pub looked_up : (table places : List ℕ) → length places ≡ 16 → AllByRecursion (λ j. j < 16) places → swz_l w8 16 table 0 places ≡ map (slice_index table) places
looked_up table places long low =
    ext_get_or 0 _ _ (length-swz_l w8 16 table 0 places ∙ sym (length-map places (slice_index table))) (λ i lt.
    let inside : i < length places = omega (arith, length-swz_l w8 16 table 0 places) in
    let one : 16 * ((0 + i) / 16) + get_or places i 0 ≡ get_or places i 0 = omega arith in
    get_or-swz_l_below w8 16 table 0 places i inside (at_place places i low) ∙ (ap (λ k. get_or table k 0) one ∙ sym (get_or-map (slice_index table) places i 0 0 inside)))

-- the same, with the offsets computed from a vector
pub may_look_up_by : (n : ℕ) (v places : List ℕ) (f : ℕ → ℕ) → length v ≡ 16 → AllByRecursion (λ x. x < n) v → places ≡ map f v → agree_below (λ x. ltb (f x) 16) (λ _. true) n ≡ true
    → SwzOk w8 16 16 0 places
may_look_up_by n v places f long low is agree = may_look_up places (ap length is ∙ (length-map v f ∙ long)) (by_bound n 16 v places f low is agree)

pub looked_up_by : (n : ℕ) (table v places : List ℕ) (f : ℕ → ℕ) → length v ≡ 16 → AllByRecursion (λ x. x < n) v → places ≡ map f v → agree_below (λ x. ltb (f x) 16) (λ _. true) n ≡ true
    → swz_l w8 16 table 0 places ≡ map (λ x. slice_index table (f x)) v
looked_up_by n table v places f long low is agree =
    looked_up table places (ap length is ∙ (length-map v f ∙ long)) (by_bound n 16 v places f low is agree) ∙ (ap (map (slice_index table)) is ∙ map-map (slice_index table) f v)

-- ---- the test of all lanes

full_lane : (p : ℕ → Bool) (b : Bool) (x m n : ℕ) (xs : List ℕ) → p x ≡ b → (m + 1 ≡ n → AllByRecursion (λ y. p y ≡ true) xs) → cond b 1 0 + 2 * m + 1 ≡ 2 * n
    → AllByRecursion (λ y. p y ≡ true) (x ∷ xs)
full_lane p true x m n xs same later full = (same, later (omega arith))
full_lane p false x m n xs same later full = absurd (omega arith)

full_mask : (p : ℕ → Bool) (xs : List ℕ) → mask_l (map p xs) + 1 ≡ 2 ^ length xs → AllByRecursion (λ x. p x ≡ true) xs
full_mask p [] full = tt
full_mask p (x ∷ xs) full =
    let one : 1 + length xs ≡ suc (length xs) = omega arith in
    let twice : 2 ^ suc (length xs) ≡ 2 * 2 ^ length xs = rw one at (pow-add 2 1 (length xs)) in
    let all : cond (p x) 1 0 + 2 * mask_l (map p xs) + 1 ≡ 2 * 2 ^ length xs = full ∙ twice in
    full_lane p (p x) x (mask_l (map p xs)) (2 ^ length xs) xs refl (full_mask p xs) all

tested : (n : ℕ) (xs : List ℕ) → AllByRecursion (λ x. ltb x n ≡ true) xs → AllByRecursion (λ x. x < n) xs
tested n [] all = tt
tested n (x ∷ xs) all = (ltb-true x n all.0, tested n xs all.1)

-- all of 16 lanes are below a bound
pub all_low : (n : ℕ) (v : List ℕ) → length v ≡ 16 → mask_l (map (top 7) (zip2 (λ a b. cond (ltb a b) 255 0) v (replicate 16 n))) % 2 ^ 64 ≡ 65535 → AllByRecursion (λ x. x < n) v
all_low n v long full =
    let mask : mask_l (map (λ x. ltb x n) v) ≡ 65535 = sym (bitmask_splat w8 ltb v 16 n long (omega arith)) ∙ full in
    tested n v (full_mask (λ x. ltb x n) v (rw (mask, long) refl))

first_low : (n : ℕ) (xs ys : List ℕ) → length xs ≡ length ys → AllByRecursion (λ x. x < n) (zip2 bit_or xs ys) → AllByRecursion (λ x. x < n) xs
first_low n [] ys same all = tt
first_low n (x ∷ xs) [] same all = absurd (omega arith)
first_low n (x ∷ xs) (y ∷ ys) same all = (omega (arith, le_or_l x y, all.0), first_low n xs ys (omega arith) all.1)

second_low : (n : ℕ) (xs ys : List ℕ) → length xs ≡ length ys → AllByRecursion (λ x. x < n) (zip2 bit_or xs ys) → AllByRecursion (λ x. x < n) ys
second_low n [] [] same all = tt
second_low n [] (y ∷ ys) same all = absurd (omega arith)
second_low n (x ∷ xs) [] same all = tt
second_low n (x ∷ xs) (y ∷ ys) same all = (omega (arith, le_or_r x y, all.0), second_low n xs ys (omega arith) all.1)

-- and of two vectors, tested at once
pub both_low : (n : ℕ) (xs ys : List ℕ) → length xs ≡ 16 → length ys ≡ 16 → mask_l (map (top 7) (zip2 (λ a b. cond (ltb a b) 255 0) (zip2 bit_or xs ys) (replicate 16 n))) % 2 ^ 64 ≡ 65535
    → AllByRecursion (λ x. x < n) (xs ++ ys)
both_low n xs ys l m full =
    let same : length xs ≡ length ys = omega arith in
    let all = all_low n (zip2 bit_or xs ys) (length-zip2 bit_or xs ys same ∙ l) full in
    below_both n xs ys (first_low n xs ys same all) (second_low n xs ys same all)

-- ---- loads and stores in a row

pub loaded_long : (f : ℕ → ℕ) (i : ℕ) (text v : List ℕ) → i + 16 ≤ length text → v ≡ map f (chunk i 16 text) → length v ≡ 16
loaded_long f i text v room is = ap length is ∙ (length-map (chunk i 16 text) f ∙ length-chunk i 16 text room)

pub kept_after : (i m : ℕ) (xs ys : List ℕ) → i + length ys ≤ m → drop m (put_chunk i xs ys) ≡ drop m xs
kept_after i m xs ys le =
    ext_get_or 0 _ _ (length-drop m (put_chunk i xs ys) ∙ (ap (λ n. n - m) (length-put_chunk i xs ys) ∙ sym (length-drop m xs))) (λ k lt.
    get_or-drop m (put_chunk i xs ys) k 0 ∙ (get_or-put_chunk_above i xs ys (m + k) 0 (omega arith) ∙ sym (get_or-drop m xs k 0)))

-- the characters of the next octets
pub put_next : (w from n at next : ℕ) (characters octets old new : List ℕ) → 0 < w → ((k : ℕ) → get_or octets k 0 < 256) → from ≤ length octets → from * 8 % w ≡ 0
    → take at old ≡ map (slice_index characters) (digits w (take from octets)) → take next new ≡ take at old ++ map (slice_index characters) (digits w (take n (drop from octets)))
    → take next new ≡ map (slice_index characters) (digits w (take (from + n) octets))
put_next w from n at next characters octets old new pos bytes inside whole before now =
    let len : length (take from octets) ≡ from = length-take-le from octets inside in
    let step = block_step w at next characters octets (take from octets) (take n (drop from octets)) (drop from octets) (drop n (drop from octets)) old new pos bytes
    (sym (take-append-drop from octets)) (sym (take-append-drop n (drop from octets))) (rw len whole) before now in
    step.1 ∙ rw (take-add from n octets) refl

-- the octets of the next characters
pub read_next : (w from n to next : ℕ) (values text old new : List ℕ) → from * w % 8 ≡ 0 → from ≤ length text → AllByRecursion (λ v. v < 2 ^ w) (map (slice_index values) (take from text))
    → AllByRecursion (λ v. v < 2 ^ w) (map (slice_index values) (take n (drop from text))) → take to old ≡ whole w (map (slice_index values) (take from text))
    → take next new ≡ take to old ++ whole w (map (slice_index values) (take n (drop from text)))
    → AllByRecursion (λ v. v < 2 ^ w) (map (slice_index values) (take (from + n) text)) × (take next new ≡ whole w (map (slice_index values) (take (from + n) text)))
read_next w from n to next values text old new even inside all more before now =
    let f : ℕ → ℕ = slice_index values in
    let both : map f (take (from + n) text) ≡ map f (take from text) ++ map f (take n (drop from text)) = ap (map f) (take-add from n text) ∙ map-append f (take from text) (take n (drop from text)) in
    let len : length (map f (take from text)) ≡ from = length-map (take from text) f ∙ length-take-le from text inside in
    let joined = whole-append w (map f (take from text)) (map f (take n (drop from text))) (rw len even) all in
    (rw both (below_both (2 ^ w) _ _ all more), now ∙ rw (before, both, joined) refl)
