-- The types that a bitmap has.
use Rattle.std.proofs.Common.{◌≡◌, ◌≢◌, ℕ, ◌+◌, ◌-◌, ◌*◌, ◌/◌, ◌%◌, ◌<◌, ◌≤◌, ◌||◌, ◌==◌, Bool, true, false, List, [], ◌∷◌, ◌++◌, length, get_or, min, take, drop, All, map, refl, sym, ap, ◌∙◌, arith, subst, zero, suc, inl, inr}
use Rattle.std.specs.List.{flat_map, range_with_len}
use Rattle.std.proofs.lemmas.List.{take_at, drop_at, take_all, drop_all, take_rest, length-drop, length-append}
use Rattle.std.proofs.lemmas.List.Elements.{All-nil, All-same, All-weaker, All-append}
use Rattle.std.proofs.lemmas.Bool.{cases_eq, cases_lt}
use Rattle.rdata_values.specs.Bitmap.{has, window_block, window_blocks, bitmap, set_places, types_in, block_types, types_of, IsAscending, IsBitmap, SameTypes}
use Rattle.rdata_values.proofs.Blocks.{blocks_none, blocks_first, blocks_same}
use Rattle.rdata_values.proofs.Windows.{window_of, has_none}
use Rattle.rdata_values.proofs.Taking.{bit_past, window_bits, window_same}
use Rattle.rdata_values.proofs.Telling.{same_bit, one_ascending}
use Rattle.rdata_values.proofs.Places.{places_none, no_places, types_within, types_have, types_ascend, types_elsewhere, ascend_none, ascend_append, has_both, not_behind, not_in_front}

pub no_block_types : (n : ℕ) → block_types n [] ≡ []
unfolding block_types
no_block_types zero = refl
no_block_types (suc n) = refl

pub cut_block_types : (n a : ℕ) → block_types n (a ∷ []) ≡ []
unfolding block_types
cut_block_types zero a = refl
cut_block_types (suc n) a = refl

block_step : (n a size : ℕ) (octets : List ℕ) → block_types (suc n) (a ∷ size ∷ octets) ≡ types_in a (take size octets) 0 ++ block_types n (drop size octets)
unfolding block_types
block_step n a size octets = refl

enough : (n m : ℕ) (octets : List ℕ) → length octets ≤ n → length octets ≤ m → block_types n octets ≡ block_types m octets
enough n m [] l h = no_block_types n ∙ sym (no_block_types m)
enough n m (a ∷ []) l h = cut_block_types n a ∙ sym (cut_block_types m a)
enough zero m (a ∷ size ∷ octets) l h = absurd (omega arith)
enough (suc n) zero (a ∷ size ∷ octets) l h = absurd (omega arith)
enough (suc n) (suc m) (a ∷ size ∷ octets) l h =
    let shorter = length-drop size octets in
    block_step n a size octets ∙ ap (λ ts. types_in a (take size octets) 0 ++ ts) (enough n m (drop size octets) (omega arith) (omega arith)) ∙ sym (block_step m a size octets)

-- the types of the first block, and then those of the others
pub types_next : (a size : ℕ) (octets : List ℕ) → types_of (a ∷ size ∷ octets) ≡ types_in a (take size octets) 0 ++ types_of (drop size octets)
types_next a size octets =
    let shorter = length-drop size octets in
    block_step (suc (length octets)) a size octets
    ∙ ap (λ ts. types_in a (take size octets) 0 ++ ts) (enough (suc (length octets)) (length (drop size octets)) (drop size octets) (omega arith) (omega arith))

-- the types of windows, each by its octets
unfoldable spread : (ℕ → List ℕ) → ℕ → ℕ → List ℕ
spread f w n = flat_map (λ v. types_in v (f v) 0) (range_with_len w n)

spread_none : (f : ℕ → List ℕ) (w : ℕ) → spread f w 0 ≡ []
unfolding spread
spread_none f w = refl

spread_first : (f : ℕ → List ℕ) (w n : ℕ) → spread f w (suc n) ≡ types_in w (f w) 0 ++ spread f (w + 1) n
unfolding spread
spread_first f w n = refl

no_types : (w : ℕ) → types_in w [] 0 ≡ []
no_types w = ap (map (λ q. 256 * w + q)) (no_places [] 0 256 (λ p l h. bit_past [] p (omega arith)))

read_by : (f : ℕ → List ℕ) (w n m : ℕ) (x : List ℕ) → f w ≡ x → length (window_blocks f w (suc n)) ≤ m
    → ((k : ℕ) → length (window_blocks f (w + 1) n) ≤ k → block_types k (window_blocks f (w + 1) n) ≡ spread f (w + 1) n)
    → block_types m (window_blocks f w (suc n)) ≡ spread f w (suc n)
read_by f w n m [] e l h =
    let blocks : window_blocks f w (suc n) ≡ window_blocks f (w + 1) n = blocks_first f w n ∙ ap (λ x. window_block w x ++ window_blocks f (w + 1) n) e in
    let size = ap length blocks in
    ap (block_types m) blocks ∙ h m (omega arith)
    ∙ sym (spread_first f w n ∙ ap (λ x. types_in w x 0 ++ spread f (w + 1) n) e ∙ ap (λ ts. ts ++ spread f (w + 1) n) (no_types w))
read_by f w n zero (x ∷ xs) e l h =
    let blocks : window_blocks f w (suc n) ≡ w ∷ length (x ∷ xs) ∷ (x ∷ xs) ++ window_blocks f (w + 1) n = blocks_first f w n ∙ ap (λ x. window_block w x ++ window_blocks f (w + 1) n) e in
    let size = ap length blocks in absurd (omega arith)
read_by f w n (suc m) (x ∷ xs) e l h =
    let later = window_blocks f (w + 1) n in
    let blocks : window_blocks f w (suc n) ≡ w ∷ length (x ∷ xs) ∷ (x ∷ xs) ++ later = blocks_first f w n ∙ ap (λ x. window_block w x ++ window_blocks f (w + 1) n) e in
    let size = ap length blocks ∙ ap (λ k. suc (suc k)) (length-append (x ∷ xs) later) in
    ap (block_types (suc m)) blocks ∙ block_step m w (length (x ∷ xs)) ((x ∷ xs) ++ later)
    ∙ ap (λ ys. types_in w ys 0 ++ block_types m (drop (length (x ∷ xs)) ((x ∷ xs) ++ later))) (take_at (x ∷ xs) later (length (x ∷ xs)) refl)
    ∙ ap (λ ys. types_in w (x ∷ xs) 0 ++ block_types m ys) (drop_at (x ∷ xs) later (length (x ∷ xs)) refl)
    ∙ ap (λ ts. types_in w (x ∷ xs) 0 ++ ts) (h m (omega arith))
    ∙ sym (spread_first f w n ∙ ap (λ x. types_in w x 0 ++ spread f (w + 1) n) e)

read_spread : (f : ℕ → List ℕ) (w n m : ℕ) → length (window_blocks f w n) ≤ m → block_types m (window_blocks f w n) ≡ spread f w n
read_spread f w zero m l = ap (block_types m) (blocks_none f w) ∙ no_block_types m ∙ sym (spread_none f w)
read_spread f w (suc n) m l = read_by f w n m (f w) refl l (read_spread f (w + 1) n)

spread_within : (f : ℕ → List ℕ) (w n : ℕ) → All (λ t. (256 * w ≤ t) × (t < 256 * (w + n))) (spread f w n)
spread_within f w zero = All-same (λ t. (256 * w ≤ t) × (t < 256 * (w + zero))) (spread f w 0) [] (spread_none f w) (All-nil (λ t. (256 * w ≤ t) × (t < 256 * (w + zero))))
spread_within f w (suc n) =
    All-same (λ t. (256 * w ≤ t) × (t < 256 * (w + suc n))) (spread f w (suc n)) (types_in w (f w) 0 ++ spread f (w + 1) n) (spread_first f w n)
    (All-append (λ t. (256 * w ≤ t) × (t < 256 * (w + suc n))) (types_in w (f w) 0) (spread f (w + 1) n)
    (All-weaker (λ t. (256 * w ≤ t) × (t < 256 * (w + 1))) (λ t. (256 * w ≤ t) × (t < 256 * (w + suc n))) (λ t h. (h.0, omega (arith, h.1))) (types_in w (f w) 0) (types_within w (f w)))
    (All-weaker (λ t. (256 * (w + 1) ≤ t) × (t < 256 * (w + 1 + n))) (λ t. (256 * w ≤ t) × (t < 256 * (w + suc n))) (λ t h. (omega (arith, h.0), omega (arith, h.1)))
    (spread f (w + 1) n) (spread_within f (w + 1) n)))

spread_above : (f : ℕ → List ℕ) (w n : ℕ) → All (λ t. 256 * w ≤ t) (spread f w n)
spread_above f w n = All-weaker (λ t. (256 * w ≤ t) × (t < 256 * (w + n))) (λ t. 256 * w ≤ t) (λ t h. h.0) (spread f w n) (spread_within f w n)

spread_ascend : (f : ℕ → List ℕ) (w n : ℕ) → IsAscending (spread f w n)
spread_ascend f w zero = let P : List ℕ → Type 0 = IsAscending in subst P (sym (spread_none f w)) ascend_none
spread_ascend f w (suc n) =
    let P : List ℕ → Type 0 = IsAscending in
    subst P (sym (spread_first f w n)) (ascend_append (256 * (w + 1)) (types_in w (f w) 0) (spread f (w + 1) n)
    (All-weaker (λ t. (256 * w ≤ t) × (t < 256 * (w + 1))) (λ t. t < 256 * (w + 1)) (λ t h. h.1) (types_in w (f w) 0) (types_within w (f w)))
    (spread_above f (w + 1) n) (types_ascend w (f w)) (spread_ascend f (w + 1) n))

spread_has : (types : List ℕ) (w n v p : ℕ) → p < 256 → w ≤ v → v < w + n → has (spread (window_of types) w n) (256 * v + p) ≡ has types (256 * v + p)
spread_has types w zero v p l low high = absurd (omega arith)
spread_has types w (suc n) v p l low high =
    ap (λ ts. has ts (256 * v + p)) (spread_first (window_of types) w n) ∙ (elim (cases_eq v w) [
      | inl e ↦ not_behind (types_in w (window_of types w) 0) (spread (window_of types) (w + 1) n) (256 * v + p)
          (has_none (spread (window_of types) (w + 1) n) (256 * v + p)
          (All-weaker (λ t. 256 * (w + 1) ≤ t) (λ t. t ≢ 256 * v + p) (λ t h same. omega arith) (spread (window_of types) (w + 1) n) (spread_above (window_of types) (w + 1) n)))
          ∙ ap (λ u. has (types_in w (window_of types w) 0) (256 * u + p)) e
          ∙ same_bit (has (types_in w (window_of types w) 0) (256 * w + p)) (has types (256 * w + p)) (types_have w (window_of types w) p l ∙ window_bits types w p l)
          ∙ ap (λ u. has types (256 * u + p)) (sym e)
      | inr e ↦ not_in_front (types_in w (window_of types w) 0) (spread (window_of types) (w + 1) n) (256 * v + p)
          (types_elsewhere w (window_of types w) (256 * v + p) (λ same. e (omega arith)))
          ∙ spread_has types (w + 1) n v p l (omega arith) (omega arith)
    ])

bitmap_spread : (types : List ℕ) → types_of (bitmap types) ≡ spread (window_of types) 0 256
bitmap_spread types = read_spread (window_of types) 0 256 (length (bitmap types)) (omega arith)

-- what is read of a bitmap is its types
pub types_of_same : (types : List ℕ) → SameTypes (types_of (bitmap types)) types
types_of_same types code l =
    let is : 256 * (code / 256) + code % 256 ≡ code = omega arith in
    let inside : code % 256 < 256 = omega arith in
    ap (λ ts. has ts code) (bitmap_spread types) ∙ ap (has (spread (window_of types) 0 256)) (sym is)
    ∙ spread_has types 0 256 (code / 256) (code % 256) inside (omega arith) (omega arith) ∙ ap (has types) is

pub types_of_ascending : (types : List ℕ) → IsAscending (types_of (bitmap types))
types_of_ascending types = let P : List ℕ → Type 0 = IsAscending in subst P (sym (bitmap_spread types)) (spread_ascend (window_of types) 0 256)

pub types_of_small : (types : List ℕ) → All (λ t. t < 65536) (types_of (bitmap types))
types_of_small types = All-same (λ t. t < 65536) (types_of (bitmap types)) (spread (window_of types) 0 256) (bitmap_spread types)
    (All-weaker (λ t. (256 * 0 ≤ t) × (t < 256 * (0 + 256))) (λ t. t < 65536) (λ t h. omega (arith, h.1)) (spread (window_of types) 0 256) (spread_within (window_of types) 0 256))

-- lists with the same types have one bitmap
pub same_bitmap : (a b : List ℕ) → SameTypes a b → bitmap a ≡ bitmap b
same_bitmap a b h = blocks_same (window_of a) (window_of b) 0 256 (λ v low high. window_same a b v (λ p l. h (256 * v + p) (omega arith)))

-- the types of a bitmap have that bitmap
pub bitmap_of_types : (octets : List ℕ) → IsBitmap octets → bitmap (types_of octets) ≡ octets
bitmap_of_types octets (types, e) = ap (λ o. bitmap (types_of o)) (sym e) ∙ same_bitmap (types_of (bitmap types)) types (types_of_same types) ∙ e

pub types_of_bitmap : (types : List ℕ) → IsAscending types → All (λ t. t < 65536) types → types_of (bitmap types) ≡ types
types_of_bitmap types up small = one_ascending (types_of (bitmap types)) types (types_of_ascending types) up (types_of_small types) small (types_of_same types)

pub short_types : (xs : List ℕ) → length xs < 2 → types_of xs ≡ []
short_types [] l = no_block_types 0
short_types (x ∷ []) l = cut_block_types 1 x
short_types (x ∷ y ∷ xs) l = absurd (omega arith)

taken_so_far : (xs : List ℕ) (n size : ℕ) → n ≡ min (length xs) size → (take n xs ≡ take size xs) × (drop n xs ≡ drop size xs)
taken_so_far xs n size e = elim (cases_lt size (length xs)) [
  | inl l ↦ (ap (λ k. take k xs) (omega arith), ap (λ k. drop k xs) (omega arith))
  | inr l ↦ (take_all n xs (omega arith) ∙ sym (take_all size xs l), drop_all n xs (omega arith) ∙ sym (drop_all size xs l))
]

-- at the beginning of a block, its types and those of the blocks after it are unread
pub entered : (xs : List ℕ) (n size : ℕ) → 2 ≤ length xs → size ≡ get_or xs 1 0 → n ≡ min (length xs) (2 + size)
    → types_in (get_or xs 0 0) (take (n - 2) (drop 2 xs)) 0 ++ types_of (take (length xs - n) (drop n xs)) ≡ types_of xs
entered [] n size l e en = absurd (omega arith)
entered (a ∷ []) n size l e en = absurd (omega arith)
entered (a ∷ b ∷ ys) zero size l e en = absurd (omega arith)
entered (a ∷ b ∷ ys) (suc zero) size l e en = absurd (omega arith)
entered (a ∷ b ∷ ys) (suc (suc n)) size l e en =
    let parts = taken_so_far ys n size (omega arith) in
    let front : suc (suc n) - 2 ≡ n = omega arith in
    ap (λ k. types_in a (take k ys) 0 ++ types_of (take (length (a ∷ b ∷ ys) - suc (suc n)) (drop n ys))) front
    ∙ ap (λ r. types_in a (take n ys) 0 ++ types_of r) (take_rest (a ∷ b ∷ ys) (suc (suc n)))
    ∙ ap (λ x. types_in a x 0 ++ types_of (drop n ys)) parts.0 ∙ ap (λ r. types_in a (take size ys) 0 ++ types_of r) parts.1
    ∙ ap (λ k. types_in a (take k ys) 0 ++ types_of (drop k ys)) e ∙ sym (types_next a b ys)

-- at the end of a window only the blocks after it are unread
pub window_over : (w : ℕ) (octets rest : List ℕ) → types_in w octets 256 ++ types_of rest ≡ types_of rest
window_over w octets rest = ap (λ ps. map (λ q. 256 * w + q) ps ++ types_of rest) (places_none octets 256)

pub none_left : (w place : ℕ) (octets rest : List ℕ) → set_places octets place (256 - place) ≡ [] → length rest < 2 → types_in w octets place ++ types_of rest ≡ []
none_left w place octets rest e l = ap (λ ps. map (λ q. 256 * w + q) ps ++ types_of rest) e ∙ short_types rest l

pushed : (a b : Bool) → (a || b) ≡ (b || (a || false))
pushed true true = refl
pushed true false = refl
pushed false true = refl
pushed false false = refl

-- a type more in a set and at the end of a list
pub same_types_more : (old new types : List ℕ) (code : ℕ) → SameTypes old types → SameTypes new (code ∷ old) → SameTypes new (types ++ code ∷ [])
same_types_more old new types code h m t l =
    m t l ∙ ap (λ b. (code == t) || b) (h t l) ∙ pushed (code == t) (has types t) ∙ sym (has_both types (code ∷ []) t)
