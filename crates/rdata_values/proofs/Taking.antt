-- Types that are parsed from a bitmap, window by window.
use Rattle.std.proofs.Common.{◌≡◌, ◌≢◌, ℕ, ◌+◌, ◌-◌, ◌*◌, ◌/◌, ◌%◌, ◌<◌, ◌≤◌, ◌⊎◌, false, List, [], ◌∷◌, ◌++◌, length, get_or, take, drop, All, refl, sym, ap, ◌∙◌, arith, suc, inl, inr, append-nil, append_assoc}
use Rattle.std.proofs.lemmas.List.{get_or_past, get_or-take, get_or-drop, take_at, drop_at, take-append-drop, take_rest, length-take-le, length-drop}
use Rattle.std.proofs.lemmas.List.Elements.{All-weaker, All-from_get_or}
use Rattle.std.proofs.lemmas.Bool.{cases_lt}
use Rattle.std.proofs.lemmas.Nat.Bits.{bit_at-zero}
use Rattle.std.specs.Int.{bit_at}
use Rattle.rdata_values.specs.Bitmap.{has, one_if, bit_in, window_octets_of, window_block, window_blocks, bitmap, IsData, IsAscending}
use Rattle.rdata_values.proofs.Bits.{octets_length, octets_small, bit_of_place}
use Rattle.rdata_values.proofs.Trimmed.{HasNoZeroLast, trimmed_at, trimmed_last, trimmed_length}
use Rattle.rdata_values.proofs.Blocks.{blocks_none, Begins, begins, blocks_last, blocks_same}
use Rattle.rdata_values.proofs.Windows.{window_of, window_is, has_none, skipped}

pub none_above : (types : List ℕ) (n code : ℕ) → All (λ t. t < n) types → n ≤ code → has types code ≡ false
none_above types n code h l = has_none types code (All-weaker (λ t. t < n) (λ t. t ≢ code) (λ t below e. omega arith) types h)

-- there are no bits after the end
pub bit_past : (octets : List ℕ) (p : ℕ) → 8 * length octets ≤ p → bit_in octets p ≡ 0
bit_past octets p l = ap (λ x. bit_at x (7 - p % 8)) (get_or_past octets (p / 8) 0 (omega arith)) ∙ bit_at-zero (7 - p % 8)

pub window_bits : (types : List ℕ) (w p : ℕ) → p < 256 → bit_in (window_of types w) p ≡ one_if (has types (256 * w + p))
window_bits types w p l = ap (λ x. bit_at x (7 - p % 8)) (trimmed_at (window_octets_of types w) (p / 8)) ∙ bit_of_place types w p l

window_small : (types : List ℕ) (w k : ℕ) → get_or (window_of types w) k 0 < 256
window_small types w k = elim (cases_lt k 32) [
  | inl l ↦ (let e = trimmed_at (window_octets_of types w) k in let s = octets_small types w k l in omega arith)
  | inr l ↦ (let e = trimmed_at (window_octets_of types w) k ∙ get_or_past (window_octets_of types w) k 0 (omega (arith, octets_length types w)) in omega arith)
]

window_short : (types : List ℕ) (w : ℕ) → length (window_of types w) ≤ 32
window_short types w = omega (arith, trimmed_length (window_octets_of types w), octets_length types w)

-- lists with the same members in a window have the same octets there
pub window_same : (s t : List ℕ) (w : ℕ) → ((p : ℕ) → p < 256 → has s (256 * w + p) ≡ has t (256 * w + p)) → window_of s w ≡ window_of t w
window_same s t w h = window_is s (window_of t w) w (trimmed_last (window_octets_of t w)) (window_short t w) (window_small t w)
    (λ p l. window_bits t w p l ∙ ap one_if (sym (h p l)))

some_length : (xs : List ℕ) → xs ≢ [] → 0 < length xs
some_length [] h = absurd (h refl)
some_length (x ∷ xs) h = omega arith

pub window_data : (types : List ℕ) (w : ℕ) → window_of types w ≢ [] → IsData (window_of types w)
window_data types w h = record {
  some = some_length (window_of types w) h;
  short = window_short types w;
  small = All-from_get_or (λ octet. octet < 256) (window_of types w) 0 (λ i l. window_small types w i);
  last = let l = some_length (window_of types w) h in trimmed_last (window_octets_of types w) (length (window_of types w) - 1) (omega arith);
}

data_last : (xs : List ℕ) → IsData xs → HasNoZeroLast xs
data_last xs d n e z = d.last (ap (λ k. get_or xs k 0) (omega arith) ∙ z)

data_small : (xs : List ℕ) → IsData xs → (k : ℕ) → get_or xs k 0 < 256
data_small xs d k = elim (cases_lt k (length xs)) [
  | inl l ↦ d.small k 0 l
  | inr l ↦ (let e = get_or_past xs k 0 l in omega arith)
]

pub block_is : (w : ℕ) (xs : List ℕ) → 0 < length xs → window_block w xs ≡ w ∷ length xs ∷ xs
block_is w [] l = absurd (omega arith)
block_is w (x ∷ xs) l = refl

-- the new set is the old one with the types of a window added
pub record TakesWindow (old : List ℕ) (window : ℕ) (octets new : List ℕ) : Type 0 where
  pub kept : (code : ℕ) → code / 256 ≢ window → has new code ≡ has old code
  pub bits : (place : ℕ) → place < 256 → one_if (has new (256 * window + place)) ≡ bit_in octets place
  pub ascending : IsAscending new
  pub below : All (λ t. t < 256 * (window + 1)) new

-- one block more
pub taken_more : (octets rest after old new xs : List ℕ) (next window : ℕ) → next ≤ window → All (λ t. t < 256 * next) old
    → IsData xs → TakesWindow old window xs new
    → octets ≡ window_blocks (window_of old) 0 next ++ rest → rest ≡ window ∷ length xs ∷ xs ++ after → octets ≡ window_blocks (window_of new) 0 (window + 1) ++ after
taken_more octets rest after old new xs next window l below d takes e split =
    let front : window_blocks (window_of new) 0 window ≡ window_blocks (window_of old) 0 next =
    blocks_same (window_of new) (window_of old) 0 window (λ v low high. window_same new old v (λ p small_p. takes.kept (256 * v + p) (λ same. omega arith)))
    ∙ skipped old next window l (All-weaker (λ t. t < 256 * next) (λ t. (t / 256 < next) ⊎ (window ≤ t / 256)) (λ t h. inl (omega arith)) old below) in
    let here : window_of new window ≡ xs = window_is new xs window (data_last xs d) d.short (data_small xs d) (λ p small_p. sym (takes.bits p small_p)) in
    let with_block : window_blocks (window_of new) 0 (window + 1) ≡ window_blocks (window_of old) 0 next ++ (window ∷ length xs ∷ xs) =
    sym (blocks_last (window_of new) window) ∙ ap (λ f. f ++ window_block window (window_of new window)) front
    ∙ ap (λ x. window_blocks (window_of old) 0 next ++ window_block window x) here ∙ ap (λ x. window_blocks (window_of old) 0 next ++ x) (block_is window xs d.some) in
    e ∙ ap (λ r. window_blocks (window_of old) 0 next ++ r) split ∙ sym (append_assoc (window_blocks (window_of old) 0 next) (window ∷ length xs ∷ xs) after) ∙ ap (λ f. f ++ after) (sym with_block)

pub record Follows (f : ℕ → List ℕ) (w n a : ℕ) (xs after : List ℕ) : Type 0 where
  pub low : w ≤ a
  pub here : f a ≡ xs
  pub later : window_blocks f (a + 1) (w + n - (a + 1)) ≡ after

same_front : (xs ys us vs : List ℕ) → length xs ≡ length ys → xs ++ us ≡ ys ++ vs → (xs ≡ ys) × (us ≡ vs)
same_front xs ys us vs l e = (
  sym (take_at xs us (length xs) refl) ∙ ap (take (length xs)) e ∙ take_at ys vs (length xs) (sym l),
  sym (drop_at xs us (length xs) refl) ∙ ap (drop (length xs)) e ∙ drop_at ys vs (length xs) (sym l),
)

follows_from : (f : ℕ → List ℕ) (w n a : ℕ) (xs after octets : List ℕ) → Begins f w n octets → octets ≡ a ∷ length xs ∷ xs ++ after → Follows f w n a xs after
follows_from f w n a xs after octets (inl none) e = cc
follows_from f w n a xs after octets (inr (b, at)) e =
    let joined : b ∷ length (f b) ∷ f b ++ window_blocks f (b + 1) (w + n - (b + 1)) ≡ a ∷ length xs ∷ xs ++ after = sym at.octets_are ∙ e in
    let same : b ≡ a = cc in
    let long : length (f b) ≡ length xs = cc in
    let tails : f b ++ window_blocks f (b + 1) (w + n - (b + 1)) ≡ xs ++ after = cc in
    let parts = same_front (f b) xs (window_blocks f (b + 1) (w + n - (b + 1))) after long tails in
    record {
      low = omega (arith, at.low);
      here = ap f (sym same) ∙ parts.0;
      later = ap (λ c. window_blocks f (c + 1) (w + n - (c + 1))) (sym same) ∙ parts.1;
    }

-- octets of blocks begin with a block in one way
pub follows : (f : ℕ → List ℕ) (w n a : ℕ) (xs after : List ℕ) → window_blocks f w n ≡ a ∷ length xs ∷ xs ++ after → Follows f w n a xs after
follows f w n a xs after e = follows_from f w n a xs after (window_blocks f w n) (begins f w n) e

-- no windows are left before the end, so these are all
pub all_taken : (octets types : List ℕ) (next : ℕ) → next ≤ 256 → All (λ t. t < 256 * next) types → octets ≡ window_blocks (window_of types) 0 next ++ [] → bitmap types ≡ octets
all_taken octets types next l below e =
    skipped types next 256 l (All-weaker (λ t. t < 256 * next) (λ t. (t / 256 < next) ⊎ (256 ≤ t / 256)) (λ t h. inl (omega arith)) types below)
    ∙ sym (append-nil (window_blocks (window_of types) 0 next)) ∙ sym e

refused_by : (others : List ℕ) (next n : ℕ) (rest : List ℕ) → Begins (window_of others) next n rest → rest ≢ []
    → ((a : ℕ) (xs after : List ℕ) → IsData xs → rest ≢ a ∷ length xs ∷ xs ++ after) → ⊥
refused_by others next n rest (inl none) some h = some none
refused_by others next n rest (inr (a, at)) some h =
    h a (window_of others a) (window_blocks (window_of others) (a + 1) (next + n - (a + 1))) (window_data others a at.some) at.octets_are

-- octets that are not empty and do not begin with a block are not the blocks of windows
pub no_block : (others : List ℕ) (next n : ℕ) (rest : List ℕ) → window_blocks (window_of others) next n ≡ rest → rest ≢ []
    → ((a : ℕ) (xs after : List ℕ) → IsData xs → rest ≢ a ∷ length xs ∷ xs ++ after) → ⊥
no_block others next n rest e some h =
    refused_by others next n (window_blocks (window_of others) next n) (begins (window_of others) next n) (λ z. some (sym e ∙ z)) (λ a xs after d is. h a xs after d (sym e ∙ is))

-- a block is split off
pub split_block : (xs : List ℕ) (n m k : ℕ) → m ≡ n → k ≡ suc (suc n) → k ≤ length xs → get_or xs 1 0 ≡ n
    → xs ≡ get_or xs 0 0 ∷ length (take m (drop 2 xs)) ∷ (take m (drop 2 xs) ++ take (length xs - k) (drop k xs))
split_block [] n m k em ek l at = absurd (omega arith)
split_block (a ∷ []) n m k em ek l at = absurd (omega arith)
split_block (a ∷ b ∷ rest) n m k em ek l at =
    let tail : take (length (a ∷ b ∷ rest) - k) (drop k (a ∷ b ∷ rest)) ≡ drop n rest = take_rest (a ∷ b ∷ rest) k ∙ ap (λ j. drop j (a ∷ b ∷ rest)) ek in
    let long : length (take m rest) ≡ b = ap (λ j. length (take j rest)) em ∙ length-take-le n rest (omega arith) ∙ sym at in
    let whole : take m rest ++ take (length (a ∷ b ∷ rest) - k) (drop k (a ∷ b ∷ rest)) ≡ rest =
    ap (λ j. take j rest ++ take (length (a ∷ b ∷ rest) - k) (drop k (a ∷ b ∷ rest))) em ∙ ap (λ t. take n rest ++ t) tail ∙ take-append-drop n rest in cc

pub block_data : (xs : List ℕ) (n m : ℕ) → m ≡ n → n + 2 ≤ length xs → 0 < n → n ≤ 32 → get_or xs (1 + n) 0 ≢ 0 → ((k : ℕ) → get_or xs k 0 < 256) → IsData (take m (drop 2 xs))
block_data xs n m e l some short last small =
    let long : length (take m (drop 2 xs)) ≡ n = ap (λ j. length (take j (drop 2 xs))) e ∙ length-take-le n (drop 2 xs) (omega (arith, length-drop 2 xs)) in
    record {
      some = omega arith;
      short = omega arith;
      small = All-from_get_or (λ octet. octet < 256) (take m (drop 2 xs)) 0 (λ i inside.
          let same = get_or-take m (drop 2 xs) i 0 (omega arith) ∙ get_or-drop 2 xs i 0 in let s = small (2 + i) in omega arith);
      last = λ z. last (ap (λ j. get_or xs j 0) (omega arith) ∙ sym (get_or-drop 2 xs (length (take m (drop 2 xs)) - 1) 0)
          ∙ sym (get_or-take m (drop 2 xs) (length (take m (drop 2 xs)) - 1) 0 (omega arith)) ∙ z);
    }

-- the blocks before a window are read, and no types have other blocks there
pub record ReadsBlocks (octets types rest : List ℕ) (next : ℕ) : Type 0 where
  pub high : next ≤ 256
  pub below : All (λ t. t < 256 * next) types
  pub ascending : IsAscending types
  pub taken : octets ≡ window_blocks (window_of types) 0 next ++ rest
  pub only : (others : List ℕ) → bitmap others ≡ octets → window_blocks (window_of others) next (256 - next) ≡ rest

pub reads_none : (octets types : List ℕ) → types ≡ [] → ReadsBlocks octets types octets 0
reads_none octets [] e = record {
  high = omega arith;
  below = λ k d l. absurd (omega arith);
  ascending = λ i j d l m. absurd (omega arith);
  taken = ap (λ b. b ++ octets) (sym (blocks_none (window_of []) 0));
  only = λ others h. h;
}
reads_none octets (t ∷ types) e = absurd cc

pub reads_more : (octets rest after old new xs : List ℕ) (next window : ℕ) → ReadsBlocks octets old rest next → next ≤ window → window < 256
    → IsData xs → TakesWindow old window xs new → rest ≡ window ∷ length xs ∷ xs ++ after → ReadsBlocks octets new after (window + 1)
reads_more octets rest after old new xs next window h l high d takes split = record {
  high = omega arith;
  below = takes.below;
  ascending = takes.ascending;
  taken = taken_more octets rest after old new xs next window l h.below d takes h.taken split;
  only = λ others is. let later = follows (window_of others) next (256 - next) window xs after (h.only others is ∙ split) in
      let range : next + (256 - next) - (window + 1) ≡ 256 - (window + 1) = omega (arith, h.high) in
      ap (window_blocks (window_of others) (window + 1)) (sym range) ∙ later.later;
}

pub reads_all : (octets types rest : List ℕ) (next : ℕ) → ReadsBlocks octets types rest next → rest ≡ [] → IsAscending types × (bitmap types ≡ octets)
reads_all octets types rest next h e = (h.ascending, all_taken octets types next h.high h.below (h.taken ∙ ap (λ r. window_blocks (window_of types) 0 next ++ r) e))

-- a window that does not ascend is in no bitmap
pub no_order : (octets types rest xs after others : List ℕ) (next window : ℕ) → ReadsBlocks octets types rest next → window < next
    → rest ≡ window ∷ length xs ∷ xs ++ after → bitmap others ≢ octets
no_order octets types rest xs after others next window h l split is =
    let later = follows (window_of others) next (256 - next) window xs after (h.only others is ∙ split) in omega (arith, later.low)

pub no_bitmap : (octets types rest others : List ℕ) (next : ℕ) → ReadsBlocks octets types rest next → rest ≢ []
    → ((a : ℕ) (xs after : List ℕ) → IsData xs → rest ≢ a ∷ length xs ∷ xs ++ after) → bitmap others ≢ octets
no_bitmap octets types rest others next h some none is = no_block others next (256 - next) rest (h.only others is) some none

pub nothing_left : (xs : List ℕ) → length xs ≡ 0 → xs ≡ []
nothing_left [] l = refl
nothing_left (x ∷ xs) l = absurd (omega arith)
