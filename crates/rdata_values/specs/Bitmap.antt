-- The type bitmap of a list of types (RFC 4034 section 4.1.2).
use Rattle.std.specs.Prelude.{ℕ, zero, suc, ◌+◌, ◌-◌, ◌*◌, ◌/◌, ◌%◌, ◌==◌, ◌<◌, ◌≤◌, ◌≡◌, ◌≢◌, ◌⊎◌, All, Bool, cond, List, [], ◌∷◌, ◌++◌, length, map, take, drop, slice_index}
use Rattle.std.specs.Int.{bit_at}
use Rattle.std.specs.List.{list_any, flat_map, range_with_len, AllPairs}
use Rattle.rdata_values.specs.declared.bitmap.BitmapError.{BitmapError}
use Rattle.rdata_values.specs.declared.bitmap.BitmapError.TheVariants.{Order, Length, TrailingZero, Short}

-- whether a code is in the list
abbrev pub has : List ℕ → ℕ → Bool
has types code = list_any (λ t. t == code) types

abbrev pub one_if : Bool → ℕ
one_if b = cond b 1 0

-- eight codes in one octet: the bit of the first is the highest
unfoldable pub types_octet : List ℕ → ℕ → ℕ
types_octet types first =
    128 * one_if (has types first) + 64 * one_if (has types (first + 1)) + 32 * one_if (has types (first + 2)) + 16 * one_if (has types (first + 3))
    + 8 * one_if (has types (first + 4)) + 4 * one_if (has types (first + 5)) + 2 * one_if (has types (first + 6)) + one_if (has types (first + 7))

-- all 32 octets of a window of 256 codes
unfoldable pub window_octets_of : List ℕ → ℕ → List ℕ
window_octets_of types window = map (λ k. types_octet types (256 * window + 8 * k)) (range_with_len 0 32)

-- an octet before others: a zero is omitted if nothing follows
abbrev pub prepended : ℕ → List ℕ → List ℕ
prepended zero [] = []
prepended octet octets = octet ∷ octets

-- the octets without the zeros at their end
unfoldable pub trimmed : List ℕ → List ℕ
trimmed [] = []
trimmed (x ∷ xs) = prepended x (trimmed xs)

-- a block: the window's number, the number of octets, and these; without octets there is no block
abbrev pub window_block : ℕ → List ℕ → List ℕ
window_block window [] = []
window_block window (x ∷ xs) = window ∷ length (x ∷ xs) ∷ x ∷ xs

-- the blocks of `count` windows from the first on
unfoldable pub window_blocks : (ℕ → List ℕ) → ℕ → ℕ → List ℕ
window_blocks octets first count = flat_map (λ w. window_block w (octets w)) (range_with_len first count)

-- the blocks of all windows in order, of each the octets up to the last that is not zero
abbrev pub bitmap : List ℕ → List ℕ
bitmap types = window_blocks (λ w. trimmed (window_octets_of types w)) 0 256

-- the bit at an index of octets, counted from the left; 0 after their end
abbrev pub bit_in : List ℕ → ℕ → ℕ
bit_in octets place = bit_at (slice_index octets (place / 8)) (7 - place % 8)

-- each code is below those after it
abbrev pub IsAscending : List ℕ → Type 0
IsAscending codes = AllPairs (λ a b. a < b) codes

-- the octets of a block: 1 to 32, of which the last is not zero
pub record IsData (octets : List ℕ) : Type 0 where
  pub some : 0 < length octets
  pub short : length octets ≤ 32
  pub small : All (λ octet. octet < 256) octets
  pub last : slice_index octets (length octets - 1) ≢ 0

-- octets that are the bitmap of some types
abbrev pub IsBitmap : List ℕ → Type 0
IsBitmap octets = (types : List ℕ) × (bitmap types ≡ octets)

-- the same types are in both lists
abbrev pub SameTypes : List ℕ → List ℕ → Type 0
SameTypes a b = (code : ℕ) → code < 65536 → has a code ≡ has b code

-- the indices of the set bits, of `count` bits from the first on
unfoldable pub set_places : List ℕ → ℕ → ℕ → List ℕ
set_places octets first count = flat_map (λ place. cond (bit_in octets place == 1) (place ∷ []) []) (range_with_len first count)

-- the types of a window from a bit on
abbrev pub types_in : ℕ → List ℕ → ℕ → List ℕ
types_in window octets place = map (λ p. 256 * window + p) (set_places octets place (256 - place))

-- the types of at most `count` blocks; each block is its window's number, the number of octets, and these
unfoldable pub block_types : ℕ → List ℕ → List ℕ
block_types (suc count) (window ∷ size ∷ octets) = types_in window (take size octets) 0 ++ block_types count (drop size octets)
block_types zero octets = []
block_types (suc count) [] = []
block_types (suc count) (window ∷ []) = []

-- the types that a bitmap has, in ascending order
abbrev pub types_of : List ℕ → List ℕ
types_of octets = block_types (length octets) octets

-- octets that are a bitmap and then these octets
abbrev pub IsBitmapThen : (List ℕ → Type 0) → List ℕ → Type 0
IsBitmapThen Is octets = (types rest : List ℕ) × (octets ≡ bitmap types ++ rest) × Is rest

-- a number of octets that a block may have
abbrev pub IsBlockSize : ℕ → Type 0
IsBlockSize size = (0 < size) × (size ≤ 32)

-- what the octets begin with, by the error: two blocks whose numbers do not ascend; a size of none
-- or too many octets; a last octet of zero; no size, or fewer octets than the size
abbrev pub IsWrongBlock : BitmapError → List ℕ → Type 0
IsWrongBlock Order octets = (a b : ℕ) × (xs ys after : List ℕ) × (octets ≡ window_block a xs ++ (window_block b ys ++ after)) × IsData xs × IsData ys × (b ≤ a)
IsWrongBlock Length octets = (2 ≤ length octets) × ¬ IsBlockSize (slice_index octets 1)
IsWrongBlock TrailingZero octets = IsBlockSize (slice_index octets 1) × (2 + slice_index octets 1 ≤ length octets) × (slice_index octets (1 + slice_index octets 1) ≡ 0)
IsWrongBlock Short octets = (length octets ≡ 1) ⊎ (IsBlockSize (slice_index octets 1) × (2 ≤ length octets) × (length octets < 2 + slice_index octets 1))
