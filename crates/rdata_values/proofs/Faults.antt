-- A bitmap that is checked block by block, and the error in it.
use Rattle.std.proofs.Common.{◌≡◌, ℕ, ◌+◌, ◌*◌, ◌/◌, ◌<◌, ◌≤◌, ◌⊎◌, List, [], ◌∷◌, ◌++◌, length, refl, sym, ap, ◌∙◌, arith, inl, inr}
use Rattle.std.proofs.lemmas.List.Elements.{All-weaker}
use Rattle.rdata_values.specs.Bitmap.{window_block, bitmap, types_in, IsData, IsBitmap, IsBitmapThen, IsWrongBlock}
use Rattle.rdata_values.specs.declared.bitmap.BitmapError.{BitmapError}
use Rattle.rdata_values.specs.declared.bitmap.BitmapError.TheVariants.{Order}
use Rattle.rdata_values.proofs.Windows.{skipped}
use Rattle.rdata_values.proofs.Taking.{ReadsBlocks, reads_none, reads_more, reads_all, block_is}
use Rattle.rdata_values.proofs.Places.{takes_block}

-- a bitmap, then a block, and then the rest
abbrev pub LastBlock : List ℕ → List ℕ → ℕ → Type 0
LastBlock octets rest next = (before : List ℕ) × (a : ℕ) × (xs : List ℕ) × (next ≡ a + 1) × IsData xs × (octets ≡ bitmap before ++ (window_block a xs ++ rest))

-- the blocks before the rest are a bitmap, and the last of them is that before the next window
pub record ChecksBlocks (octets rest : List ℕ) (next : ℕ) : Type 0 where
  pub types : List ℕ
  pub reads : ReadsBlocks octets types rest next
  pub last : (next ≡ 0) ⊎ LastBlock octets rest next

pub checks_none : (octets : List ℕ) → ChecksBlocks octets octets 0
checks_none octets = record { types = []; reads = reads_none octets [] refl; last = inl refl }

pub bitmap_before : (octets types rest : List ℕ) (next : ℕ) → ReadsBlocks octets types rest next → octets ≡ bitmap types ++ rest
bitmap_before octets types rest next h =
    h.taken ∙ ap (λ b. b ++ rest) (sym (skipped types next 256 h.high (All-weaker (λ t. t < 256 * next) (λ t. (t / 256 < next) ⊎ (256 ≤ t / 256)) (λ t l. inl (omega arith)) types h.below)))

pub checks_more : (octets rest after xs : List ℕ) (next window : ℕ) → ChecksBlocks octets rest next → next ≤ window → window < 256 → IsData xs
    → rest ≡ window ∷ length xs ∷ xs ++ after → ChecksBlocks octets after (window + 1)
checks_more octets rest after xs next window h l small d split =
    let reads = h.reads in
    let below = All-weaker (λ t. t < 256 * next) (λ t. t < 256 * window) (λ t b. omega arith) h.types reads.below in record {
      types = h.types ++ types_in window xs 0;
      reads = reads_more octets rest after h.types (h.types ++ types_in window xs 0) xs next window reads l small d (takes_block h.types window xs below reads.ascending) split;
      last = inr (
        h.types,
        window,
        xs,
        refl,
        d,
        bitmap_before octets h.types rest next reads ∙ ap (λ r. bitmap h.types ++ r) split ∙ ap (λ b. bitmap h.types ++ (b ++ after)) (sym (block_is window xs d.some)),
      );
    }

pub is_bitmap : (octets rest : List ℕ) (next : ℕ) → ChecksBlocks octets rest next → rest ≡ [] → IsBitmap octets
is_bitmap octets rest next h e = (h.types, (reads_all octets h.types rest next h.reads e).1)

pub goes_wrong : (octets rest : List ℕ) (next : ℕ) (error : BitmapError) → ChecksBlocks octets rest next → IsWrongBlock error rest → IsBitmapThen (IsWrongBlock error) octets
goes_wrong octets rest next error h w = (h.types, rest, bitmap_before octets h.types rest next h.reads, w)

order_by : (octets rest ys after : List ℕ) (next window : ℕ) → (next ≡ 0) ⊎ LastBlock octets rest next → window < next → IsData ys
    → rest ≡ window ∷ length ys ∷ ys ++ after → IsBitmapThen (IsWrongBlock Order) octets
order_by octets rest ys after next window (inl e) l d split = absurd (omega arith)
order_by octets rest ys after next window (inr (before, a, xs, e, dx, is)) l d split = (
  before,
  window_block a xs ++ rest,
  is,
  (
    a,
    window,
    xs,
    ys,
    after,
    ap (λ r. window_block a xs ++ r) (split ∙ ap (λ b. b ++ after) (sym (block_is window ys d.some))),
    dx,
    d,
    omega arith,
  ),
)

-- a window that does not ascend
pub order_wrong : (octets rest ys after : List ℕ) (next window : ℕ) → ChecksBlocks octets rest next → window < next → IsData ys
    → rest ≡ window ∷ length ys ∷ ys ++ after → IsBitmapThen (IsWrongBlock Order) octets
order_wrong octets rest ys after next window h l d split = order_by octets rest ys after next window h.last l d split
