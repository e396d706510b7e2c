-- The octets of a window, from its bits, and windows with no member.
use Rattle.std.proofs.Common.{◌≡◌, ◌≢◌, ℕ, ◌+◌, ◌-◌, ◌*◌, ◌/◌, ◌%◌, ◌<◌, ◌≤◌, ◌⊎◌, ◌==◌, false, List, [], ◌++◌, length, get_or, All, sym, ap, ◌∙◌, arith, inl, inr, append-nil}
use Rattle.std.proofs.lemmas.List.{get_or_past}
use Rattle.std.proofs.lemmas.List.Folds.{list_any_none}
use Rattle.std.proofs.lemmas.List.Elements.{All-weaker}
use Rattle.std.proofs.lemmas.Bool.{cases_lt, ne_eqb}
use Rattle.std.proofs.lemmas.Nat.Bits.{bit_at-zero}
use Rattle.rdata_values.specs.Bitmap.{has, one_if, bit_in, window_octets_of, trimmed, window_blocks}
use Rattle.rdata_values.proofs.Bits.{octets_length, octets_small, same_octet, bit_of_place}
use Rattle.rdata_values.proofs.Trimmed.{HasNoZeroLast, trimmed_at, trimmed_last, one_list}
use Rattle.rdata_values.proofs.Blocks.{blocks_split, blocks_empty}

abbrev pub window_of : List ℕ → ℕ → List ℕ
window_of types w = trimmed (window_octets_of types w)

window_at : (types octets : List ℕ) (window k : ℕ) → length octets ≤ 32 → ((k : ℕ) → get_or octets k 0 < 256)
    → ((p : ℕ) → p < 256 → bit_in octets p ≡ one_if (has types (256 * window + p))) → get_or (window_octets_of types window) k 0 ≡ get_or octets k 0
window_at types octets window k short small bits = elim (cases_lt k 32) [
  | inl l ↦ same_octet (window_octets_of types window) octets k (octets_small types window k l) (small k)
      (λ p at. let below : p < 256 = omega arith in bit_of_place types window p below ∙ sym (bits p below))
  | inr l ↦ get_or_past (window_octets_of types window) k 0 (omega (arith, octets_length types window)) ∙ sym (get_or_past octets k 0 (omega arith))
]

-- octets with the bits of a window are its octets
pub window_is : (types octets : List ℕ) (window : ℕ) → HasNoZeroLast octets → length octets ≤ 32 → ((k : ℕ) → get_or octets k 0 < 256)
    → ((p : ℕ) → p < 256 → bit_in octets p ≡ one_if (has types (256 * window + p))) → window_of types window ≡ octets
window_is types octets window last short small bits =
    one_list (window_of types window) octets (trimmed_last (window_octets_of types window)) last
    (λ k. trimmed_at (window_octets_of types window) k ∙ window_at types octets window k short small bits)

pub window_empty : (types : List ℕ) (window : ℕ) → ((p : ℕ) → p < 256 → has types (256 * window + p) ≡ false) → window_of types window ≡ []
window_empty types window none = window_is types [] window (λ n l. absurd (omega arith)) (omega arith) (λ k. omega arith)
    (λ p l. bit_at-zero (7 - p % 8) ∙ ap one_if (sym (none p l)))

pub has_none : (types : List ℕ) (code : ℕ) → All (λ t. t ≢ code) types → has types code ≡ false
has_none types code h = list_any_none (λ t. t == code) types (All-weaker (λ t. t ≢ code) (λ t. (t == code) ≡ false) (λ t n. ne_eqb t code n) types h)

-- windows without types have no blocks
pub skipped : (types : List ℕ) (a b : ℕ) → a ≤ b → All (λ t. (t / 256 < a) ⊎ (b ≤ t / 256)) types
    → window_blocks (window_of types) 0 b ≡ window_blocks (window_of types) 0 a
skipped types a b l h =
    ap (window_blocks (window_of types) 0) (omega arith) ∙ blocks_split (window_of types) 0 a (b - a)
    ∙ ap (λ xs. window_blocks (window_of types) 0 a ++ xs) (blocks_empty (window_of types) (0 + a) (b - a) (λ v low high.
    window_empty types v (λ p small. has_none types (256 * v + p) (All-weaker (λ t. (t / 256 < a) ⊎ (b ≤ t / 256)) (λ t. t ≢ 256 * v + p) (λ t e same. omega arith) types h))))
    ∙ append-nil (window_blocks (window_of types) 0 a)
