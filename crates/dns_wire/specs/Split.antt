-- Octets with which no label begins.
use Rattle.std.specs.Prelude.{◌≡◌, ℕ, ◌+◌, ◌*◌, ◌%◌, ◌<◌, ◌≤◌, List, [], ◌∷◌, length}
use Rattle.dns_wire.specs.declared.error.SplitLabelError.{SplitLabelError}
use Rattle.dns_wire.specs.declared.error.SplitLabelError.TheVariants.{Pointer, BadType, ShortInput}

-- the octets end before the label or the pointer does
pub data IsCut (octets : List ℕ) : Type 0 where
  cut_lead : octets ≡ [] → IsCut octets
  cut_label : (lead : ℕ) (more : List ℕ) → octets ≡ lead ∷ more → lead ≤ 63 → length more < lead → IsCut octets
  cut_pointer : (lead : ℕ) → octets ≡ lead ∷ [] → 192 ≤ lead → IsCut octets

-- no label begins the octets, and why
abbrev pub RefusesLabel : SplitLabelError → List ℕ → Type 0
RefusesLabel ShortInput octets = IsCut octets
RefusesLabel (BadType e) octets = (more : List ℕ) × (octets ≡ e.0 ∷ more) × (64 ≤ e.0) × (e.0 < 192)
RefusesLabel (Pointer place) octets = (lead : ℕ) × (next : ℕ) × (more : List ℕ) × (octets ≡ lead ∷ next ∷ more) × (192 ≤ lead) × (place ≡ lead % 64 * 256 + next)
