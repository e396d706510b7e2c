-- The indexes of the NSEC3 records of a chain: words for private functions.
use Rattle.std.specs.Prelude.{◌≡◌, ℕ, suc, ◌&&◌, if◌then◌else◌, nat_lt, Bool, true, false, Option, Some, None, List, [], ◌∷◌, map, slice_get}
use Rattle.std.specs.List.{find}
use Rattle.std.specs.List.Sorted.{IsPartitionPoint}
use Rattle.std.specs.Option.{option_map_or}
use Rattle.dns_wire.specs.Order.{same_name}
use Rattle.zone_record.specs.declared.record.Record.{Record}
use Rattle.zone_dnssec.specs.Nsec3Chain.{is_link}

-- the indexes of the items that pass a test, in ascending order
abbrev pub places_where : {X : Type 0} → (X → Bool) → List X → List ℕ
places_where test [] = []
places_where test (x ∷ xs) = if test x then 0 ∷ map (λ i. suc i) (places_where test xs) else map (λ i. suc i) (places_where test xs)

-- the indexes of the NSEC3 records of a chain
abbrev pub link_places : {N O M P : Type 0} → Record M P → List (Record N O) → List ℕ
link_places chain records = places_where (is_link chain) records

abbrev pub AreLinks : {N O M P : Type 0} → Record M P → List (Record N O) → List ℕ → Type 0
AreLinks chain records links = links ≡ link_places chain records

-- the record at an index is an NSEC3 of a chain
abbrev pub is_link_in : {N O M P : Type 0} → Record M P → List (Record N O) → ℕ → Bool
is_link_in chain records place = option_map_or (is_link chain) (slice_get records place) false

-- the index of a record, if it is one
abbrev pub link_if : Bool → ℕ → List ℕ
link_if is_link place = if is_link then place ∷ [] else []

-- the number of indexes that are below another, which come first
abbrev pub PartsLinks : ℕ → List ℕ → ℕ → Type 0
PartsLinks place links count = IsPartitionPoint (λ link. nat_lt link place ≡ true) (λ link. nat_lt link place ≡ false) links count

-- an index, if it is below another
abbrev pub link_below : ℕ → Option ℕ → Option ℕ
link_below past None = None
link_below past (Some place) = if nat_lt place past then Some place else None

-- the NSEC3 of a chain at an owner
abbrev pub owned_link : {N O M P : Type 0} → List (Record N O) → Record M P → List (List ℕ) → Option (Record N O)
owned_link records chain owner = find (λ r. same_name r.owner owner && is_link chain r) records
