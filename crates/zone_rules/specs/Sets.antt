-- The RRsets of an owner, among records in canonical order: words for private functions.
use Rattle.std.specs.Prelude.{⊤, ℕ, ◌≡◌, ◌<◌, ◌≤◌, ◌-◌, ◌==◌, ◌&&◌, Bool, true, false, List, Some, length, slice_get}
use Rattle.std.specs.List.{AllWithin}
use Rattle.std.specs.Option.{option_map_or}
use Rattle.dns_wire.specs.Order.{same_name}
use Rattle.rdata_values.specs.Rtype as Rtype
use Rattle.zone_record.specs.declared.record.Record.{Record}
use Rattle.zone_rules.specs.Rules.{is_alias_mode}
use Rattle.zone_rules.specs.Zones.{type_of}
use Rattle.zone_rules.specs.declared.beside.Relation.{Relation}
use Rattle.zone_rules.specs.declared.beside.Relation.TheVariants.{Alias, SameType, Service}

-- records have one class and type
abbrev pub is_like : {N O M P : Type 0} → Record M P → Record N O → Bool
is_like one r = r.class == one.class && type_of r == type_of one

abbrev pub is_like_at : {N O M P : Type 0} → Record M P → List (Record N O) → ℕ → Bool
is_like_at one records place = option_map_or (is_like one) (slice_get records place) false

-- the record at an index is an SOA
abbrev pub is_soa_in : {N O : Type 0} → List (Record N O) → ℕ → Bool
is_soa_in records place = option_map_or (λ r. type_of r == Rtype.soa) (slice_get records place) false

-- the last record before an index is of the class and the type of the one at another index
pub record EndsSet {N O : Type 0} (records : List (Record N O)) (from past next : ℕ) : Type 0 where
  pub low : from < next
  pub high : next ≤ past
  pub alike : (r : Record N O) → slice_get records from ≡ Some r → is_like_at r records (next - 1) ≡ true

-- the records from one index up to another have the owner of a record, and the last has the class and the type of the first
pub record IsOwnSet {N O M P : Type 0} (one : Record M P) (records : List (Record N O)) (from next : ℕ) : Type 0 where
  pub low : from < next
  pub high : next ≤ length records
  pub owned : AllWithin (λ r. same_name r.owner one.owner ≡ true) records from next
  pub alike : (r : Record N O) → slice_get records from ≡ Some r → is_like_at r records (next - 1) ≡ true

-- if the first and the last record of an RRset lack the relation to a record, all lack it
abbrev pub IsDecidedAtEnds : {M P : Type 0} → Relation → Record M P → Type 0
IsDecidedAtEnds Alias one = ⊤
IsDecidedAtEnds SameType one = ⊤
IsDecidedAtEnds Service one = is_alias_mode one ≡ true
IsDecidedAtEnds _ one = ⊥
