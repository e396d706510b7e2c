-- What is known of the owners of a zone: words for private functions.
use Rattle.std.specs.Prelude.{ℕ, ◌≡◌, ◌<◌, ◌≤◌, ◌&&◌, ◌||◌, not, Bool, true, false, Option, Some, List, length, slice_get, slice_index_or, take}
use Rattle.std.specs.Option.{option_map, option_map_or}
use Rattle.dns_wire.specs.Order.{same_name}
use Rattle.rdata_values.specs.declared.types.RecordType.{RecordType}
use Rattle.zone_record.specs.declared.record.Record.{Record}
use Rattle.zone_rules.specs.Rules.{is_below_zone_cut}
use Rattle.zone_rules.specs.Zones.{type_of}
use Rattle.zone_delegations.specs.declared.marks.RecordMarks.{RecordMarks}
use Rattle.zone_delegations.specs.Hidden.{delegation_of, is_delegating, is_glue_type, is_name_among, is_parent_type, server_of}

-- the owner of the record at an index, and its type
abbrev pub owner_at : {N O : Type 0} → List (Record N O) → ℕ → Option (List (List ℕ))
owner_at records place = option_map (λ r. r.owner) (slice_get records place)

abbrev pub type_at : {N O : Type 0} → List (Record N O) → ℕ → RecordType
type_at records place = option_map_or type_of (slice_get records place) 0

-- the record at an index is an NS below the apex
abbrev pub is_delegating_at : {N O : Type 0} → List (List ℕ) → List (Record N O) → ℕ → Bool
is_delegating_at origin records place = option_map_or (is_delegating origin) (slice_get records place) false

-- whether the owner of the record at an index is below a delegation
abbrev pub IsBelowAt : {N O : Type 0} → List (List ℕ) → List (Record N O) → ℕ → Bool → Type 0
IsBelowAt origin records place is_below = is_below ≡ option_map_or (is_below_zone_cut origin records) (owner_at records place) false

-- a record of a type is of the delegated zone, if its owner is below a delegation, or is one
abbrev pub is_of_child : RecordType → Bool → Bool → Bool
is_of_child rtype is_below is_cut = is_below || (is_cut && not (is_parent_type rtype))

-- a record of a type is glue, if its owner may be the host of an NS, or is
abbrev pub is_glue : RecordType → Bool → Bool → Bool
is_glue rtype may_be_server is_server = is_glue_type rtype && (may_be_server || is_server)

abbrev pub hides : RecordType → Bool → Bool → Bool → Bool → Bool
hides rtype is_below is_cut may_be_server is_server = is_of_child rtype is_below is_cut && not (is_glue rtype may_be_server is_server)

-- for each record, whether its owner is one of the names of some records
pub record AreMarks {N O : Type 0} (names : Record N O → Option (List (List ℕ))) (some records : List (Record N O)) (marks : List Bool) : Type 0 where
  pub count : length marks ≡ length records
  pub marked : (i : ℕ) → i < length records → slice_index_or marks i false ≡ option_map_or (is_name_among names some) (owner_at records i) false

-- whether the owner is a delegation, by as many of the records as have been looked at, and by all
abbrev pub AreCutMarks : {N O : Type 0} → List (List ℕ) → List (Record N O) → ℕ → List Bool → Type 0
AreCutMarks origin records count marks = AreMarks (delegation_of origin) (take count records) records marks

abbrev pub AreAllCutMarks : {N O : Type 0} → List (List ℕ) → List (Record N O) → List Bool → Type 0
AreAllCutMarks origin records marks = AreMarks (delegation_of origin) records records marks

-- whether it is the host of an NS and below the apex
abbrev pub AreServerMarks : {N O : Type 0} → List (List ℕ) → List (Record N O) → ℕ → List Bool → Type 0
AreServerMarks origin records count marks = AreMarks (server_of origin) (take count records) records marks

abbrev pub AreAllServerMarks : {N O : Type 0} → List (List ℕ) → List (Record N O) → List Bool → Type 0
AreAllServerMarks origin records marks = AreMarks (server_of origin) records records marks

-- marks of all records: whether the owner is a delegation, and whether it is the host of an NS and below the apex
pub record HasRecordMarks {N O A : Type 0} (origin : List (List ℕ)) (records : List (Record N O)) (marks : RecordMarks A) : Type 0 where
  pub cuts : AreAllCutMarks origin records marks.cuts.items
  pub servers : AreAllServerMarks origin records marks.servers.items

-- records with one owner have one mark
pub record AreOwnerMarks {N O : Type 0} (records : List (Record N O)) (marks : List Bool) : Type 0 where
  pub count : length marks ≡ length records
  pub one : (i j : ℕ) (a b : List (List ℕ)) → i < length records → j < length records → owner_at records i ≡ Some a → owner_at records j ≡ Some b → same_name a b ≡ true
      → slice_index_or marks i false ≡ slice_index_or marks j false

-- the records that have a name as their owner are marked, and all others have the marks that they had
pub record AreMarkedBy {N O : Type 0} (name : List (List ℕ)) (records : List (Record N O)) (before marks : List Bool) : Type 0 where
  pub count : length marks ≡ length before
  pub marked : (i : ℕ) → i < length records → slice_index_or marks i false ≡ (slice_index_or before i false || option_map_or (λ owner. same_name owner name) (owner_at records i) false)

-- the marks from one index up to another are set, and all others are those that were
pub record AreMarkedFrom (before marks : List Bool) (first past : ℕ) : Type 0 where
  pub count : length marks ≡ length before
  pub earlier : (i : ℕ) → i < first → slice_index_or marks i false ≡ slice_index_or before i false
  pub within : (i : ℕ) → first ≤ i → i < past → slice_index_or marks i false ≡ true
  pub later : (i : ℕ) → past ≤ i → slice_index_or marks i false ≡ slice_index_or before i false
