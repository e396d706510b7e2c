-- Records that delegations hide: servers of the zone answer with a referral instead (RFC 1034 section 4.3.2), so no resolver gets them.
use Rattle.std.specs.Prelude.{ℕ, ◌==◌, ◌&&◌, ◌||◌, not, if◌then◌else◌, Bool, false, Option, Some, None, List, [], ◌∷◌, ◌≡◌, length, slice_get, option_and_then, Vec}
use Rattle.std.specs.List.{flat_map, list_any, range_with_len}
use Rattle.std.specs.Option.{option_map_or}
use Rattle.dns_wire.specs.Order.{same_name}
use Rattle.rdata_values.specs.Rtype as Rtype
use Rattle.rdata_values.specs.declared.types.RecordType.{RecordType}
use Rattle.zone_record.specs.Records.{data_of}
use Rattle.zone_record.specs.TypeData.{TypeData}
use Rattle.zone_record.specs.declared.record.Record.{Record}
use Rattle.zone_rules.specs.Above.{is_below}
use Rattle.zone_rules.specs.Rules.{is_below_zone_cut, is_zone_cut}
use Rattle.zone_rules.specs.Zones.{host_in, type_of}
use Rattle.zone_rules.specs.declared.refused.RrsetName.{RrsetName}

-- ---- delegations

-- the record is an NS below the apex
abbrev pub is_delegating : {N O : Type 0} → List (List ℕ) → Record N O → Bool
is_delegating origin r = type_of r == Rtype.ns && is_below r.owner origin

-- the owner of an NS below the apex
abbrev pub delegation_of : {N O : Type 0} → List (List ℕ) → Record N O → Option (List (List ℕ))
delegation_of origin r = if is_delegating origin r then Some r.owner else None

-- the types that a zone has at its delegations: NS, and DS, NSEC and RRSIG if it is signed (RFC 4035 section 2)
abbrev pub is_parent_type : RecordType → Bool
is_parent_type rtype = rtype == Rtype.ns || (rtype == Rtype.ds || (rtype == Rtype.nsec || rtype == Rtype.rrsig))

-- the record is below a delegation, or at one and of another type
abbrev pub is_of_child_zone : {N O M P : Type 0} → List (List ℕ) → List (Record N O) → Record M P → Bool
is_of_child_zone origin records r = is_below_zone_cut origin records r.owner || (is_zone_cut origin records r.owner && not (is_parent_type (type_of r)))

-- ---- glue

-- A and AAAA
abbrev pub is_glue_type : RecordType → Bool
is_glue_type rtype = rtype == Rtype.a || rtype == Rtype.aaaa

-- the host of an NS, if it is below the apex
abbrev pub server_in : List (List ℕ) → TypeData → Option (List (List ℕ))
server_in origin d = if d.rtype == Rtype.ns then option_and_then (λ host. if is_below host origin then Some host else None) (host_in d) else None

abbrev pub server_of : {N O : Type 0} → List (List ℕ) → Record N O → Option (List (List ℕ))
server_of origin r = server_in origin (data_of r)

-- one of the names is this one
abbrev pub is_name_among : {N O : Type 0} → (Record N O → Option (List (List ℕ))) → List (Record N O) → List (List ℕ) → Bool
is_name_among names records name = list_any (λ r. option_map_or (λ other. same_name name other) (names r) false) records

-- a name is the host of an NS, or may be: the host of a rejected one is unknown
abbrev pub is_server_name : {N O : Type 0} → List (List ℕ) → List (Record N O) → List RrsetName → List (List ℕ) → Bool
is_server_name origin records refused name = list_any (λ s. s.rtype == Rtype.ns) refused || is_name_among (server_of origin) records name

-- the record is an address of a name server
abbrev pub is_glue_record : {N O M P : Type 0} → List (List ℕ) → List (Record N O) → List RrsetName → Record M P → Bool
is_glue_record origin records refused r = is_glue_type (type_of r) && is_server_name origin records refused r.owner

-- ---- hidden records

-- a delegation hides the record
abbrev pub is_hidden_record : {N O M P : Type 0} → List (List ℕ) → List (Record N O) → List RrsetName → Record M P → Bool
is_hidden_record origin records refused r = is_of_child_zone origin records r && not (is_glue_record origin records refused r)

-- a delegation hides the record at an index
abbrev pub is_hidden_at : {N O : Type 0} → List (List ℕ) → List (Record N O) → List RrsetName → ℕ → Bool
is_hidden_at origin records refused place = option_map_or (is_hidden_record origin records refused) (slice_get records place) false

abbrev pub hidden_if : Bool → ℕ → List ℕ
hidden_if is_hidden place = if is_hidden then place ∷ [] else []

-- the indexes of the hidden records, in order
abbrev pub hidden_places : {N O : Type 0} → List (List ℕ) → List (Record N O) → List RrsetName → List ℕ
hidden_places origin records refused = flat_map (λ place. hidden_if (is_hidden_at origin records refused place) place) (range_with_len 0 (length records))

-- a vector has exactly these indexes
abbrev pub HasHidden : {N O A : Type 0} → List (List ℕ) → List (Record N O) → List RrsetName → Vec ℕ A → Type 0
HasHidden origin records refused found = found.items ≡ hidden_places origin records refused
