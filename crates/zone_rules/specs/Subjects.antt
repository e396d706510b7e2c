-- A record at an index, with what rules ask of it: words for private functions.
use Rattle.std.specs.Prelude.{◌≡◌, ◌<◌, ◌≤◌, ◌-◌, ℕ, ◌==◌, ◌&&◌, not, if◌then◌else◌, Bool, true, false, Option, Some, None, List, option_and_then, slice_get}
use Rattle.std.specs.Option.{option_map, option_map_or}
use Rattle.dns_wire.specs.Order.{same_name}
use Rattle.finding_codes.specs.declared.rule.Rule.{Rule}
use Rattle.rdata_values.specs.Classes.{internet}
use Rattle.rdata_values.specs.Rtype as Rtype
use Rattle.rdata_values.specs.declared.types.RecordType.{RecordType}
use Rattle.zone_record.specs.declared.record.Record.{Record}
use Rattle.zone_rules.specs.Above.{is_below, is_within, parent_of}
use Rattle.zone_rules.specs.Findings.{breaks_at}
use Rattle.zone_rules.specs.Present.{is_present}
use Rattle.zone_rules.specs.Rules.{alias_at, breaks, is_beside_alias, is_digest_beside, is_ds_beside, is_key_of_algorithm, is_of_sha1, is_record_at_apex, is_request_beside, is_service_beside, is_other_of_type, is_soa_of_other_serial, leads_to, is_spf_beside, lacks_glue, lacks_ns_address, names_alias, names_missing, names_renamed, service_at}
use Rattle.zone_rules.specs.Zones.{as_listed, has_type_at, record_before, type_of}
use Rattle.zone_rules.specs.declared.beside.Relation.{Relation}
use Rattle.zone_rules.specs.declared.beside.Relation.TheVariants.{Alias, Spf, Digest, Sha1, SameType, OtherSerial, Service, KeyRequest, KeyOfAlgorithm}
use Rattle.zone_rules.specs.declared.refused.RrsetName.{RrsetName}
use Rattle.zone_rules.specs.declared.subject.HostFaults.{HostFaults}
use Rattle.zone_rules.specs.declared.subject.Subject.{Subject}

-- an NS at the apex, of class IN
abbrev pub is_apex_server : {N O : Type 0} → List (List ℕ) → Record N O → Bool
is_apex_server origin r = is_record_at_apex Rtype.ns origin r && r.class == internet

-- an NS below the apex, of class IN, with a name at or below its owner
abbrev pub is_server_above : {N O : Type 0} → List (List ℕ) → Record N O → List (List ℕ) → Bool
is_server_above origin r name = type_of r == Rtype.ns && (is_below r.owner origin && (r.class == internet && is_within name r.owner))

-- of class IN, but not an NS at the apex
abbrev pub wants_host : {N O : Type 0} → List (List ℕ) → Record N O → Bool
wants_host origin r = not (is_record_at_apex Rtype.ns origin r) && r.class == internet

-- a name has a type of those that matter for a host
abbrev pub has_a_in : {N O : Type 0} → List (List ℕ) → List (Record N O) → List RrsetName → Bool
has_a_in name records refused = is_present Rtype.a name records refused

abbrev pub has_aaaa_in : {N O : Type 0} → List (List ℕ) → List (Record N O) → List RrsetName → Bool
has_aaaa_in name records refused = is_present Rtype.aaaa name records refused

abbrev pub has_cname_in : {N O : Type 0} → List (List ℕ) → List (Record N O) → List RrsetName → Bool
has_cname_in name records refused = is_present Rtype.cname name records refused

-- the parent of a name is below the apex
abbrev pub is_parent_below : List (List ℕ) → List (List ℕ) → Bool
is_parent_below origin name = option_map_or (λ above. is_below above origin) (parent_of name) false

-- the record at an index has a type
abbrev pub is_of_type_in : {N O : Type 0} → RecordType → List (Record N O) → ℕ → Bool
is_of_type_in rtype records place = option_map_or (λ r. type_of r == rtype) (slice_get records place) false

-- it is a CNAME
abbrev pub is_alias_in : {N O : Type 0} → List (Record N O) → ℕ → Bool
is_alias_in records place = is_of_type_in Rtype.cname records place

-- a record is the one at an index
abbrev pub IsRecordAt : {N O M P : Type 0} → List (Record N O) → ℕ → Record M P → Type 0
IsRecordAt records place r = Some r ≡ option_map as_listed (slice_get records place)

-- the owner of the record at an index has a record of a type
abbrev pub OwnerHasType : {N O : Type 0} → List (Record N O) → ℕ → ℕ → Type 0
OwnerHasType {N} {O} records place rtype = (r : Record N O) → slice_get records place ≡ Some r → has_type_at rtype r.owner records ≡ true

-- the index, if there is one, of the first CNAME at a name
abbrev pub IsFirstAlias : {N O : Type 0} → List (List ℕ) → List (Record N O) → Option ℕ → Type 0
IsFirstAlias name records place = option_and_then (slice_get records) place ≡ alias_at name records

-- the index is that of the first service of a type at a name, if there is one
abbrev pub IsFirstService : {N O : Type 0} → RecordType → List (List ℕ) → List (Record N O) → Option ℕ → Type 0
IsFirstService rtype name records place = option_and_then (slice_get records) place ≡ service_at rtype name records

-- whether CNAMEs lead to a name from any whose first CNAME is at an index, if there is one
abbrev pub IsLedFrom : {N O : Type 0} → ℕ → List (Record N O) → List (List ℕ) → Option ℕ → Bool → Type 0
IsLedFrom count records goal place led = (name : List (List ℕ)) → IsFirstAlias name records place → led ≡ leads_to count records goal name

-- another record is a DS of the RRset and the key of a DS, with SHA-1
abbrev pub is_sha1_beside : {N O M P : Type 0} → Record N O → Record M P → Bool
is_sha1_beside r other = is_ds_beside r other && is_of_sha1 other

-- a relation of a record to another one
abbrev pub relates : {N O M P : Type 0} → Relation → Record M P → Record N O → Bool
relates Alias r other = is_beside_alias r other
relates Spf r other = is_spf_beside r other
relates Digest r other = is_digest_beside r other
relates Sha1 r other = is_sha1_beside r other
relates SameType r other = is_other_of_type r other
relates OtherSerial r other = is_soa_of_other_serial r other
relates Service r other = is_service_beside r other
relates KeyRequest r other = is_request_beside r other
relates KeyOfAlgorithm r other = is_key_of_algorithm r other

-- the record at an index is the other one
abbrev pub relates_at : {N O M P : Type 0} → Relation → Record M P → List (Record N O) → ℕ → Bool
relates_at relation r records place = option_map_or (relates relation r) (slice_get records place) false

-- of the DS with SHA-1 of a record's RRset and key, the index of the first from an index on, and the index after the last up to another
pub record BeginsSha1 {N O M P : Type 0} (r : Record M P) (records : List (Record N O)) (first place from : ℕ) : Type 0 where
  pub low : first ≤ from
  pub high : from ≤ place
  pub is : relates_at Sha1 r records from ≡ true
  pub before : first < from → relates_at Sha1 r records (from - 1) ≡ false

pub record EndsSha1 {N O M P : Type 0} (r : Record M P) (records : List (Record N O)) (place past next : ℕ) : Type 0 where
  pub low : place < next
  pub high : next ≤ past
  pub last : relates_at Sha1 r records (next - 1) ≡ true
  pub after : next < past → relates_at Sha1 r records next ≡ false

-- the rules that the host in a record's data breaks
pub record AreHostFaults {N O M P : Type 0} (origin : List (List ℕ)) (records : List (Record N O)) (refused : List RrsetName) (r : Record M P) (faults : HostFaults) : Type 0 where
  pub address : faults.lacks_address ≡ lacks_ns_address origin records refused r
  pub glue : faults.lacks_glue ≡ lacks_glue origin records refused r
  pub alias : faults.is_alias ≡ names_alias origin records refused r
  pub renamed : faults.is_renamed ≡ names_renamed origin records refused r
  pub missing : faults.is_missing ≡ names_missing origin records refused r

-- a record before another one, if it has the same owner and type
abbrev pub alike : {N O M P : Type 0} → Record M P → Record N O → Option (Record N O)
alike r b = if type_of b == type_of r && same_name b.owner r.owner then Some b else None

-- the record before an index, if it has the owner and the type of the record there
abbrev pub alike_before : {N O : Type 0} → List (Record N O) → ℕ → Option (Record N O)
alike_before records place = option_and_then (λ r. option_and_then (alike r) (record_before records place)) (slice_get records place)

-- the record at an index, the one before it of the same owner and type, and the rules that its host breaks
pub record IsSubject {N O : Type 0} (origin : List (List ℕ)) (records : List (Record N O)) (refused : List RrsetName) (s : Subject) : Type 0 where
  pub found : Some s.found ≡ option_map as_listed (slice_get records s.place)
  pub before : s.before ≡ option_map as_listed (alike_before records s.place)
  pub faults : AreHostFaults origin records refused s.found s.faults

-- the record of a subject breaks a rule
abbrev pub breaks_by : {N O : Type 0} → Rule → List (List ℕ) → List (Record N O) → List RrsetName → Subject → Bool
breaks_by rule origin records refused s = breaks rule origin records refused s.before s.found

-- the record at the index of a subject breaks a rule
abbrev pub is_broken : {N O : Type 0} → Rule → List (List ℕ) → List (Record N O) → List RrsetName → Subject → Bool
is_broken rule origin records refused s = breaks_at origin records refused s.place rule
