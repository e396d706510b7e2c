-- The operations of a dynamic update, and which ones change one zone into another (RFC 2136).
use Rattle.std.specs.Prelude.{ℕ, Bool, not, ◌&&◌, ◌||◌, ◌==◌, List, [], ◌∷◌, filter, map}
use Rattle.std.specs.List.{list_any}
use Rattle.dns_octets.specs.Lowered.{same_lowered}
use Rattle.dns_wire.specs.Wire.{wire}
use Rattle.rdata_values.specs.Rtype as Rtype
use Rattle.rdata_values.specs.declared.types.RecordType.{RecordType}
use Rattle.zone_record.specs.Records.{data_of}
use Rattle.zone_record.specs.declared.record.Record.{Record}
use Rattle.zone_contents.specs.Differences.{changed_record}
use Rattle.zone_contents.specs.declared.changes.Change.{Change}
use Rattle.zone_contents.specs.declared.changes.Change.TheVariants.{Removed, Added, NewTtl}
use Rattle.zone_update.specs.declared.operation.Operation.{Operation}
use Rattle.zone_update.specs.declared.operation.Operation.TheVariants.{Delete, Add}

abbrev pub operated : {N O : Type 0} → Operation N O → Record N O
operated (Delete r) = r.now
operated (Add r) = r.now

-- a name is the owner of a record, ignoring letter case
abbrev pub is_at : {N O : Type 0} → List (List ℕ) → Record N O → Bool
is_at name r = same_lowered (wire name) (wire r.owner)

-- the name server records of a zone
abbrev pub is_apex_ns : {N O : Type 0} → List (List ℕ) → Record N O → Bool
is_apex_ns apex r = ((data_of r).rtype == Rtype.ns) && is_at apex r

-- ---- which changes an update makes

-- the records that a server makes as it signs a zone
abbrev pub signing_types : List RecordType
signing_types = Rtype.rrsig ∷ Rtype.nsec ∷ Rtype.nsec3 ∷ []

-- the keys of a zone, and what a server derives from them
abbrev pub key_types : List RecordType
key_types = Rtype.dnskey ∷ Rtype.cds ∷ Rtype.cdnskey ∷ Rtype.nsec3param ∷ []

abbrev pub is_one_of : List RecordType → RecordType → Bool
is_one_of types rtype = list_any (λ t. t == rtype) types

-- neither an SOA nor a record of signing, and a key only if keys are wanted
abbrev pub is_sent : Bool → RecordType → Bool
is_sent with_keys rtype = not (rtype == Rtype.soa) && not (is_one_of signing_types rtype) && (with_keys || not (is_one_of key_types rtype))

abbrev pub is_change_sent : {N O : Type 0} → Bool → Change N O → Bool
is_change_sent with_keys c = is_sent with_keys (data_of (changed_record c)).rtype

-- ---- the operations of changes

-- a removed record is deleted, and an added one is added; one with a new TTL is added with it, and replaces the one before (RFC 2136 section 3.4.2.2)
abbrev pub operation_of : {N O : Type 0} → Change N O → Operation N O
operation_of (Removed r) = Delete r
operation_of (Added r) = Add r
operation_of (NewTtl old new) = Add new

-- the operations of the changes that an update makes, in their order
abbrev pub operations_of : {N O : Type 0} → Bool → List (Change N O) → List (Operation N O)
operations_of with_keys changes = map operation_of (filter (is_change_sent with_keys) changes)
