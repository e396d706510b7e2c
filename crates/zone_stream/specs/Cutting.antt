-- The records with which parts begin.
use Rattle.std.specs.Prelude.{⊤, ◌≡◌, ◌==◌, ℕ, Bool, true, false, not, IsTrue, List, Option, Some, None}
use Rattle.std.specs.List.{find}
use Rattle.rdata_fields.specs.declared.record_ref.RecordRef.{RecordRef}
use Rattle.rdata_values.specs.Rtype as Rtype
use Rattle.zone_reader.specs.declared.known.NameState.{NameState}
use Rattle.zone_reader.specs.declared.known.NameState.TheVariants.{Name}
use Rattle.zone_reader.specs.declared.state.State.{State}
use Rattle.dns_wire.specs.Order.{same_name}
use Rattle.zone_record.specs.Borrowed.{IsNoRecord, IsRecordOf}
use Rattle.zone_record.specs.declared.record.Record.{Record}
use Rattle.zone_stream.specs.Heads.{HasHeadError}
use Rattle.zone_stream.specs.Shares.{BeginsShare, MayBegin}
use Rattle.zone_stream.specs.declared.cut_error.CutError.{CutError}
use Rattle.zone_stream.specs.declared.cut_error.CutError.TheVariants.{OutOfMemory, LongTtl, NoRecord}
use Rattle.zone_stream.specs.declared.cutter.Cutter.{Cutter}

-- a record has another owner than the one before; letter case doesn't count
abbrev pub owner_changes : NameState → NameState → Bool
owner_changes (Name before) (Name owner) = not (same_name before owner)
owner_changes _ _ = true

abbrev pub BeginsHere : {A : Type 0} → Cutter A → State → ℕ → Type 0
BeginsHere c state at = MayBegin c.shares at × IsTrue (owner_changes c.owner state.owner)

-- after a record, its owner is the last one; and if a part begins with it, the record's share has begun one
abbrev pub PassesRecord : {A : Type 0} → Cutter A → State → ℕ → Bool → Cutter A → Type 0
PassesRecord old state at true new = (new.owner ≡ state.owner) × BeginsShare old.shares at new.shares
PassesRecord old state at false new = (new.owner ≡ state.owner) × (new.shares ≡ old.shares)

-- ---- the SOA that parts repeat

abbrev pub is_soa : RecordRef → Bool
is_soa r = r.rtype == Rtype.soa

-- after these records: on request the first SOA among them, and otherwise none
abbrev pub soa_to_repeat : Bool → List RecordRef → Option RecordRef
soa_to_repeat true records = find is_soa records
soa_to_repeat false records = None

-- a record with these octets is stored, if there are any
abbrev pub StoresRecord : {N O : Type 0} → Option RecordRef → Option (Record N O) → Type 0
StoresRecord None None = ⊤
StoresRecord (Some octets) (Some r) = IsRecordOf octets r
StoresRecord None (Some r) = ⊥
StoresRecord (Some octets) None = ⊥

-- a cutter after these records
abbrev pub HasProcessed : {A : Type 0} → List RecordRef → Cutter A → Type 0
HasProcessed records c = StoresRecord (soa_to_repeat c.repeats_soa records) c.soa

-- the record is the first SOA, and is to be repeated
abbrev pub MustStore : {A : Type 0} → Cutter A → RecordRef → Type 0
MustStore c read = (c.repeats_soa ≡ true) × (is_soa read ≡ true) × (c.soa ≡ None)

-- a part begins with the record, or else the record must be stored
abbrev pub NeedsRecord : {A : Type 0} → Cutter A → State → RecordRef → ℕ → Type 0
NeedsRecord c state read at = (BeginsHere c state at → ⊥) → MustStore c read

-- ---- errors

-- why a record is not stored
abbrev pub IsStoreError : RecordRef → CutError → Type 0
IsStoreError read NoRecord = IsNoRecord read
IsStoreError read OutOfMemory = ⊤
IsStoreError read LongTtl = ⊥

-- why a record is not processed: it has no owner that is a name, or other RDATA; or a part would begin with it, and a TTL in the head is too long; or memory was out
abbrev pub IsCutError : {A : Type 0} → Cutter A → State → RecordRef → ℕ → CutError → Type 0
IsCutError c state read at NoRecord = IsNoRecord read
IsCutError c state read at LongTtl = BeginsHere c state at × HasHeadError state c.soa read LongTtl
IsCutError c state read at OutOfMemory = BeginsHere c state at → HasHeadError state c.soa read OutOfMemory
