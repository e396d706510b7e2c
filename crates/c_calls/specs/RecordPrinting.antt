-- The result of printing a record.
use Rattle.std.specs.Prelude.{◌≡◌, ◌≢◌, ◌⊎◌, ◌<◌, ◌≤◌, ◌^◌, ℕ, List, length, take, Some, Result, Ok, Err}
use Rattle.dns_wire.specs.FromOctets.{MakesName}
use Rattle.dns_wire.specs.declared.error.NameError.{NameError}
use Rattle.zone_reader.specs.declared.known.NameState.TheVariants.{Unset, Name, Rejected}
use Rattle.zone_record.specs.Records.{record_document}
use Rattle.zone_record.specs.TypeData.{IsTypeData}
use Rattle.zone_record.specs.WireErrors.{RefusesWire}
use Rattle.zone_record.specs.declared.error.WireError.{WireError}
use Rattle.zone_record.specs.declared.record.Record.{Record as Printed}
use Rattle.c_calls.specs.DataText.{ReportsText, fault_of_wire, line_text}
use Rattle.c_calls.specs.Kept.{HoldsName}
use Rattle.c_calls.specs.Reasons.{refusal_of_name}
use Rattle.c_calls.specs.Reports.{ReportsFault, at_start}
use Rattle.c_calls.specs.declared.kept.KeptName.{KeptName}
use Rattle.c_calls.specs.declared.outcome.Outcome.{Outcome}
use Rattle.c_calls.specs.declared.outcome.Refusal.{Refusal}
use Rattle.c_calls.specs.declared.outcome.Refusal.TheVariants.{BadTtl, NoOwner, RefusedOwner, TooLong}
use Rattle.c_calls.specs.declared.records.Record.{Record}

-- why the octets of a name that is neither rejected nor absent are not one
abbrev pub WhyNoWire : KeptName → Refusal → Type 0
WhyNoWire kept r = ((length kept.octets < kept.length) × (r ≡ TooLong)) ⊎ ((e : NameError) × MakesName (take kept.length kept.octets) (Err e) × (r ≡ refusal_of_name e))

-- the labels of a record's owner; or why it has none
abbrev pub OwnerOf : KeptName → Result (List (List ℕ)) Refusal → Type 0
OwnerOf kept (Ok labels) = HoldsName kept (Some (Name labels))
OwnerOf kept (Err r) = (HoldsName kept (Some Rejected) × (r ≡ RefusedOwner)) ⊎ (HoldsName kept (Some Unset) × (r ≡ NoOwner)) ⊎ ((kept.is_refused ≡ 0) × (kept.length ≢ 0) × WhyNoWire kept r)

-- the record with these labels as its owner
abbrev pub record_named : List (List ℕ) → Record → List ℕ → Printed (Unit {0}) (Unit {0})
record_named labels found octets = record { owner = labels; ttl = found.ttl; class = found.class_code; «data» = record { rtype = found.type_code; octets = octets } }

-- octets are data of the type, and the text of the record is returned; or the reason why they are not is reported, and nothing was written
abbrev pub PrintsNamed : List (List ℕ) → Record → List ℕ → List ℕ → ℕ → List ℕ → Outcome → Type 0
PrintsNamed labels found octets old status new outcome =
    (IsTypeData found.type_code octets × ReportsText (line_text (record_document (record_named labels found octets))) old status new outcome)
    ⊎ ((e : WireError) × RefusesWire found.type_code octets e × ReportsFault (fault_of_wire e) status outcome × (new ≡ old))

-- and the TTL is below 2^31 (RFC 2181 section 8)
pub record PrintsTimed (labels : List (List ℕ)) (found : Record) (octets old : List ℕ) (status : ℕ) (new : List ℕ) (outcome : Outcome) : Type 0 where
  pub long : 2 ^ 31 ≤ found.ttl → ReportsFault (at_start BadTtl) status outcome × (new ≡ old)
  pub short : found.ttl < 2 ^ 31 → PrintsNamed labels found octets old status new outcome

-- a record with an owner is printed; or the error of the owner is reported, and nothing was written
abbrev pub PrintsOwned : Result (List (List ℕ)) Refusal → Record → List ℕ → List ℕ → ℕ → List ℕ → Outcome → Type 0
PrintsOwned (Ok labels) found octets old status new outcome = PrintsTimed labels found octets old status new outcome
PrintsOwned (Err r) found octets old status new outcome = ReportsFault (at_start r) status outcome × (new ≡ old)

abbrev pub PrintsRecord : Record → List ℕ → List ℕ → ℕ → List ℕ → Outcome → Type 0
PrintsRecord found octets old status new outcome = (owner : Result (List (List ℕ)) Refusal) × OwnerOf found.name owner × PrintsOwned owner found octets old status new outcome
