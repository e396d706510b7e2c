-- A rejected entry and a syntax error of the text differ in the kind of the error.
use Rattle.std.specs.Prelude.{◌≡◌, ℕ, Bool, List, Some, Err}
use Rattle.dns_octets.specs.Room.{Room}
use Rattle.dns_lexer.specs.EntryTokens.{TokenSeen}
use Rattle.dns_lexer.specs.declared.pieces.Wrong.{Wrong}
use Rattle.rdata_values.specs.declared.error.ErrorKind.TheVariants.{Syntax}
use Rattle.rdata_fields.specs.RecordErrors.{error_of_fault}
use Rattle.rdata_fields.specs.declared.record_error.RecordError.{RecordError}
use Rattle.zone_reader.specs.EntryReading.{ReadsZoneEntry}
use Rattle.zone_reader.specs.Records.{ReadsNextEntry}
use Rattle.zone_reader.specs.Source.{StartsAfterLine}
use Rattle.zone_reader.specs.declared.records.RecordReader.{RecordReader}
use Rattle.zone_reader.specs.declared.state.State.{State}

-- no entry is rejected with the kind `Syntax`
abbrev pub EntriesHaveNoFaults : Type 0
EntriesHaveNoFaults = (room : Room) (blank : Bool) (end : ℕ) (tokens : List TokenSeen) (before after : State) (old new : List ℕ) (e : RecordError) (wrong : Wrong) → ReadsZoneEntry room blank end tokens before old (Err e) after new
    → e.kind ≡ Syntax wrong → ⊥

-- so an error of the kind `Syntax` is of a syntax error that cuts an entry off, and reading continues after its line
abbrev pub FaultsAreReported : Type 0
FaultsAreReported = (room : Room) (before after : RecordReader) (old new : List ℕ) (e : RecordError) (wrong : Wrong) → ReadsNextEntry room before old (Some (Err e)) after new → e.kind ≡ Syntax wrong
    → (e ≡ error_of_fault (record { at = e.offset; wrong = wrong })) × StartsAfterLine before.octets.now e.offset after.source
