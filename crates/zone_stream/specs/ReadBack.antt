-- Records that are printed and read.
use Rattle.std.specs.Prelude.{◌≡◌, ◌≤◌, ◌<◌, ◌+◌, ◌^◌, ◌++◌, ℕ, false, List, length, Result, Ok}
use Rattle.dns_octets.specs.Room.{Room}
use Rattle.rdata_tokens.specs.NameSpelling.{IsOrigin}
use Rattle.dns_lexer.specs.EntryTokens.{TokenSeen}
use Rattle.rdata_fields.specs.Source.{next_place}
use Rattle.rdata_fields.specs.declared.record_error.RecordError.{RecordError}
use Rattle.rdata.specs.Rests.{ArePrinted}
use Rattle.zone_record.specs.Records.{data_of, record_tokens}
use Rattle.zone_record.specs.declared.record.Record.{Record}
use Rattle.zone_reader.specs.EntryReading.{ReadsZoneEntry}
use Rattle.zone_reader.specs.Past.{known_name}
use Rattle.zone_reader.specs.declared.entry.ParsedEntry.{ParsedEntry}
use Rattle.zone_reader.specs.declared.entry.ParsedEntry.TheVariants.{Record as IsRecord}
use Rattle.zone_reader.specs.declared.known.NameState.TheVariants.{Name}
use Rattle.zone_reader.specs.declared.state.State.{State}
use Rattle.zone_reader.specs.declared.ttl.RecordTtl.TheVariants.{Explicit}

-- from every state, the tokens of a printed record are read as that record: with its owner, its own TTL, its class, its type and its data
abbrev pub IsPrintedRecordRead : {N O : Type 0} → Record N O → Type 0
IsPrintedRecordRead r = (room : Room) (end : ℕ) (tokens : List TokenSeen) (before after : State) (old new : List ℕ) (result : Result ParsedEntry RecordError) → r.ttl < 2 ^ 31 → ArePrinted (record_tokens r) tokens
    → IsOrigin (known_name before.origin) → length old + length (data_of r).octets ≤ room.fits → ReadsZoneEntry room false end tokens before old result after new
    → (data_at : ℕ) × (result ≡ Ok (IsRecord (next_place tokens end) data_at end (Explicit r.ttl) r.class (data_of r).rtype)) × (after.owner ≡ Name r.owner) × (new ≡ old ++ (data_of r).octets)
