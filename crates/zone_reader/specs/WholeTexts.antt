-- How a whole text is read: each entry by its own tokens, and by the state that those before it leave.
use Rattle.std.specs.Prelude.{◌≡◌, ℕ, List, [], ◌∷◌, ◌++◌, map, None, Result, Some, Ok, ◌<◌, ◌+◌, ◌-◌, length}
use Rattle.std.specs.List.{filter, flat_map}
use Rattle.dns_octets.specs.Room.{Room}
use Rattle.dns_lexer.specs.declared.pieces.Fault.{Fault}
use Rattle.dns_lexer.specs.EntryTokens.{PartSeen}
use Rattle.dns_lexer.specs.Pieces.{AreOctets}
use Rattle.dns_lexer.specs.Splitting.{Entries, Splits}
use Rattle.rdata_fields.specs.declared.record_error.RecordError.{RecordError}
use Rattle.zone_reader.specs.Directives.{first_directive}
use Rattle.zone_reader.specs.EntryReading.{ReadsZoneEntry, declared_by_entry}
use Rattle.zone_reader.specs.Past.{StateAfter, Declared}
use Rattle.zone_reader.specs.Records.{AreSuccessiveResults, EntryResult, ReadsNextEntry, ReadsNextRecord, StartsText, result_of_entry}
use Rattle.zone_reader.specs.TextEntries.{IsSeenPastFaults, TextEntry, entry_counts, parts_of_entries, spelled_tokens, tokens_end}
use Rattle.zone_reader.specs.declared.entry.ParsedEntry.{ParsedEntry}
use Rattle.zone_reader.specs.declared.entry.ParsedEntry.TheVariants.{Empty}
use Rattle.zone_reader.specs.declared.records.RecordReader.{RecordReader}
use Rattle.zone_reader.specs.declared.state.State.{State}

-- an entry as it was read: the result, and what later entries inherit from it; the octets before and after it, and the state that it leaves
pub record EntryAsRead : Type 0 where
  pub entry : TextEntry
  pub read : Result ParsedEntry RecordError
  pub said : List Declared
  pub old : List ℕ
  pub new : List ℕ
  pub after : State

-- what is returned for it: if a syntax error cuts it off, that error
abbrev pub result_as_read : EntryAsRead → EntryResult
result_as_read r = record { old = r.old; result = result_of_entry r.entry.end r.read; new = r.new; state = r.after }

abbrev pub all_declared : List EntryAsRead → List Declared
all_declared entries = flat_map (λ r. r.said) entries

-- an entry is read by its own tokens and a state, which is the one after all earlier values
pub record IsReadAfterEarlier (room : Room) (start : State) (past : List Declared) (r : EntryAsRead) : Type 0 where
  pub state : State
  pub knows : StateAfter start past state
  pub reads : ReadsZoneEntry room r.entry.begins_blank (tokens_end r.entry.tokens) r.entry.tokens state r.old r.read r.after r.new
  pub says : r.said ≡ declared_by_entry (first_directive r.entry.begins_blank r.entry.tokens) reads.meaning r.read

-- What calls returned for octets is what was read of their entries in order, but for those that
-- have neither tokens nor a syntax error; and each of these was read with the state that all before
-- it left. These parts are left.
pub record IsReadSoFar (room : Room) (octets : List ℕ) (start : State) (given : List EntryResult) (left : List (Result PartSeen Fault)) : Type 0 where
  pub entries : List TextEntry
  pub seen : IsSeenPastFaults octets (parts_of_entries entries) left
  pub read : List EntryAsRead
  pub are_entries : map (λ r. r.entry) read ≡ filter entry_counts entries
  pub are_given : map result_as_read read ≡ given
  pub each : (before after : List EntryAsRead) (r : EntryAsRead) → read ≡ before ++ (r ∷ after) → IsReadAfterEarlier room start (all_declared before) r

-- calls one after another, from a text's start on, read it so
abbrev pub TextsAreRead : Type 0
TextsAreRead = (room : Room) (octets : List ℕ) (start : State) (first last : RecordReader) (given : List EntryResult) → StartsText octets start first → AreSuccessiveResults room first given last
    → IsReadSoFar room octets start given last.source.parts

-- and if the last of them returns `None`, nothing is left
abbrev pub TextsAreReadToTheEnd : Type 0
TextsAreReadToTheEnd = (room : Room) (octets : List ℕ) (start : State) (first last after : RecordReader) (given : List EntryResult) (old new : List ℕ) → StartsText octets start first → AreSuccessiveResults room first given last
    → ReadsNextEntry room last old None after new → IsReadSoFar room octets start given []

-- the entries of a text that splits are those that it splits into
abbrev pub ReadEntriesAreSplit : Type 0
ReadEntriesAreSplit = (room : Room) (octets : List ℕ) (start : State) (given : List EntryResult) (found : Entries) → AreOctets octets → Splits octets found → (r : IsReadSoFar room octets start given [])
    → map spelled_tokens r.entries ≡ found

-- rows of calls join
abbrev pub RowsJoin : Type 0
RowsJoin = (room : Room) (first middle last : RecordReader) (given more : List EntryResult) → AreSuccessiveResults room first given middle → AreSuccessiveResults room middle more last → AreSuccessiveResults room first (given ++ more) last

-- a call of `next_record` is a row of calls of `next_entry`, and the last of these returns its result
abbrev pub RecordsEndRows : Type 0
RecordsEndRows = (room : Room) (before after : RecordReader) (old new : List ℕ) (result : Result ParsedEntry RecordError) → ReadsNextRecord room before old (Some result) after new
    → (given : List EntryResult) × AreSuccessiveResults room before (given ++ (record { old = old; result = result; new = new; state = after.state }) ∷ []) after

-- no call returns `Empty`, an entry without tokens
abbrev pub NoCallIsBlank : Type 0
NoCallIsBlank = (room : Room) (before after : RecordReader) (old new : List ℕ) → ReadsNextEntry room before old (Some (Ok Empty)) after new → ⊥

-- an upper bound of the further calls that return something: one for each octet from there on, and one more, if a part is left
abbrev pub remaining_calls_at : List (Result PartSeen Fault) → ℕ → ℕ
remaining_calls_at [] n = 0
remaining_calls_at (p ∷ parts) n = n + 1

abbrev pub remaining_calls : RecordReader → ℕ
remaining_calls r = remaining_calls_at r.source.parts (length r.octets.now - r.source.began)

-- each call that returns something leaves fewer
abbrev pub CallsEnd : Type 0
CallsEnd = (room : Room) (octets : List ℕ) (start : State) (first r after : RecordReader) (given : List EntryResult) (old new : List ℕ) (result : Result ParsedEntry RecordError) → StartsText octets start first
    → AreSuccessiveResults room first given r → ReadsNextEntry room r old (Some result) after new → remaining_calls after < remaining_calls r
