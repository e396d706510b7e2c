-- How long a buffer has to be: a call that returns no room reports it, and with a buffer of that length no call of the same input returns no room.
use Rattle.std.specs.Prelude.{◌≡◌, ◌≢◌, ℕ, ◌<◌, ◌≤◌, List, length}
use Rattle.dns_lexer.specs.Pieces.{AreOctets}
use Rattle.dns_codec.specs.Base.{Base}
use Rattle.rdata_values.specs.declared.types.RecordType.{RecordType}
use Rattle.c_calls.specs.Codecs.{PrintsOctets, DecodesText}
use Rattle.c_calls.specs.DataText.{PrintsData, ReportsCanonical, ReportsReadData}
use Rattle.c_calls.specs.Entries.{NextEntry}
use Rattle.c_calls.specs.Generates.{GeneratesEntry}
use Rattle.c_calls.specs.Names.{NameAnswer, PrintsName, ReadsNameText, ReportsName}
use Rattle.c_calls.specs.NameWords.{ReportsWordName}
use Rattle.c_calls.specs.RecordPrinting.{PrintsRecord}
use Rattle.c_calls.specs.Records.{NextRecord, memory}
use Rattle.c_calls.specs.Reports.{CopiesWhole, number_of}
use Rattle.c_calls.specs.Strings.{PrintsString, ReportsOctetString, ReportsString}
use Rattle.c_calls.specs.declared.kept.Zone.{Zone}
use Rattle.c_calls.specs.declared.outcome.Outcome.{Outcome}
use Rattle.c_calls.specs.declared.outcome.Refusal.TheVariants.{NoRoom}
use Rattle.c_calls.specs.declared.records.Record.{Record}
use Rattle.c_calls.specs.declared.tokens.Cursor.{Cursor}
use Rattle.c_calls.specs.declared.tokens.Token.{Token as TokenAt}

-- no room is returned only for a result longer than the buffer; and not by a second call, with a buffer at least as long as the first one reported
pub record ReportsEnoughRoom {X : Type 0} (May : List X → ℕ → List X → Outcome → Type 0) : Type 0 where
  pub longer : (old new : List X) (outcome : Outcome) → May old (number_of NoRoom) new outcome → length old < outcome.length
  pub enough : (old new larger after : List X) (outcome next : Outcome) (status : ℕ) → May old (number_of NoRoom) new outcome → outcome.length ≤ length larger → May larger status after next
      → status ≢ number_of NoRoom

-- and then nothing was written
pub record FillsOrKeeps (May : List ℕ → ℕ → List ℕ → Outcome → Type 0) : Type 0 where
  pub room : ReportsEnoughRoom May
  pub keeps : (old new : List ℕ) (outcome : Outcome) → May old (number_of NoRoom) new outcome → new ≡ old

-- calls that parse a name; and that write an entry, from a directive and an index
abbrev pub NameCalls : List ℕ → List ℕ → ℕ → List ℕ → Outcome → Type 0
NameCalls text old status new outcome =
    (was : ℕ) × (is : ℕ) × (answer : NameAnswer) × ReadsNameText text answer × ReportsName answer old was status new is outcome

abbrev pub GenerateCalls : List ℕ → ℕ → List ℕ → ℕ → List ℕ → Outcome → Type 0
GenerateCalls directive index old status new outcome =
    (old_number : ℕ) × (number : ℕ)
    × GeneratesEntry directive index (record { old_number = old_number; number = number; old = old; text = new; status = status; outcome = outcome })

-- that read the next record, or return the tokens of the next entry
abbrev pub NextRecordCalls : List ℕ → Zone → List ℕ → ℕ → List ℕ → Outcome → Type 0
NextRecordCalls text zone old status new outcome =
    (later : Zone) × (before : Record) × (found : Record)
    × NextRecord text (record { before = memory zone before old; after = memory later found new; status = status; outcome = outcome })

abbrev pub NextEntryCalls : List ℕ → Cursor → List TokenAt → ℕ → List TokenAt → Outcome → Type 0
NextEntryCalls text cursor old status new outcome = (later : Cursor) × NextEntry text cursor later old new status outcome

-- each call that fills a buffer
pub record CallsReportEnoughRoom : Type 0 where
  pub prints_octets : (b : Base) (octets : List ℕ) → FillsOrKeeps (PrintsOctets b octets)
  pub decodes : (b : Base) (text : List ℕ) → FillsOrKeeps (DecodesText b text)
  pub prints_string : (text_is : List ℕ → List ℕ) (octets : List ℕ) → FillsOrKeeps (PrintsString text_is octets)
  pub reads_string : (text : List ℕ) → FillsOrKeeps (ReportsString text)
  pub reads_octet_string : (text : List ℕ) → FillsOrKeeps (ReportsOctetString text)
  pub prints_name : (text_is : List (List ℕ) → List ℕ) (octets : List ℕ) → FillsOrKeeps (PrintsName text_is octets)
  pub reads_name : (text : List ℕ) → FillsOrKeeps (NameCalls text)
  pub prints_word : (word : List ℕ) → FillsOrKeeps (CopiesWhole word)
  pub prints_data : (rtype : RecordType) (octets : List ℕ) → FillsOrKeeps (PrintsData rtype octets)
  pub canonical : (rtype : RecordType) (octets : List ℕ) → FillsOrKeeps (ReportsCanonical rtype octets)
  pub reads_data : (rtype : RecordType) (text origin : List ℕ) → FillsOrKeeps (ReportsReadData rtype text origin)
  pub reads_word : (text origin : List ℕ) → FillsOrKeeps (ReportsWordName text origin)
  pub prints_record : (found : Record) (octets : List ℕ) → FillsOrKeeps (PrintsRecord found octets)
  pub generates : (directive : List ℕ) (index : ℕ) → FillsOrKeeps (GenerateCalls directive index)
  pub next_record : (text : List ℕ) (zone : Zone) → FillsOrKeeps (NextRecordCalls text zone)
  pub next_entry : (text : List ℕ) (cursor : Cursor) → AreOctets text → ReportsEnoughRoom (NextEntryCalls text cursor)
