-- The results of printing data of a type, and of parsing its text.
use Rattle.std.specs.Prelude.{◌≡◌, ◌≢◌, ◌⊎◌, ◌+◌, ◌≤◌, ℕ, Bool, true, false, List, [], ◌∷◌, ◌++◌, length, take, drop, Option, Result, Ok, Err}
use Rattle.std.specs.Borrow.{Bor}
use Rattle.std.specs.Fmt.{WritesInCalls}
use Rattle.std.specs.Option.{option_copied}
use Rattle.rdata.specs.ByType.{ReadsType}
use Rattle.rdata_fields.specs.RecordErrors.{error_at, error_of_fault, error_of_type}
use Rattle.rdata_fields.specs.declared.record_error.RecordError.{RecordError}
use Rattle.rdata_values.specs.declared.error.ErrorKind.TheVariants.{TrailingToken}
use Rattle.rdata_values.specs.declared.types.RecordType.{RecordType}
use Rattle.dns_octets.specs.Room.{Room, exactly}
use Rattle.zone_reader.specs.Source.{BeginsEntry, SourceSeen, parts_after_unread, entry_end, unread_entry_tokens}
use Rattle.zone_reader.specs.declared.source.StartOfEntry.{StartOfEntry}
use Rattle.zone_record.specs.CanonicalData.{canonical_data}
use Rattle.zone_record.specs.DataTokens.{data_document}
use Rattle.zone_record.specs.TypeData.{IsTypeData, TypeData}
use Rattle.zone_record.specs.WireErrors.{RefusesWire}
use Rattle.zone_record.specs.declared.error.WireError.{WireError}
use Rattle.zone_record.specs.declared.error.WireError.TheVariants.{NoDataType, LongData, NotOfType}
use Rattle.dns_lexer.specs.EntryTokens.{EndIs, IsSeen, PartSeen, TokenIs, TokenSeen}
use Rattle.dns_lexer.specs.declared.pieces.Fault.{Fault as TextFault}
use Rattle.dns_wire.specs.FromOctets.{MakesName}
use Rattle.dns_wire.specs.declared.error.NameError.{NameError}
use Rattle.dns_zone.specs.Layout.{Step}
use Rattle.dns_zone.specs.Printed.{printed}
use Rattle.dns_zone.specs.declared.zonefile_fmt.DisplayKind.TheVariants.{Simple}
use Rattle.c_calls.specs.Capacity.{InCapacity}
use Rattle.c_calls.specs.Kept.{IsOriginOf}
use Rattle.c_calls.specs.Reasons.{DataError, ReportsDataError, refusal_of_name}
use Rattle.c_calls.specs.Reports.{ReportsFault, CopiesWhole, at_start}
use Rattle.c_calls.specs.declared.outcome.Fault.{Fault}
use Rattle.c_calls.specs.declared.outcome.Outcome.{Outcome}
use Rattle.c_calls.specs.declared.outcome.Refusal.TheVariants.{BadData, TooLong}
use Rattle.c_calls.specs.declared.reading.Rejected.{Rejected}

-- the text of a document on one line
abbrev pub line_text : List Step → List ℕ
line_text document = printed Simple document

-- that of data
abbrev pub data_text : TypeData → List ℕ
data_text d = line_text (data_document d)

-- the text of a document is written piece by piece
abbrev pub PrintsOn : {S : Type 0} → (S → List ℕ → S → Type 0) → List Step → S → S → Type 0
PrintsOn gives document old new = WritesInCalls gives old (line_text document) new

-- octets are written at an offset; the octets before and after them are unchanged
pub record PutsAt (octets : List ℕ) (at : ℕ) (old new : List ℕ) : Type 0 where
  pub fits : at + length octets ≤ length old
  pub put : take (at + length octets) new ≡ take at old ++ octets
  pub rest : drop (at + length octets) new ≡ drop (at + length octets) old
  pub same : length new ≡ length old

-- the text is returned; or printing it failed, which it does in no test, and the octets after its length are unchanged
abbrev pub ReportsText : List ℕ → List ℕ → ℕ → List ℕ → Outcome → Type 0
ReportsText text old status new outcome =
    CopiesWhole text old status new outcome
    ⊎ (ReportsFault (at_start TooLong) status outcome × (drop (length text) new ≡ drop (length text) old))

-- the text of a document on one line is returned
abbrev pub ReportsDocument : List Step → List ℕ → ℕ → List ℕ → Outcome → Type 0
ReportsDocument document old status new outcome = ReportsText (line_text document) old status new outcome

-- the status and the offset if octets are not data of a type
abbrev pub fault_of_wire : WireError → Fault
fault_of_wire NoDataType = at_start BadData
fault_of_wire LongData = record { refusal = TooLong; place = 65535 }
fault_of_wire NotOfType = at_start BadData

-- octets are data of a type, and their text is returned; or the reason why they are not is reported, and nothing was written
abbrev pub PrintsData : RecordType → List ℕ → List ℕ → ℕ → List ℕ → Outcome → Type 0
PrintsData rtype octets old status new outcome =
    (IsTypeData rtype octets × ReportsText (data_text (record { rtype = rtype; octets = octets })) old status new outcome)
    ⊎ ((e : WireError) × RefusesWire rtype octets e × ReportsFault (fault_of_wire e) status outcome × (new ≡ old))

-- the canonical form of data is returned
abbrev pub ReportsForm : TypeData → List ℕ → ℕ → List ℕ → Outcome → Type 0
ReportsForm d old status new outcome = CopiesWhole (canonical_data d.rtype d.octets) old status new outcome

-- octets are data of a type, and their canonical form is written; or the reason why they are not is reported, and nothing was written
abbrev pub ReportsCanonical : RecordType → List ℕ → List ℕ → ℕ → List ℕ → Outcome → Type 0
ReportsCanonical rtype octets old status new outcome =
    (IsTypeData rtype octets × ReportsForm (record { rtype = rtype; octets = octets }) old status new outcome)
    ⊎ ((e : WireError) × RefusesWire rtype octets e × ReportsFault (fault_of_wire e) status outcome × (new ≡ old))

-- a token on a line after that of the data
abbrev pub trailing_token : RecordType → ℕ → RecordError
trailing_token rtype at = error_of_type rtype (error_at at TrailingToken)

-- the octets of data, or an error
abbrev pub DataAnswer : Type 0
DataAnswer = Result (List ℕ) DataError

-- an error of the data, or of the syntax
abbrev pub in_data : RecordError → DataError
in_data e = (e, false)

-- an error of a line after that of the data
abbrev pub on_next_line : RecordError → DataError
on_next_line e = (e, true)

-- the octets that were read, or the error
abbrev pub answered : Result (Unit {0}) RecordError → List ℕ → DataAnswer
answered (Ok _) octets = Ok octets
answered (Err e) octets = Err (in_data e)

abbrev pub data_error : Rejected → DataError
data_error r = (r.error, r.is_next_line)

-- the octets of a text, or the error; and whether octets don't fit
abbrev pub text_answered : Result (Unit {0}) Rejected → List ℕ → DataAnswer
text_answered (Ok _) octets = Ok octets
text_answered (Err r) octets = Err (data_error r)

abbrev pub lacks_of : {X : Type 0} → Result X Rejected → Bool
lacks_of (Ok x) = false
lacks_of (Err r) = r.lacks

-- the result by what comes after the entry of the octets: only entries without tokens; or a token, or a syntax error
abbrev pub answer_before : RecordType → List ℕ → List (Result PartSeen TextFault) → DataAnswer
answer_before rtype octets [] = Ok octets
answer_before rtype octets (Ok (EndIs e) ∷ parts) = answer_before rtype octets parts
answer_before rtype octets (Ok (TokenIs t b) ∷ parts) = Err (on_next_line (trailing_token rtype t.at))
answer_before rtype octets (Err f ∷ parts) = Err (in_data (error_of_fault f))

-- the result of an entry that was read, by what comes after its tokens: a syntax error comes first
abbrev pub data_answer : RecordType → Result (Unit {0}) RecordError → List ℕ → List (Result PartSeen TextFault) → DataAnswer
data_answer rtype read octets (Err f ∷ parts) = Err (in_data (error_of_fault f))
data_answer rtype (Err e) octets parts = Err (in_data e)
data_answer rtype (Ok _) octets parts = answer_before rtype octets parts

-- the tokens of the open entry are read as data of a type, or no tokens if no entry is open
abbrev pub ReadsTokens : Room → RecordType → Option (List (List ℕ)) → SourceSeen → DataAnswer → Type 0
ReadsTokens room rtype origin begun answer =
    (read : Result (Unit {0}) RecordError) × (left : List TokenSeen) × (octets : List ℕ)
    × ReadsType origin room rtype (entry_end begun).at (unread_entry_tokens begun) [] read left octets × (answer ≡ data_answer rtype read octets (parts_after_unread begun))

-- the tokens that are left of an entry are read as data of a type, and appended to the octets, with capacity n
abbrev pub ReadsRemaining : ℕ → RecordType → Option (Bor (List (List ℕ))) → (old : SourceSeen × List ℕ) → Result (Unit {0}) RecordError → (new : SourceSeen × List ℕ) → Type 0
ReadsRemaining n rtype origin old result new =
    ReadsType (option_copied origin) (exactly n) rtype (entry_end old.0).at (unread_entry_tokens old.0) old.1 result (unread_entry_tokens new.0) new.1

-- the open entry is read, and what comes after it, with capacity n, and with any capacity unless octets don't fit: the octets are the data, or an error is returned
abbrev pub ReadsOpen : ℕ → RecordType → Option (Bor (List (List ℕ))) → SourceSeen → Result (Unit {0}) Rejected → List ℕ → Type 0
ReadsOpen n rtype origin begun result octets = InCapacity n (lacks_of result) (λ room. ReadsTokens room rtype (option_copied origin) begun (text_answered result octets))

-- what comes after the entry of the data is read
abbrev pub EndsText : RecordType → Result (Unit {0}) Rejected → List (Result PartSeen TextFault) → Type 0
EndsText rtype result parts = (octets : List ℕ) → text_answered result octets ≡ answer_before rtype octets parts

-- the first entry that has tokens is read, or no tokens if the text has no such entry; or a syntax error comes before its tokens
abbrev pub ReadsFirstData : Room → RecordType → Option (List (List ℕ)) → Result (Option StartOfEntry) TextFault → SourceSeen → DataAnswer → Type 0
ReadsFirstData room rtype origin (Err f) begun answer = answer ≡ Err (in_data (error_of_fault f))
ReadsFirstData room rtype origin (Ok found) begun answer = ReadsTokens room rtype origin begun answer

-- a text of one entry is read as data of a type, with some capacity
pub record ReadsDataText (room : Room) (rtype : RecordType) (origin : Option (List (List ℕ))) (text : List ℕ) (answer : DataAnswer) : Type 0 where
  pub source : SourceSeen
  pub seen : IsSeen text source.parts
  pub closed : source.is_open ≡ false
  pub at_start : source.began ≡ 0
  pub start : Result (Option StartOfEntry) TextFault
  pub begun : SourceSeen
  pub begins : BeginsEntry source start begun
  pub reads : ReadsFirstData room rtype origin start begun answer

-- the same, as a result and octets
abbrev pub AnswersText : ℕ → RecordType → Option (Bor (List (List ℕ))) → List ℕ → Result (Unit {0}) Rejected → List ℕ → Type 0
AnswersText n rtype origin text result octets = InCapacity n (lacks_of result) (λ room. ReadsDataText room rtype (option_copied origin) text (text_answered result octets))

-- the octets are returned; or the error is reported
abbrev pub ReportsData : DataAnswer → List ℕ → ℕ → List ℕ → Outcome → Type 0
ReportsData (Ok octets) old status new outcome = CopiesWhole octets old status new outcome
ReportsData (Err e) old status new outcome = ReportsDataError e old status new outcome

-- the octets of data are returned, with capacity n; or they are rejected, and nothing was written
abbrev pub WritesData : ℕ → RecordType → Option (Bor (List (List ℕ))) → List ℕ → List ℕ → Result ℕ Rejected → List ℕ → Outcome → Type 0
WritesData n rtype origin text old (Ok status) new outcome =
    (octets : List ℕ) × InCapacity n false (λ room. ReadsDataText room rtype (option_copied origin) text (Ok octets)) × CopiesWhole octets old status new outcome
WritesData n rtype origin text old (Err r) new outcome = InCapacity n r.lacks (λ room. ReadsDataText room rtype (option_copied origin) text (Err (data_error r))) × (new ≡ old)

-- a text is read, with an origin for relative names, and the result is reported
abbrev pub ReportsDataBelow : RecordType → List ℕ → Option (List (List ℕ)) → List ℕ → ℕ → List ℕ → Outcome → Type 0
ReportsDataBelow rtype text origin old status new outcome = (answer : DataAnswer) × ReadsDataText (exactly 65535) rtype origin text answer × ReportsData answer old status new outcome

-- the same with the origin by reference
abbrev pub ReportsRead : RecordType → List ℕ → Option (Bor (List (List ℕ))) → List ℕ → ℕ → List ℕ → Outcome → Type 0
ReportsRead rtype text origin old status new outcome = ReportsDataBelow rtype text (option_copied origin) old status new outcome

-- the text is read, with the origin for relative names; or the origin is not a name, which is reported with offset 0, and nothing was written
abbrev pub ReportsReadData : RecordType → List ℕ → List ℕ → List ℕ → ℕ → List ℕ → Outcome → Type 0
ReportsReadData rtype text origin old status new outcome =
    ((known : Option (List (List ℕ))) × IsOriginOf origin known × ReportsDataBelow rtype text known old status new outcome)
    ⊎ ((e : NameError) × (origin ≢ []) × MakesName origin (Err e) × ReportsFault (at_start (refusal_of_name e)) status outcome × (new ≡ old))
