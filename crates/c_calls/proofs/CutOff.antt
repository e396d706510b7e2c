-- Data is read alike with any capacity that suffices, also if a syntax error follows it.
use Rattle.std.proofs.Common.{ℕ, ◌≡◌, false, Bool, List, [], sym, ap, ◌∙◌, Option, Result, Ok, Err}
use Rattle.std.proofs.lemmas.Bool.{false≢true}
use Rattle.std.specs.Prelude.{IsTrue, ◌↔◌}
use Rattle.dns_octets.specs.Room.{Room, exactly}
use Rattle.rdata.specs.ByType.{ReadsType}
use Rattle.rdata_values.specs.declared.types.RecordType.{RecordType}
use Rattle.dns_lexer.specs.EntryTokens.{IsSeen, TokenSeen}
use Rattle.dns_lexer.specs.declared.pieces.Fault.{Fault}
use Rattle.rdata_fields.specs.RecordErrors.{error_of_fault}
use Rattle.rdata_fields.specs.declared.record_error.RecordError.{RecordError}
use Rattle.zone_reader.specs.Source.{BeginsEntry, SourceSeen, parts_after_unread, entry_end, unread_entry_tokens}
use Rattle.zone_reader.specs.declared.source.StartOfEntry.{StartOfEntry}
use Rattle.c_calls.specs.Capacity.{ErrorLacksRoom, InCapacity}
use Rattle.c_calls.specs.DataText.{DataAnswer, ReadsDataText, ReadsTokens, data_answer, in_data}
use Rattle.c_calls.proofs.Rooms.{Fits, type_so}

-- what holds with each capacity holds whether or not octets fit
pub always : (n : ℕ) (lacks : Bool) (Holds : Room → Type 0) → ((room : Room) → Holds room) → InCapacity n lacks Holds
always n lacks Holds all = (all (exactly n), λ fit. all)

-- an entry is not rejected for lack of capacity
pub fits_if : {X : Type 0} (read : Result X RecordError) (lacks : Bool) → (IsTrue lacks ↔ ErrorLacksRoom read) → lacks ≡ false → Fits read
fits_if read lacks tells fit r is short = false≢true (sym fit ∙ tells.1 (r, is, short))

-- tokens are read with any capacity, unless their octets don't fit
pub tokens_in : (n : ℕ) (lacks : Bool) (rtype : RecordType) (origin : Option (List (List ℕ))) (begun : SourceSeen) (answer : DataAnswer) (read : Result (Unit {0}) RecordError) (left : List TokenSeen) (octets : List ℕ) → (lacks ≡ false → Fits read)
    → ReadsType origin (exactly n) rtype (entry_end begun).at (unread_entry_tokens begun) [] read left octets → answer ≡ data_answer rtype read octets (parts_after_unread begun) → InCapacity n lacks (λ room. ReadsTokens room rtype origin begun answer)
tokens_in n lacks rtype origin begun answer read left octets fits reads is = (
  (read, left, octets, reads, is),
  λ fit room. (read, left, octets, type_so (exactly n) room origin rtype (entry_end begun).at (unread_entry_tokens begun) [] read left octets (fits fit) reads, is),
)

-- and so is a text
pub text_in : (n : ℕ) (lacks : Bool) (rtype : RecordType) (origin : Option (List (List ℕ))) (text : List ℕ) (answer : DataAnswer) (source begun : SourceSeen) (found : Option StartOfEntry) → IsSeen text source.parts → source.is_open ≡ false → source.began ≡ 0
    → BeginsEntry source (Ok found) begun → InCapacity n lacks (λ room. ReadsTokens room rtype origin begun answer) → InCapacity n lacks (λ room. ReadsDataText room rtype origin text answer)
text_in n lacks rtype origin text answer source begun found seen closed at_start begins h = (whole (exactly n) h.0, λ fit room. whole room (h.1 fit room))
  where
    whole : (room : Room) → ReadsTokens room rtype origin begun answer → ReadsDataText room rtype origin text answer
    whole room reads = record { source = source; seen = seen; closed = closed; at_start = at_start; start = Ok found; begun = begun; begins = begins; reads = reads }

pub text_cut : (rtype : RecordType) (origin : Option (List (List ℕ))) (text : List ℕ) (source begun : SourceSeen) (fault : Fault) (e : RecordError) → IsSeen text source.parts → source.is_open ≡ false → source.began ≡ 0 → BeginsEntry source (Err fault) begun
    → e ≡ error_of_fault fault → (room : Room) → ReadsDataText room rtype origin text (Err (in_data e))
text_cut rtype origin text source begun fault e seen closed at_start begins is room = record { source = source; seen = seen; closed = closed; at_start = at_start; start = Err fault; begun = begun; begins = begins; reads = ap (λ x. Err (in_data x)) is }
