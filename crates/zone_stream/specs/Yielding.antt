-- What a reader returns for the entries of a file that arrives in blocks.
use Rattle.std.specs.Prelude.{⊤, ◌≡◌, ◌⊎◌, ◌≤◌, ℕ, ◌+◌, ◌<◌, ◌^◌, Bool, true, List, [], ◌++◌, drop, length, Option, Some, None, Result, Ok, Err}
use Rattle.std.specs.Io.BufRead.{drop_through}
use Rattle.dns_symbol.specs.Characters.{line_feed}
use Rattle.dns_octets.specs.Room.{Room}
use Rattle.dns_lexer.specs.EntryTokens.{TokenSeen}
use Rattle.dns_lexer.specs.Pieces.{moved_fault}
use Rattle.dns_lexer.specs.CursorStates.{blank_at}
use Rattle.dns_lexer.specs.declared.pieces.EndOfEntry.{EndOfEntry}
use Rattle.dns_lexer.specs.declared.pieces.Fault.{Fault}
use Rattle.dns_lexer.specs.declared.pieces.Piece.{Piece}
use Rattle.dns_lexer.specs.declared.pieces.Wrong.TheVariants.{OpenQuote}
use Rattle.rdata_fields.specs.declared.record_error.RecordError.{RecordError}
use Rattle.zone_reader.specs.EntryReading.{ReadsZoneEntry}
use Rattle.zone_reader.specs.declared.entry.ParsedEntry.{ParsedEntry}
use Rattle.zone_reader.specs.declared.state.State.{State}
use Rattle.zone_reader.specs.FirstEntry.{StopsFirst, piece_tokens, stop_offset}
use Rattle.zone_reader.specs.TapeSource.{tokens_after}
use Rattle.zone_stream.specs.Adding.{stop_octets}
use Rattle.zone_stream.specs.Blocks.{Blocks, BuffersSuffix, MayFollow, place_of_next, remaining_text}
use Rattle.zone_stream.specs.First.{BeginsEntryWith}
use Rattle.zone_stream.specs.Placed.{NothingRemains}
use Rattle.zone_stream.specs.declared.refusal.BlockRefusal.{BlockRefusal}
use Rattle.zone_stream.specs.declared.refusal.BlockRefusal.TheVariants.{Text, Entry, LongEntry}

-- the result for an entry that has an end; and for one that a syntax error cuts off
abbrev pub result_by : {E : Type 0} → ℕ → Result E Fault → Result ParsedEntry RecordError → Result ParsedEntry BlockRefusal
result_by at (Ok end) (Ok read) = Ok read
result_by at (Ok end) (Err e) = Err (Entry e)
result_by at (Err f) read = Err (Text (moved_fault (λ i. at + i) f))

-- the part of a text after its first entry, or after the line of its syntax error
abbrev pub text_after : Result EndOfEntry Fault → List ℕ → List ℕ
text_after (Ok end) text = drop end.at text
text_after (Err f) text = drop_through line_feed (drop f.at text)

-- whatever follows the octets, the text that is left begins at an offset, with these tokens and this end of its first entry, or this syntax error; and the text after it is left then
pub record IsAtNextEntry (text : List ℕ) (b : Blocks) (at : ℕ) (blank : Bool) (tokens : List TokenSeen) (stop : Result EndOfEntry Fault) (c : Blocks) : Type 0 where
  pub left : remaining_text b text ≡ drop at text
  pub begins : BeginsEntryWith (drop at text) blank tokens stop
  pub behind : remaining_text c text ≡ text_after stop (drop at text)

-- the next entry of all octets that were added is read by its tokens and the state, and returned with offsets in the whole input; it has no more octets than the limit
pub record YieldsEntry (room : Room) (all : List ℕ) (b : Blocks) (before : State) (old : List ℕ) (given : Result ParsedEntry BlockRefusal) (c : Blocks) (after : State) (new : List ℕ) : Type 0 where
  pub at : ℕ
  pub began_at : c.began ≡ at
  pub blank : Bool
  pub tokens : List TokenSeen
  pub stop : Result EndOfEntry Fault
  pub stands : (more : List ℕ) → MayFollow b more → IsAtNextEntry (all ++ more) b at blank tokens stop c
  pub short : stop_offset stop ≤ b.limit
  pub is_finished : c.is_finished ≡ b.is_finished
  pub read : Result ParsedEntry RecordError
  pub reads : ReadsZoneEntry room blank (at + stop_offset stop) (tokens_after at tokens) before old read after new
  pub is : given ≡ result_by at stop read

-- whatever follows the octets, the text that is left begins at an offset, and the end of its first entry, or the syntax error before it, comes after more octets than the limit
pub record IsAtLongEntry (text : List ℕ) (b : Blocks) (at : ℕ) : Type 0 where
  pub left : remaining_text b text ≡ drop at text
  pub long : (blank : Bool) (tokens : List TokenSeen) (stop : Result EndOfEntry Fault) → BeginsEntryWith (drop at text) blank tokens stop → b.limit < stop_offset stop

-- the next entry is too long: nothing is left of all octets that were added, and no more are read
pub record EndsLong (all : List ℕ) (b : Blocks) (before : State) (old : List ℕ) (c : Blocks) (after : State) (new : List ℕ) : Type 0 where
  pub state : after ≡ before
  pub target : new ≡ old
  pub at : ℕ
  pub began_at : c.began ≡ at
  pub stands : (more : List ℕ) → MayFollow b more → IsAtLongEntry (all ++ more) b at
  pub left : remaining_text c all ≡ []
  pub is_finished : c.is_finished ≡ true

-- only the held octets have changed; the same text is left, and nothing if input is finished; the octets that are held are within the limit
pub record YieldsNone (all : List ℕ) (b : Blocks) (before : State) (old : List ℕ) (c : Blocks) (after : State) (new : List ℕ) : Type 0 where
  pub state : after ≡ before
  pub target : new ≡ old
  pub left : (more : List ℕ) → MayFollow b more → remaining_text c (all ++ more) ≡ remaining_text b (all ++ more)
  pub ended : b.is_finished ≡ true → remaining_text c all ≡ []
  pub held : length c.octets ≤ b.limit
  pub is_finished : c.is_finished ≡ b.is_finished

abbrev pub YieldsAny : Room → List ℕ → Blocks → State → List ℕ → Option (Result ParsedEntry BlockRefusal) → Blocks → State → List ℕ → Type 0
YieldsAny room all b before old (Some given) c after new = YieldsEntry room all b before old given c after new ⊎ ((given ≡ Err LongEntry) × EndsLong all b before old c after new)
YieldsAny room all b before old None c after new = YieldsNone all b before old c after new

pub record ReadsNext (room : Room) (all : List ℕ) (b : Blocks) (before : State) (old : List ℕ) (result : Option (Result ParsedEntry BlockRefusal)) (c : Blocks) (after : State) (new : List ℕ) : Type 0 where
  pub holds : BuffersSuffix all c
  pub limit : c.limit ≡ b.limit
  pub gives : YieldsAny room all b before old result c after new

-- ---- of private functions

-- a syntax error can be moved to a later offset
abbrev pub CanMove : {E : Type 0} → ℕ → Result E Fault → Type 0
CanMove at (Ok end) = ⊤
CanMove at (Err f) = (at + f.at < 2 ^ 64) × ((i : ℕ) → f.wrong ≡ OpenQuote i → at + i < 2 ^ 64)

-- the tokens of octets that are one entry, or that a syntax error cuts off, are read by the state
abbrev pub ReadsStop : Room → List ℕ → Bool → ℕ → State → List ℕ → Result ParsedEntry RecordError → State → List ℕ → Type 0
ReadsStop room octets blank at before old read after new = (stop : Result EndOfEntry Fault) (left : List (Result Piece Fault)) (x : StopsFirst octets stop left) → NothingRemains (length octets) stop left
    → ReadsZoneEntry room blank (at + stop_offset stop) (tokens_after at (piece_tokens octets None x.found)) before old read after new

-- and so are those of the next entry that is held
abbrev pub ReadsPending : Room → Blocks → Result ℕ Fault → State → List ℕ → Result ParsedEntry RecordError → State → List ℕ → Type 0
ReadsPending room b stop before old read after new = ReadsStop room (stop_octets b stop) (blank_at (drop b.next b.octets) 0) (place_of_next b) before old read after new
