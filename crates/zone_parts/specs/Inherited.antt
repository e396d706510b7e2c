-- What later entries inherit of a record, found without parsing its owner.
use Rattle.std.specs.Prelude.{◌≡◌, ◌≢◌, ◌<◌, ℕ, Bool, false, List, [], ◌++◌, length, map, Option, Some, None, Result, Ok}
use Rattle.dns_octets.specs.Room.{Room}
use Rattle.dns_lexer.specs.CursorStates.{blank_at}
use Rattle.dns_lexer.specs.EntryTokens.{TokenSeen}
use Rattle.dns_lexer.specs.PassedLine.{HasNoEnd}
use Rattle.dns_lexer.specs.declared.pieces.EndOfEntry.{EndOfEntry}
use Rattle.dns_lexer.specs.declared.pieces.Fault.{Fault}
use Rattle.dns_lexer.specs.declared.pieces.Piece.{Piece}
use Rattle.rdata_fields.specs.declared.record_error.RecordError.{RecordError}
use Rattle.zone_reader.specs.EntryReading.{ReadsZoneEntry}
use Rattle.zone_reader.specs.EntrySteps.{owner_token, tokens_after_owner}
use Rattle.zone_reader.specs.FirstEntry.{StopsFirst, piece_tokens}
use Rattle.zone_reader.specs.Past.{NamedBy, known_name}
use Rattle.zone_reader.specs.declared.entry.ParsedEntry.{ParsedEntry}
use Rattle.zone_reader.specs.declared.state.State.{State}
use Rattle.zone_parts.specs.Passing.{FindsTtl, PassesZoneEntry, begins_directive}
use Rattle.zone_parts.specs.declared.pass_error.PassError.{PassError}

-- a state means this one, if the last owner is the name that the token spells, or is rejected; without a token it means itself
abbrev pub Means : State → Option TokenSeen → State → Type 0
Means s None t = t ≡ s
Means s (Some token) t = NamedBy (known_name s.origin) (Some token) t.owner × (t ≡ record s { owner = t.owner })

-- an entry with these tokens is a record: the token of its owner, unless it begins with a blank, and its explicit TTL
pub record IsInherited (blank : Bool) (tokens : List TokenSeen) (owner : Option TokenSeen) (ttl : Option ℕ) : Type 0 where
  pub some : tokens ≢ []
  pub plain : begins_directive blank tokens ≡ false
  pub owner_is : owner ≡ owner_token blank tokens
  pub finds : FindsTtl (tokens_after_owner blank tokens) ttl

-- whatever is read of an entry in a state that one state and token mean, others mean the state that it leaves
abbrev pub LeavesMeant : Bool → ℕ → List TokenSeen → State → Option TokenSeen → State → Option TokenSeen → Type 0
LeavesMeant blank end tokens s owner t last =
    (before : State) → Means s owner before → (room : Room) (old new : List ℕ) (result : Result ParsedEntry RecordError) (after : State) → ReadsZoneEntry room blank end tokens before old result after new → Means t last after

-- An entry is passed, and the token of the last owner may not be parsed. Either any reading of it leaves the state that is meant; or the last owner was parsed before the entry.
pub data PassesTokens (room : Room) (blank : Bool) (end : ℕ) (tokens : List TokenSeen) (s : State) (owner : Option TokenSeen) (old : List ℕ) (result : Result (Unit {0}) PassError) (t : State) (last : Option TokenSeen) (new : List ℕ) : Type 0 where
  was_kept : LeavesMeant blank end tokens s owner t last → result ≡ Ok tt → new ≡ old → PassesTokens room blank end tokens s owner old result t last new
  was_parsed : (before : State) → Means s owner before → PassesZoneEntry room blank end tokens before old result t new → last ≡ None → PassesTokens room blank end tokens s owner old result t last new

-- the first entry of octets has these tokens, and ends at this offset
pub record IsFirstEntry (octets : List ℕ) (tokens : List TokenSeen) (end : ℕ) : Type 0 where
  pub stop : EndOfEntry
  pub left : List (Result Piece Fault)
  pub first : StopsFirst octets (Ok stop) left
  pub ends : stop.at ≡ end
  pub are : piece_tokens octets None first.found ≡ tokens

-- the first entry is a record, and ends at this offset; other pieces follow, so octets added don't change it
pub record IsRecordLine (octets : List ℕ) (owner : Option TokenSeen) (ttl : Option ℕ) (end : ℕ) : Type 0 where
  pub tokens : List TokenSeen
  pub entry : IsFirstEntry octets tokens end
  pub some : 0 < length entry.left
  pub inherited : IsInherited (blank_at octets 0) tokens owner ttl

-- ---- of private functions

-- pieces of one entry are skipped after a token that ended there, which determine the TTL whatever pieces follow
pub record SkipsToTtl (octets : List ℕ) (ended : Option ℕ) (old new : List (Result Piece Fault)) (ttl : Option ℕ) : Type 0 where
  pub words : List Piece
  pub is_open : HasNoEnd words
  pub is : old ≡ map Ok words ++ new
  pub some : (found : List Piece) → piece_tokens octets ended (words ++ found) ≢ []
  pub finds : (found : List Piece) → FindsTtl (piece_tokens octets ended (words ++ found)) ttl
