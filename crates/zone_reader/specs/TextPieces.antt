-- A text in pieces: reading may stop where an entry has ended, and continue there.
use Rattle.std.specs.Prelude.{◌≡◌, ◌<◌, ◌+◌, ℕ, false, List, ◌∷◌, ◌++◌, drop, length, map, take, None, Result, Ok, Err}
use Rattle.dns_octets.specs.Room.{Room}
use Rattle.dns_lexer.specs.declared.pieces.EndOfEntry.{EndOfEntry}
use Rattle.dns_lexer.specs.declared.pieces.Fault.{Fault}
use Rattle.dns_lexer.specs.EntryTokens.{EndIs, IsSeen, IsSeenFrom, PartSeen, TokenIs, TokenSeen}
use Rattle.dns_lexer.specs.Pieces.{AreOctets, moved_fault}
use Rattle.zone_reader.specs.Records.{AreSuccessiveResults, EntryResult, StartsText}
use Rattle.zone_reader.specs.declared.records.RecordReader.{RecordReader}
use Rattle.zone_reader.specs.declared.state.State.{State}

-- the same part, a number of octets later
abbrev pub token_later : ℕ → TokenSeen → TokenSeen
token_later n t = record { text = t.text; is_quoted = t.is_quoted; is_adjacent = t.is_adjacent; at = n + t.at }

abbrev pub part_later : ℕ → PartSeen → PartSeen
part_later n (TokenIs t b) = TokenIs (token_later n t) b
part_later n (EndIs e) = EndIs (record { at = n + e.at; begins_blank = e.begins_blank })

abbrev pub seen_later : ℕ → Result PartSeen Fault → Result PartSeen Fault
seen_later n (Ok p) = Ok (part_later n p)
seen_later n (Err f) = Err (moved_fault (λ i. n + i) f)

-- a reader at an offset of octets, with a state
pub record StartsAt (octets : List ℕ) (at : ℕ) (state : State) (r : RecordReader) : Type 0 where
  pub octets_is : r.octets.now ≡ octets
  pub parts : IsSeenFrom octets at r.source.parts
  pub closed : r.source.is_open ≡ false
  pub began : r.source.began ≡ at
  pub taken : r.source.taken ≡ None
  pub state_is : r.state ≡ state

-- calls from a text's start on have come to an offset after which something is left
pub record HasReadUpTo (room : Room) (octets : List ℕ) (start : State) (given : List EntryResult) (r : RecordReader) : Type 0 where
  pub first : RecordReader
  pub starts : StartsText octets start first
  pub row : AreSuccessiveResults room first given r
  pub some : 0 < length r.source.parts

-- a reader that starts at that offset, with the state that the calls left, is in the same state as the one that made them
abbrev pub PiecesAreReadOn : Type 0
PiecesAreReadOn = (room : Room) (octets : List ℕ) (start : State) (given : List EntryResult) (stopped other : RecordReader) → HasReadUpTo room octets start given stopped → StartsAt octets stopped.source.began stopped.state other
    → (other.octets.now ≡ stopped.octets.now) × (other.source ≡ stopped.source) × (other.state ≡ stopped.state)

-- what is left is what the octets from there on have alone, with offsets among all octets
abbrev pub PiecesAreIndependent : Type 0
PiecesAreIndependent = (room : Room) (octets : List ℕ) (start : State) (given : List EntryResult) (stopped : RecordReader) → HasReadUpTo room octets start given stopped
    → (alone : List (Result PartSeen Fault)) × IsSeen (drop stopped.source.began octets) alone × (stopped.source.parts ≡ map (seen_later stopped.source.began) alone)

-- What is seen up to the end of an entry that is not the last is the same whatever octets follow; and then comes what these have alone, with offsets among all octets.
abbrev pub EndedEntriesStay : Type 0
EndedEntriesStay = (octets rest : List ℕ) (front left alone : List (Result PartSeen Fault)) (end : EndOfEntry) → AreOctets octets → AreOctets rest → IsSeen octets (front ++ (Ok (EndIs end) ∷ left)) → 0 < length left → IsSeen rest alone
    → IsSeen (take end.at octets ++ rest) (front ++ (Ok (EndIs end) ∷ map (seen_later end.at) alone))
