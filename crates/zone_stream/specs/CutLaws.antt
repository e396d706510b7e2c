-- Laws of parts.
use Rattle.std.specs.Prelude.{◌≡◌, ◌≢◌, ℕ, Bool, List, Result, Ok}
use Rattle.rdata_values.specs.declared.classes.Class.{Class}
use Rattle.rdata_values.specs.declared.types.RecordType.{RecordType}
use Rattle.dns_octets.specs.Room.{Room}
use Rattle.dns_lexer.specs.EntryTokens.{TokenSeen}
use Rattle.rdata_fields.specs.declared.record_error.RecordError.{RecordError}
use Rattle.zone_reader.specs.EntryReading.{ReadsZoneEntry}
use Rattle.zone_reader.specs.Past.{nothing_declared, seconds_of}
use Rattle.zone_reader.specs.Records.{AreSuccessiveResults, EntryResult}
use Rattle.zone_reader.specs.declared.entry.ParsedEntry.{ParsedEntry}
use Rattle.zone_reader.specs.declared.entry.ParsedEntry.TheVariants.{Record as IsRecord}
use Rattle.zone_reader.specs.declared.known.NameState.TheVariants.{Name, Rejected}
use Rattle.zone_reader.specs.declared.records.RecordReader.{RecordReader}
use Rattle.zone_reader.specs.declared.state.State.{State}
use Rattle.zone_reader.specs.declared.ttl.RecordTtl.{RecordTtl}
use Rattle.zone_stream.specs.Alike.{AreAlike, AreResultsAlike, AreReadInTurn, ReadersAreAlike}
use Rattle.zone_stream.specs.Heads.{HasShortTtls, head_lines, state_of}
use Rattle.zone_stream.specs.declared.head.PartHead.{PartHead}

-- Any result of reading an entry from a state is also one of reading it from an alike state, with
-- the same octets; and the states after that are alike.
abbrev pub AlikeStatesReadAlike : Type 0
AlikeStatesReadAlike = (room : Room) (blank : Bool) (end : ℕ) (tokens : List TokenSeen) (a b after : State) (old new : List ℕ) (result : Result ParsedEntry RecordError) → AreAlike a b → ReadsZoneEntry room blank end tokens a old result after new
    → (other : State) × ReadsZoneEntry room blank end tokens b old result other new × AreAlike after other

-- The same holds of rows of calls: what the reader of the whole file may return from one state on, it may return from the other.
abbrev pub AlikeReadersReturnAlike : Type 0
AlikeReadersReturnAlike = (room : Room) (first other last : RecordReader) (given : List EntryResult) → ReadersAreAlike first other → AreSuccessiveResults room first given last
    → (same : List EntryResult) × (end : RecordReader) × AreSuccessiveResults room other same end × AreResultsAlike given same × ReadersAreAlike last end

-- A record was read, and left this state; it is the first record of the head, with the TTL that was
-- found for it, and no origin was rejected before it.
pub record IsAfterFirstRecord {N O : Type 0} (h : PartHead N O) : Type 0 where
  pub room : Room
  pub blank : Bool
  pub end : ℕ
  pub tokens : List TokenSeen
  pub before : State
  pub old : List ℕ
  pub new : List ℕ
  pub at : ℕ
  pub data_at : ℕ
  pub last : ℕ
  pub ttl : RecordTtl
  pub class : Class
  pub rtype : RecordType
  pub reads : ReadsZoneEntry room blank end tokens before old (Ok (IsRecord at data_at last ttl class rtype)) (state_of h) new
  pub owner : (state_of h).owner ≡ Name h.first.owner
  pub ttl_is : h.first.ttl ≡ seconds_of ttl
  pub origin : before.origin ≢ Rejected

-- The lines of a head, read from a class alone, leave a state that is alike to the head's state.
abbrev pub HeadLeadsThere : {N O : Type 0} → PartHead N O → Type 0
HeadLeadsThere h = (room : Room) (last : State) → HasShortTtls h → IsAfterFirstRecord h → AreReadInTurn room (nothing_declared (state_of h).class) (head_lines h) last → AreAlike (state_of h) last
