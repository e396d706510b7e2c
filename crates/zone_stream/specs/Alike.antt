-- States from which entries are read alike.
use Rattle.std.specs.Prelude.{⊤, ◌≡◌, ◌≤◌, ◌+◌, ℕ, false, List, [], ◌∷◌, length, None, Result}
use Rattle.rdata.specs.Limits.{max_data}
use Rattle.rdata.specs.Rests.{ArePrinted}
use Rattle.dns_octets.specs.Room.{Room}
use Rattle.dns_lexer.specs.EntryTokens.{TokenSeen}
use Rattle.rdata_fields.specs.declared.record_error.RecordError.{RecordError}
use Rattle.zone_reader.specs.EntryReading.{ReadsZoneEntry}
use Rattle.zone_reader.specs.Records.{EntryResult}
use Rattle.zone_reader.specs.declared.entry.ParsedEntry.{ParsedEntry}
use Rattle.zone_reader.specs.declared.records.RecordReader.{RecordReader}
use Rattle.zone_reader.specs.declared.state.State.{State}
use Rattle.zone_stream.specs.Heads.{Line}

-- equal but for the last TTL, which matters only if no default is known
pub record AreAlike (a b : State) : Type 0 where
  pub origin : a.origin ≡ b.origin
  pub owner : a.owner ≡ b.owner
  pub default_ttl : a.default_ttl ≡ b.default_ttl
  pub last_ttl : a.default_ttl ≡ None → a.last_ttl ≡ b.last_ttl
  pub class : a.class ≡ b.class

-- readers at the same position of the same octets, with states that are alike
pub record ReadersAreAlike (a b : RecordReader) : Type 0 where
  pub octets : a.octets.now ≡ b.octets.now
  pub source : a.source ≡ b.source
  pub state : AreAlike a.state b.state

-- calls that return the same, and leave states that are alike
pub record IsResultAlike (g h : EntryResult) : Type 0 where
  pub old : g.old ≡ h.old
  pub result : g.result ≡ h.result
  pub new : g.new ≡ h.new
  pub state : AreAlike g.state h.state

abbrev pub AreResultsAlike : List EntryResult → List EntryResult → Type 0
AreResultsAlike [] [] = ⊤
AreResultsAlike [] (h ∷ hs) = ⊥
AreResultsAlike (g ∷ gs) [] = ⊥
AreResultsAlike (g ∷ gs) (h ∷ hs) = IsResultAlike g h × AreResultsAlike gs hs

-- a line, if printed so, is read, and the data of any record surely fits
pub record ReadsHeadLine (room : Room) (before : State) (line : Line) (after : State) : Type 0 where
  pub end : ℕ
  pub tokens : List TokenSeen
  pub printed : ArePrinted line tokens
  pub old : List ℕ
  pub new : List ℕ
  pub fits : length old + max_data ≤ room.fits
  pub result : Result ParsedEntry RecordError
  pub reads : ReadsZoneEntry room false end tokens before old result after new

-- lines one after another, each read from the state that the one before left
abbrev pub AreReadInTurn : Room → State → List Line → State → Type 0
AreReadInTurn room before [] last = last ≡ before
AreReadInTurn room before (line ∷ lines) last = (middle : State) × ReadsHeadLine room before line middle × AreReadInTurn room middle lines last
