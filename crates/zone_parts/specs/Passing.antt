-- What passing an entry leaves, without parsing RDATA.
use Rattle.std.specs.Prelude.{◌≡◌, ◌≢◌, ◌||◌, ◌⊎◌, ℕ, Bool, true, false, is_some, List, [], ◌∷◌, drop, slice_get, Option, Some, None, Result, Ok, Err}
use Rattle.dns_octets.specs.Room.{Room}
use Rattle.dns_lexer.specs.EntryTokens.{TokenSeen}
use Rattle.rdata_fields.specs.declared.record_error.RecordError.{RecordError}
use Rattle.zone_reader.specs.Directives.{first_directive}
use Rattle.zone_reader.specs.EntryReading.{ReadsZoneEntry}
use Rattle.zone_reader.specs.HeaderWords.{FindsWord, TokenIsClass, TokenIsTtl}
use Rattle.zone_reader.specs.Past.{NamedBy}
use Rattle.zone_reader.specs.declared.entry.ParsedEntry.{ParsedEntry}
use Rattle.zone_reader.specs.declared.entry.ParsedEntry.TheVariants.{Include, Generate}
use Rattle.zone_reader.specs.declared.known.NameState.{NameState}
use Rattle.zone_reader.specs.declared.state.State.{State}
use Rattle.zone_parts.specs.declared.pass_error.PassError.{PassError}
use Rattle.zone_parts.specs.declared.pass_error.PassError.TheVariants.{Directive as OfDirective, Include as OfInclude, Generate as OfGenerate}

-- a default TTL or a last one is known, so that no minimum of an SOA is used
abbrev pub knows_ttl : State → Bool
knows_ttl s = is_some s.default_ttl || is_some s.last_ttl

abbrev pub begins_directive : Bool → List TokenSeen → Bool
begins_directive blank tokens = is_some (first_directive blank tokens)

-- the value that the next token spells, if it spells one of this kind
abbrev pub FindsNextWord : (TokenSeen → ℕ → Type 0) → List TokenSeen → Option ℕ → Type 0
FindsNextWord Says [] found = found ≡ None
FindsNextWord Says (t ∷ ts) found = FindsWord Says t found

abbrev pub IsClassNext : List TokenSeen → Type 0
IsClassNext [] = ⊥
IsClassNext (t ∷ ts) = (class : ℕ) × TokenIsClass t class

-- the TTL of a record by the tokens after its owner: the first spells it, or the first spells no TTL but a class, and the second spells it; or there is none
abbrev pub FindsTtl : List TokenSeen → Option ℕ → Type 0
FindsTtl tokens found =
    ((ttl : ℕ) × FindsNextWord TokenIsTtl tokens (Some ttl) × (found ≡ Some ttl))
    ⊎ (FindsNextWord TokenIsTtl tokens None × (IsClassNext tokens → ⊥) × (found ≡ None))
    ⊎ (FindsNextWord TokenIsTtl tokens None × IsClassNext tokens × FindsNextWord TokenIsTtl (drop 1 tokens) found)

-- a name that is parsed, if a token is there: the one that it spells, or rejected
abbrev pub NamesNext : Option (List (List ℕ)) → List TokenSeen → NameState → Type 0
NamesNext origin tokens name = tokens ≢ [] → NamedBy origin (slice_get tokens 0) name

-- whether an entry that was read keeps the file from being read in parts: it includes a file or generates entries, or is a rejected directive
abbrev pub outcome : Bool → Result ParsedEntry RecordError → Result (Unit {0}) PassError
outcome directive (Ok (Include at end count named)) = Err (OfInclude at)
outcome directive (Ok (Generate at end)) = Err (OfGenerate at)
outcome directive (Ok _) = Ok tt
outcome true (Err error) = Err (OfDirective error)
outcome false (Err error) = Ok tt

-- whatever is read of the entry, and wherever its RDATA goes, it leaves this state
abbrev pub LeavesAlways : Bool → ℕ → List TokenSeen → State → State → Type 0
LeavesAlways blank end tokens before after =
    (room : Room) (old new : List ℕ) (result : Result ParsedEntry RecordError) (other : State) → ReadsZoneEntry room blank end tokens before old result other new → other ≡ after

-- An entry is passed. Either it was read, and left the state; or it is a record, and any reading of it leaves the state.
pub data PassesZoneEntry (room : Room) (blank : Bool) (end : ℕ) (tokens : List TokenSeen) (before : State) (old : List ℕ) (result : Result (Unit {0}) PassError) (after : State) (new : List ℕ) : Type 0 where
  was_read : (read : Result ParsedEntry RecordError) → ReadsZoneEntry room blank end tokens before old read after new → result ≡ outcome (begins_directive blank tokens) read → PassesZoneEntry room blank end tokens before old result after new
  was_passed : begins_directive blank tokens ≡ false → LeavesAlways blank end tokens before after → result ≡ Ok tt → new ≡ old → PassesZoneEntry room blank end tokens before old result after new
