-- Laws of what is read of an entry.
use Rattle.std.specs.Prelude.{◌≡◌, ◌≤◌, ◌+◌, ◌++◌, ℕ, false, List, length, Option, Some, None, Result, Ok}
use Rattle.dns_octets.specs.Room.{Room}
use Rattle.dns_wire.specs.Wire.{wire}
use Rattle.rdata_tokens.specs.NameSpelling.{IsOrigin}
use Rattle.dns_lexer.specs.EntryTokens.{TokenSeen}
use Rattle.rdata_fields.specs.Source.{next_place}
use Rattle.rdata_fields.specs.Parsing.{SpellsField}
use Rattle.rdata_fields.specs.declared.field.Field.TheVariants.{Name as OfName}
use Rattle.rdata_fields.specs.declared.record_error.RecordError.{RecordError}
use Rattle.rdata_values.specs.declared.classes.Class.{Class}
use Rattle.rdata_values.specs.declared.types.RecordType.{RecordType}
use Rattle.rdata.specs.ByType.{SpellsTypeData}
use Rattle.zone_reader.specs.EntryMeanings.{EntryMeans, says_record}
use Rattle.zone_reader.specs.declared.header.RecordHeader.{RecordHeader}
use Rattle.zone_reader.specs.EntryReading.{ReadsZoneEntry}
use Rattle.zone_reader.specs.Past.{known_name}
use Rattle.zone_reader.specs.declared.entry.ParsedEntry.{ParsedEntry}
use Rattle.zone_reader.specs.declared.entry.ParsedEntry.TheVariants.{Record}
use Rattle.zone_reader.specs.declared.known.NameState.TheVariants.{Name}
use Rattle.zone_reader.specs.declared.state.State.{State}
use Rattle.zone_reader.specs.declared.ttl.RecordTtl.TheVariants.{Explicit}

-- A record that is read, with an absolute owner, a TTL and a class of its own, has these in every
-- state.
abbrev pub FullRecordsAreIndependent : Type 0
FullRecordsAreIndependent = (room : Room) (end : ℕ) (tokens left : List TokenSeen) (t : TokenSeen) (w : RecordHeader) (ttl : ℕ) (class : Class) (labels : List (List ℕ)) (before after : State) (old new : List ℕ) (e : ParsedEntry)
    → EntryMeans false end tokens (says_record (Some t) (Ok w) left) → w.ttl ≡ Some ttl → w.class ≡ Some class → SpellsField None OfName t (wire labels) → ReadsZoneEntry room false end tokens before old (Ok e) after new
    → (e ≡ Record (next_place tokens end) (next_place left end) end (Explicit ttl) class w.rtype) × (after.owner ≡ Name labels)

-- The tokens of a record with all its parts: an absolute owner, a TTL, a class, a type, and data of that type whatever the origin is.
pub record IsWholeRecord (end : ℕ) (tokens : List TokenSeen) (labels : List (List ℕ)) (ttl : ℕ) (class : Class) (rtype : RecordType) (octets : List ℕ) : Type 0 where
  pub owner : TokenSeen
  pub behind : List TokenSeen
  pub says : EntryMeans false end tokens (says_record (Some owner) (Ok (record { ttl = Some ttl; class = Some class; rtype = rtype })) behind)
  pub owner_is : SpellsField None OfName owner (wire labels)
  pub «data» : (origin : Option (List (List ℕ))) → IsOrigin origin → SpellsTypeData origin rtype behind octets

-- From every state it is read as it is written, and not rejected, if the octets of its data surely fit.
abbrev pub WholeRecordsAreIndependent : Type 0
WholeRecordsAreIndependent = (room : Room) (end : ℕ) (tokens : List TokenSeen) (labels : List (List ℕ)) (ttl : ℕ) (class : Class) (rtype : RecordType) (octets : List ℕ) → (whole : IsWholeRecord end tokens labels ttl class rtype octets)
    → (before after : State) (old new : List ℕ) (result : Result ParsedEntry RecordError) → IsOrigin (known_name before.origin) → length old + length octets ≤ room.fits → ReadsZoneEntry room false end tokens before old result after new
    → (result ≡ Ok (Record (next_place tokens end) (next_place whole.behind end) end (Explicit ttl) class rtype)) × (after.owner ≡ Name labels) × (new ≡ old ++ octets)
