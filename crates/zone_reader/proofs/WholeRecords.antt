-- Records with all their parts are read as they are written.
use Rattle.std.proofs.Common.{ℕ, ◌≡◌, ◌≤◌, ◌<◌, ◌+◌, false, List, [], ◌∷◌, ◌++◌, length, Option, Some, None, Result, Ok, Err, refl, subst, ap, ◌∙◌, arith, inl, inr}
use Rattle.dns_octets.specs.Room.{Room}
use Rattle.rdata_tokens.specs.declared.kind.DigitsKind.TheVariants.{Hex}
use Rattle.dns_wire.specs.Wire.{wire}
use Rattle.rdata_tokens.specs.NameSpelling.{IsOrigin}
use Rattle.dns_lexer.specs.EntryTokens.{TokenSeen}
use Rattle.rdata_fields.specs.Source.{next_place}
use Rattle.rdata_fields.specs.Parsing.{SpellsField}
use Rattle.rdata_fields.specs.declared.field.Field.TheVariants.{Name as OfName}
use Rattle.rdata.specs.ByType.{HasShape, ReadsType, RefusesData, RefusesGeneric, SpellsGenericData, SpellsTypeData, shape_of_code}
use Rattle.rdata.specs.Data.{IsDataOf}
use Rattle.rdata.specs.Generic.{ExceedsGeneric, SpellsGeneric}
use Rattle.rdata.specs.Types.{TypeShape}
use Rattle.rdata_fields.specs.declared.record_error.RecordError.{RecordError}
use Rattle.rdata_values.specs.declared.classes.Class.{Class}
use Rattle.rdata_values.specs.declared.types.RecordType.{RecordType}
use Rattle.rdata.specs.declared.shape.Shape.{Shape}
use Rattle.rdata.proofs.DataErrors.{same_spelled}
use Rattle.rdata.proofs.GenericLaws.{begins_so, generic_once}
use Rattle.rdata.proofs.Joinings.{digits_exceeded}
use Rattle.rdata.proofs.OneSpelling.{type_once}
use Rattle.zone_reader.specs.EntryMeanings.{says_record}
use Rattle.zone_reader.specs.declared.header.RecordHeader.{RecordHeader}
use Rattle.zone_reader.proofs.EntryLaws.{entries_say_once}
use Rattle.zone_reader.specs.EntryReading.{NamesOrRefuses, ReadsDataAfterHeader, ReadsMeaning, ReadsOwner, ReadsAfterHeader, record_with}
use Rattle.zone_reader.specs.Past.{known_name}
use Rattle.zone_reader.specs.ReadingLaws.{WholeRecordsAreIndependent}
use Rattle.zone_reader.specs.declared.entry.ParsedEntry.{ParsedEntry}
use Rattle.zone_reader.specs.declared.entry.ParsedEntry.TheVariants.{Record}
use Rattle.zone_reader.specs.declared.known.NameState.{NameState}
use Rattle.zone_reader.specs.declared.known.NameState.TheVariants.{Name}
use Rattle.zone_reader.specs.declared.state.State.{State}
use Rattle.zone_reader.specs.declared.ttl.RecordTtl.TheVariants.{Explicit}
use Rattle.zone_reader.proofs.FullRecords.{any_minimum, full, the_owner}
use Rattle.zone_reader.proofs.NamesTaken.{no_name}
use Rattle.zone_reader.proofs.PastStates.{name_alone}

-- ---- data of a type isn't rejected if it surely fits

generic_exceeded : (room : Room) (tokens left : List TokenSeen) (old octets : List ℕ) → ExceedsGeneric room tokens left old → SpellsGeneric tokens octets → room.fits < length old + length octets
generic_exceeded room [] left old octets h s = absurd h
generic_exceeded room (mark ∷ []) left old octets h s = absurd h
generic_exceeded room (mark ∷ count ∷ digits) left old octets h s = digits_exceeded Hex room digits left old octets h.2 s.2

module _ (origin : Option (List (List ℕ))) (room : Room) (rtype : RecordType) (end : ℕ) (tokens : List TokenSeen) (octets old : List ℕ) (fits : length old + length octets ≤ room.fits) (r : RecordError) (left : List TokenSeen) (new : List ℕ) where
  generic_taken : (found : Option TypeShape) → SpellsGenericData found tokens octets → RefusesGeneric found room end tokens old r left new → ⊥
  generic_taken found h (inl k) = elim k.why [ inl lacks ↦ (let over = generic_exceeded room tokens left old octets lacks.1 h.0 in omega (arith, fits, over)) | inr none ↦ none.1 octets h.0 ]
  generic_taken found h (inr k) =
      let gained = k.2 in
      let other = gained.1 in
      let same : octets ≡ gained.0 = generic_once tokens octets gained.0 h.0 other.0 in
      other.1.2 (subst (IsDataOf other.1.0) same (h.1 other.1.0 other.1.1))

  type_taken : SpellsTypeData origin rtype tokens octets → RefusesData origin room rtype end tokens old r left new → ⊥
  type_taken h (inl k) = k.3 h.0
  type_taken h (inr (inl k)) = elim h.1 [ inl generic ↦ generic_taken (shape_of_code rtype) generic k.2 | inr own ↦ own.0 k.1 ]
  type_taken h (inr (inr (inl k))) =
      elim h.1 [ inl generic ↦ k.3 (begins_so tokens octets generic.0) | inr own ↦ subst (λ f. HasShape f own.1.0) k.4 own.1.1 ]
  type_taken h (inr (inr (inr k))) =
      let shape : Shape = k.1.0 in
      elim h.1 [
        | inl generic ↦ k.0 (begins_so tokens octets generic.0)
        | inr own ↦ (let spelled = same_spelled origin tokens (shape_of_code rtype) own.1.0 shape octets own.1.1 k.1.1 own.1.2 in omega (arith, fits, (k.1.2.1 octets spelled).1))
      ]

-- ---- records

module _ (room : Room) (at end : ℕ) (behind : List TokenSeen) (t : TokenSeen) (w : RecordHeader) (ttl : ℕ) (class : Class) (labels : List (List ℕ)) (octets : List ℕ) (before : State) (old new : List ℕ) (own : w.ttl ≡ Some ttl) (said : w.class ≡ Some class)
    (absolute : SpellsField None OfName t (wire labels)) (known : IsOrigin (known_name before.origin)) (spelled : SpellsTypeData (known_name before.origin) w.rtype behind octets) (fits : length old + length octets ≤ room.fits)
    (result : Result ParsedEntry RecordError) where
  abbrev IsTheRecord : Type 0
  IsTheRecord = (result ≡ Ok (Record at (next_place behind end) end (Explicit ttl) class w.rtype)) × (new ≡ old ++ octets)

  owner_taken : (r : RecordError) → NamesOrRefuses (known_name before.origin) t (Err r) → ⊥
  owner_taken r h = no_name (known_name before.origin) (t ∷ []) r.kind h.1 (wire labels) (absolute.0, name_alone (known_name before.origin) t.text (wire labels) absolute.1)

  data_read : (r : Result (Unit {0}) RecordError) (left : List TokenSeen) → ReadsType (known_name before.origin) room w.rtype end behind old r left new → ReadsDataAfterHeader before at (next_place behind end) end w old r new result → IsTheRecord
  data_read (Err r) left h k = absurd (type_taken (known_name before.origin) room w.rtype end behind octets old fits h.0 left new spelled h.2)
  data_read (Ok u) left h k =
      let gained = h.1 in
      let same : gained.0 ≡ octets = type_once (known_name before.origin) behind w.rtype gained.0 octets gained.1 spelled in (
        k.2.2 ∙ ap (record_with before at (next_place behind end) end w) (any_minimum room at end behind t w ttl class labels before old new own said absolute w.ttl k.2.0 own) ∙ full room at end behind t w ttl class labels before old new own said absolute,
        gained.2 ∙ ap (λ o. old ++ o) same,
      )

  read_whole : (owner : NameState) (first : Result (Unit {0}) RecordError) → ReadsOwner before at (Some t) first owner → ReadsAfterHeader before room at end first (Ok w) behind old result new → IsTheRecord × (owner ≡ Name labels)
  read_whole owner (Err x) h k = absurd (owner_taken x h.1)
  read_whole owner (Ok u) h k = (data_read k.0 k.1 k.2 k.3, the_owner room at end behind t w ttl class labels before old new own said absolute owner h)

pub whole_records_alone : WholeRecordsAreIndependent
whole_records_alone room end tokens labels ttl class rtype octets says before after old new result known fits h =
    let w : RecordHeader = record { ttl = Some ttl; class = Some class; rtype = rtype } in
    let same = entries_say_once false end tokens h.meaning (says_record (Some says.owner) (Ok w) says.behind) h.says says.says in
    let reads = subst (λ m. ReadsMeaning before room end tokens m old result after.owner new) same h.reads in
    let all = read_whole room (next_place tokens end) end says.behind says.owner w ttl class labels octets before old new refl refl says.owner_is known (says.«data» (known_name before.origin) known) fits result after.owner reads.0 reads.1 reads.2 in
    (all.0.0, all.1, all.0.1)
