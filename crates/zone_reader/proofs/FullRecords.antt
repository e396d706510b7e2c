-- Records that don't depend on the state before them.
use Rattle.std.proofs.Common.{ℕ, ◌≡◌, false, List, [], Option, Some, None, Result, Ok, Err, refl, sym, subst, ap, ◌∙◌}
use Rattle.std.specs.Prelude.{unwrap_or}
use Rattle.dns_octets.specs.Room.{Room}
use Rattle.dns_wire.specs.Wire.{wire}
use Rattle.dns_lexer.specs.EntryTokens.{TokenSeen}
use Rattle.rdata_fields.specs.Source.{next_place}
use Rattle.rdata_fields.specs.Parsing.{SpellsField}
use Rattle.rdata_fields.specs.declared.field.Field.TheVariants.{Name as OfName}
use Rattle.rdata_fields.specs.declared.record_error.RecordError.{RecordError}
use Rattle.rdata_values.specs.declared.classes.Class.{Class}
use Rattle.zone_reader.specs.EntryMeanings.{says_record}
use Rattle.zone_reader.specs.declared.header.RecordHeader.{RecordHeader}
use Rattle.zone_reader.proofs.EntryLaws.{entries_say_once}
use Rattle.zone_reader.specs.EntryReading.{ReadsDataAfterHeader, ReadsMeaning, ReadsOwner, ReadsAfterHeader, record_with}
use Rattle.zone_reader.specs.Learning.{chosen_ttl}
use Rattle.zone_reader.specs.Past.{NewOwner, no_origin_said, owner_declared, owner_said_last}
use Rattle.zone_reader.specs.ReadingLaws.{FullRecordsAreIndependent}
use Rattle.zone_reader.specs.declared.entry.ParsedEntry.{ParsedEntry}
use Rattle.zone_reader.specs.declared.entry.ParsedEntry.TheVariants.{Record}
use Rattle.zone_reader.specs.declared.known.NameState.{NameState}
use Rattle.zone_reader.specs.declared.known.NameState.TheVariants.{Name}
use Rattle.zone_reader.specs.declared.state.State.{State}
use Rattle.zone_reader.specs.declared.ttl.RecordTtl.TheVariants.{Explicit}
use Rattle.zone_reader.proofs.PastStates.{owners_alone}
use Rattle.zone_reader.proofs.Pasts.{said_alone}

module _ (room : Room) (at end : ℕ) (left : List TokenSeen) (t : TokenSeen) (w : RecordHeader) (ttl : ℕ) (class : Class) (labels : List (List ℕ)) (before : State) (old new : List ℕ) (own : w.ttl ≡ Some ttl) (said : w.class ≡ Some class)
    (absolute : SpellsField None OfName t (wire labels)) where
  pub full : record_with before at (next_place left end) end w (chosen_ttl w.ttl before.default_ttl before.last_ttl None) ≡ Ok (Record at (next_place left end) end (Explicit ttl) class w.rtype)
  full = ap (λ o. record_with before at (next_place left end) end w (chosen_ttl o before.default_ttl before.last_ttl None)) own ∙ ap (λ c. Ok (Record at (next_place left end) end (Explicit ttl) (unwrap_or c before.class) w.rtype)) said

  pub any_minimum : (own_ttl minimum : Option ℕ) → own_ttl ≡ Some ttl → chosen_ttl own_ttl before.default_ttl before.last_ttl minimum ≡ chosen_ttl own_ttl before.default_ttl before.last_ttl None
  any_minimum own_ttl minimum is = ap (λ o. chosen_ttl o before.default_ttl before.last_ttl minimum) is ∙ ap (λ o. chosen_ttl o before.default_ttl before.last_ttl None) (sym is)

  the_record : (e : ParsedEntry) (r : Result (Unit {0}) RecordError) → ReadsDataAfterHeader before at (next_place left end) end w old r new (Ok e) → e ≡ Record at (next_place left end) end (Explicit ttl) class w.rtype
  the_record e (Err x) h = cc
  the_record e (Ok u) h = let is = h.2.2 ∙ ap (record_with before at (next_place left end) end w) (any_minimum w.ttl h.2.0 own) ∙ full in cc

  pub the_owner : (known : NameState) → ReadsOwner before at (Some t) (Ok tt) known → known ≡ Name labels
  the_owner known h = h.1 ∙ owners_alone.absolute t labels before [] (Name h.0) absolute
      (owner_said_last (Some t) (said_alone owner_declared (NewOwner (Some t)) (Some t) refl) before.origin (no_origin_said [] before.origin tt refl) h.2)

  stands_alone : (e : ParsedEntry) (known : NameState) (first : Result (Unit {0}) RecordError) → ReadsOwner before at (Some t) first known → ReadsAfterHeader before room at end first (Ok w) left old (Ok e) new
      → (e ≡ Record at (next_place left end) end (Explicit ttl) class w.rtype) × (known ≡ Name labels)
  stands_alone e known (Err x) o h = let no = h.0 in cc
  stands_alone e known (Ok u) o h = (the_record e h.0 h.3, the_owner known o)

pub full_records_alone : FullRecordsAreIndependent
full_records_alone room end tokens left t w ttl class labels before after old new e says own said absolute h =
    let same = entries_say_once false end tokens h.meaning (says_record (Some t) (Ok w) left) h.says says in
    let reads = subst (λ m. ReadsMeaning before room end tokens m old (Ok e) after.owner new) same h.reads in
    stands_alone room (next_place tokens end) end left t w ttl class labels before old new own said absolute e after.owner reads.0 reads.1 reads.2
