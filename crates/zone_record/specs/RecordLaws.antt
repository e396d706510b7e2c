-- Laws of records that are printed and compared.
use Rattle.std.specs.Prelude.{ℕ, ◌≡◌, ◌≢◌, ◌↔◌, ◌<◌, ◌^◌, false, Option, List, [], ◌∷◌, slice_index}
use Rattle.std.specs.declared.cmp.Ordering.TheVariants.{Equal}
use Rattle.zone_record.specs.FieldForms.{CanonicalFields}
use Rattle.zone_record.specs.CanonicalRecords.{record_order}
use Rattle.rdata_values.specs.Classes.{SpellsClass}
use Rattle.rdata_values.specs.Ttl.{SpellsTtl}
use Rattle.rdata_values.specs.Types.{SpellsType}
use Rattle.rdata_values.specs.declared.types.RecordType.{RecordType}
use Rattle.rdata_tokens.specs.NameSpelling.{IsOrigin, IsWireName, SpellsName, at_sign}
use Rattle.rdata_tokens.specs.PrintedNames.{dollar}
use Rattle.rdata_tokens.specs.Spelling.{AreOctetValues}
use Rattle.dns_lexer.specs.EntryTokens.{TokenSeen}
use Rattle.dns_lexer.specs.Token.{IsWord}
use Rattle.dns_wire.specs.Wire.{wire, IsName}
use Rattle.rdata.specs.ByType.{SpellsTypeData}
use Rattle.rdata.specs.Rests.{ArePrinted}
use Rattle.zone_record.specs.CanonicalData.{fields_to_lower, canonical_data, canonical_with_ttl, record_key}
use Rattle.zone_record.specs.Records.{data_of, record_tokens}
use Rattle.zone_record.specs.TypeData.{IsTypeData}
use Rattle.zone_record.specs.declared.record.Record.{Record}

-- the values of a record: a name, numbers of 16 bits, and RDATA of the type
pub record AreRecordValues {N O : Type 0} (r : Record N O) : Type 0 where
  pub owner : IsWireName (wire r.owner)
  pub owner_is : IsName r.owner
  pub class : r.class < 2 ^ 16
  pub type : (data_of r).rtype < 2 ^ 16
  pub octets : AreOctetValues (data_of r).octets
  pub typed : IsTypeData (data_of r).rtype (data_of r).octets

-- words spell the owner, the TTL, the class and the type
pub record SpellsHead {N O : Type 0} (origin : Option (List (List ℕ))) (owner ttl class type : TokenSeen) (r : Record N O) : Type 0 where
  pub unquoted : (owner.is_quoted ≡ false) × (ttl.is_quoted ≡ false) × (class.is_quoted ≡ false) × (type.is_quoted ≡ false)
  pub owner_is : SpellsName origin owner.text (wire r.owner)
  pub ttl_is : SpellsTtl ttl.text r.ttl
  pub class_is : SpellsClass class.text r.class
  pub type_is : SpellsType type.text (data_of r).rtype

-- the first four tokens spell these, and those after them the RDATA
abbrev pub SpellsRecord : {N O : Type 0} → Option (List (List ℕ)) → List TokenSeen → Record N O → Type 0
SpellsRecord origin [] r = ⊥
SpellsRecord origin (owner ∷ []) r = ⊥
SpellsRecord origin (owner ∷ ttl ∷ []) r = ⊥
SpellsRecord origin (owner ∷ ttl ∷ class ∷ []) r = ⊥
SpellsRecord origin (owner ∷ ttl ∷ class ∷ type ∷ others) r = SpellsHead origin owner ttl class type r × SpellsTypeData origin (data_of r).rtype others (data_of r).octets

-- the tokens that a record prints as spell it, whatever the origin is, if its TTL is below 2^31
abbrev pub IsRecordReadBack : {N O : Type 0} → Record N O → Type 0
IsRecordReadBack r = (origin : Option (List (List ℕ))) (tokens : List TokenSeen) → IsOrigin origin → r.ttl < 2 ^ 31 → ArePrinted (record_tokens r) tokens → SpellsRecord origin tokens r

-- a word that is not the origin's sign and does not begin with that of a directive
pub record IsOwnerWord (text : List ℕ) : Type 0 where
  pub word : IsWord text
  pub no_origin : text ≢ at_sign ∷ []
  pub no_directive : slice_index text 0 ≢ dollar

-- ---- order

-- the order is equal exactly if the canonical forms are the same, with one TTL, whichever it is
abbrev pub IsTiedByForm : {N O M P : Type 0} → Record N O → Record M P → Type 0
IsTiedByForm a b = (ttl : ℕ) → (record_order (record_key a) (record_key b) ≡ Equal) ↔ (canonical_with_ttl ttl a ≡ canonical_with_ttl ttl b)

-- the names among the fields of a type are lowered, and all else is unchanged
abbrev pub HasCanonicalForm : RecordType → List ℕ → Type 0
HasCanonicalForm rtype octets = CanonicalFields (fields_to_lower rtype octets) octets (canonical_data rtype octets)
