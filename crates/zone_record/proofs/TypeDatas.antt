-- Data of types by their rows.
use Rattle.std.proofs.Common.{ℕ, ◌≡◌, ◌≤◌, ◌⊎◌, Option, Some, None, List, sym, ap, subst, ◌∙◌, arith, length, inl, inr}
use Rattle.rdata_tokens.specs.NameSpelling.{IsOrigin}
use Rattle.dns_lexer.specs.EntryTokens.{TokenSeen}
use Rattle.rdata.specs.ByType.{IsDataType, IsShapeOf, HasShape, shape_of_code, SpellsGenericData, SpellsTypeData}
use Rattle.rdata.specs.Data.{HasLength, IsDataOf, SpellsData}
use Rattle.rdata.specs.Generic.{BeginsGeneric}
use Rattle.rdata.specs.Limits.{max_data}
use Rattle.rdata.specs.Printing.{printed_data, printed_with}
use Rattle.rdata.specs.RestKinds.{IsRestOf}
use Rattle.rdata.specs.RestLaws.{HoldOctets}
use Rattle.rdata.specs.Types.{TypeShape, row_shape}
use Rattle.rdata.specs.Wire.{BeginsWithFields}
use Rattle.rdata.specs.declared.shape.Shape.{Shape}
use Rattle.rdata.specs.declared.types.TypeRow.{TypeRow}
use Rattle.rdata.proofs.DataForms.{data_are_spelled}
use Rattle.rdata.proofs.Textless.{text_is_data}
use Rattle.rdata.proofs.TypeLaws.{has_shape}
use Rattle.zone_record.specs.DataTokens.{data_tokens, tokens_of_shape}
use Rattle.zone_record.specs.TypeData.{IsTypeData}
use Rattle.zone_record.specs.WireErrors.{RefusesWire}
use Rattle.zone_record.specs.declared.error.WireError.{WireError}
use Rattle.zone_record.specs.declared.error.WireError.TheVariants.{NoDataType, LongData, NotOfType}

-- all shapes of a type have the same data
same_data : (found : Option TypeShape) (a b : Shape) (octets : List ℕ) → HasShape found a → HasShape found b → IsDataOf a octets → IsDataOf b octets
same_data None a b octets h k own = absurd h
same_data (Some s) a b octets h k own = record {
  back = own.back;
  fields = subst (λ fs. BeginsWithFields fs octets own.back) (h.0 ∙ sym k.0) own.fields;
  rest = subst (λ r. IsRestOf r own.back) (h.1 ∙ sym k.1) own.rest;
  lengths = subst (λ l. HasLength l octets) (h.2 ∙ sym k.2) own.lengths;
}

-- data of a type without a row, and with one
pub without_row : (rtype : ℕ) (octets : List ℕ) → IsDataType rtype → length octets ≤ max_data → None ≡ shape_of_code rtype → IsTypeData rtype octets
without_row rtype octets is short none = record { in_zones = is; short = short; shaped = λ shape has. absurd (subst (λ f. HasShape f shape) (sym none) has) }

pub with_row : (rtype : ℕ) (octets : List ℕ) (row : TypeRow) (shape : Shape) → IsDataType rtype → length octets ≤ max_data → Some (row_shape row) ≡ shape_of_code rtype → IsShapeOf (row_shape row) shape → IsDataOf shape octets
    → IsTypeData rtype octets
with_row rtype octets row shape is short found same own = record {
  in_zones = is;
  short = short;
  shaped = λ other has. same_data (shape_of_code rtype) shape other octets (has_shape (shape_of_code rtype) row shape found same) has own;
}

pub no_data_of_row : (rtype : ℕ) (octets : List ℕ) (row : TypeRow) (shape : Shape) → IsDataType rtype → length octets ≤ max_data → Some (row_shape row) ≡ shape_of_code rtype → IsShapeOf (row_shape row) shape
    → (IsDataOf shape octets → ⊥) → RefusesWire rtype octets NotOfType
no_data_of_row rtype octets row shape is short found same other = (is, short, (shape, has_shape (shape_of_code rtype) row shape found same, other))

-- what is rejected is not RDATA of the type
pub refused_is_none : (rtype : ℕ) (octets : List ℕ) (e : WireError) → RefusesWire rtype octets e → IsTypeData rtype octets → ⊥
refused_is_none rtype octets NoDataType h is = h is.in_zones
refused_is_none rtype octets LongData h is = omega (arith, h.1, is.short)
refused_is_none rtype octets NotOfType h is = h.2.2 (is.shaped h.2.0 h.2.1)

-- what tokens spell is data of the type
pub spelled_is_type_data : (origin : Option (List (List ℕ))) (rtype : ℕ) (tokens : List TokenSeen) (octets : List ℕ) → IsOrigin origin → HoldOctets tokens → length octets ≤ max_data → SpellsTypeData origin rtype tokens octets
    → IsTypeData rtype octets
spelled_is_type_data origin rtype tokens octets known held short sp = record { in_zones = sp.0; short = short; shaped = by sp.1 }
  where
    by : SpellsGenericData (shape_of_code rtype) tokens octets ⊎ ((BeginsGeneric tokens → ⊥) × ((shape : Shape) × HasShape (shape_of_code rtype) shape × SpellsData origin shape tokens octets)) → (shape : Shape) → HasShape (shape_of_code rtype) shape → IsDataOf shape octets
    by (inl generic) shape has = generic.1 shape has
    by (inr own) shape has =
        let spelled : Shape = own.1.0 in
        same_data (shape_of_code rtype) spelled shape octets own.1.1 has (text_is_data spelled octets ((data_are_spelled origin known spelled).are_data tokens octets held own.1.2))

-- the tokens of a row
pub row_tokens : (rtype : ℕ) (octets : List ℕ) (row : TypeRow) (shape : Shape) → Some (row_shape row) ≡ shape_of_code rtype → IsShapeOf (row_shape row) shape → printed_data shape octets ≡ data_tokens rtype octets
row_tokens rtype octets row shape found same =
    ap (λ fs. printed_with fs shape.rest octets) same.0 ∙ ap (λ r. printed_with (row_shape row).fields r octets) same.1 ∙ ap (λ f. tokens_of_shape f octets) found
