-- The fields of RDATA, one after another.
use Rattle.std.proofs.Common.{ℕ, zero, suc, ◌≡◌, ◌≢◌, ◌<◌, ◌+◌, ◌-◌, Some, List, ◌∷◌, length, take, drop, get_or, refl, sym, ap, subst, ◌∙◌, arith}
use Rattle.std.proofs.lemmas.List.{drop_more, take-append-drop, take_all, length-drop}
use Rattle.rdata_tokens.specs.Forms.{FindsWidth}
use Rattle.rdata_fields.specs.declared.field.Field.{Field}
use Rattle.zone_record.specs.FieldForms.{IsFieldWire, StartsWithFields}
use Rattle.rdata.specs.ByType.{IsShapeOf, shape_of_code}
use Rattle.rdata.specs.Types.{row_shape}
use Rattle.rdata.specs.declared.shape.Shape.{Shape}
use Rattle.rdata.specs.declared.types.TypeRow.{TypeRow}
use Rattle.rdata.proofs.TypeLaws.{has_shape}
use Rattle.zone_record.specs.Parts.{field_part}
use Rattle.zone_record.specs.TypeData.{IsTypeData}
use Rattle.zone_record.proofs.CanonicalForms.{front_cut, begins_start}
use Rattle.zone_record.proofs.CanonicalOrders.{front_same}

-- the part that is looked for is the one at an index among the fields that are left
pub record PartWalk (fields more : List Field) (place count : ℕ) (octets rest : List ℕ) : Type 0 where
  pub starts : StartsWithFields more rest
  pub same : field_part fields place octets ≡ field_part more count rest

pub next_part : (fields : List Field) (i : ℕ) (d : Field) (place count : ℕ) (octets rest : List ℕ) → PartWalk fields (drop i fields) place count octets rest → i < length fields
    → PartWalk fields (get_or fields i d ∷ drop (i + 1) fields) place count octets rest
next_part fields i d place count octets rest w lt = subst (λ l. PartWalk fields l place count octets rest) (drop_more fields i d lt) w

-- the first field is the part
pub part_found : (fields : List Field) (f : Field) (more : List Field) (place count : ℕ) (octets rest : List ℕ) (width : ℕ) → PartWalk fields (f ∷ more) place count octets rest → count ≡ 0 → FindsWidth (IsFieldWire f) rest (Some width)
    → field_part fields place octets ≡ Some (take width rest)
part_found fields f more place count octets rest width w none found =
    let cut = front_cut f rest (take width rest) (drop width rest) found.1 (sym (take-append-drop width rest)) in
    w.same ∙ ap (λ n. field_part (f ∷ more) n rest) none ∙ ap Some cut.0

-- and otherwise it is passed
pub part_passed : (fields : List Field) (f : Field) (more : List Field) (place count : ℕ) (octets rest : List ℕ) (width left : ℕ) → PartWalk fields (f ∷ more) place count octets rest → count ≢ 0 → FindsWidth (IsFieldWire f) rest (Some width)
    → left ≡ length rest - width → PartWalk fields more place (count - 1) octets (take left (drop width rest))
part_passed fields f more place zero octets rest width left w some found long = absurd (some refl)
part_passed fields f more place (suc count) octets rest width left w some found long =
    let h = w.starts in
    let cut = front_cut f rest (take width rest) (drop width rest) found.1 (sym (take-append-drop width rest)) in
    let same = front_same f (take width rest) h.0 (drop width rest) h.1 found.1 h.2 (take-append-drop width rest ∙ h.3) in
    let all : take left (drop width rest) ≡ drop width rest = take_all left (drop width rest) (omega (arith, long, length-drop width rest)) in
    let fewer : suc count - 1 ≡ count = omega arith in record {
      starts = subst (StartsWithFields more) (sym (all ∙ same.1)) h.4;
      same = w.same ∙ ap (field_part more count) (cut.1 ∙ sym all) ∙ ap (λ n. field_part more n (take left (drop width rest))) (sym fewer);
    }

-- data of a type with a row begins with the fields of the row
pub row_starts : (rtype : ℕ) (octets : List ℕ) (row : TypeRow) (shape : Shape) → Some (row_shape row) ≡ shape_of_code rtype → IsShapeOf (row_shape row) shape → IsTypeData rtype octets → StartsWithFields shape.fields.now octets
row_starts rtype octets row shape found same is =
    let own = is.shaped shape (has_shape (shape_of_code rtype) row shape found same) in begins_start shape.fields.now octets own.back own.fields
