-- Data by type.
use Rattle.std.proofs.Common.{ℕ, Option, Some, ◌≡◌, List, [], ◌++◌, ◌∙◌, ◌+◌, ◌-◌, false, true, arith, length, length-append, take, drop, sym, ap, subst, inl, inr}
use Rattle.std.proofs.Math.Seq.{drop-append_seam}
use Rattle.std.proofs.lemmas.List.{take_all}
use Rattle.std.specs.Prelude.{Result, Ok, Err, option_map}
use Rattle.dns_octets.specs.Appending.{Gains}
use Rattle.dns_octets.specs.Room.{Room}
use Rattle.rdata_fields.specs.Source.{next_place}
use Rattle.dns_lexer.specs.EntryTokens.{TokenSeen}
use Rattle.rdata.specs.ByType.{IsDataType, IsShapeOf, HasShape, shape_of_code, SpellsGenericData, RefusesGeneric, ReadsGeneric, ParsesData}
use Rattle.rdata.specs.Data.{IsDataOf, HasLength}
use Rattle.rdata.specs.Generic.{BeginsGeneric, SpellsGeneric}
use Rattle.rdata.specs.RestKinds.{IsRestOf}
use Rattle.rdata.specs.Types.{TypeShape, row_shape}
use Rattle.rdata.specs.Wire.{BeginsWithFields}
use Rattle.rdata_fields.specs.RecordErrors.{error_at}
use Rattle.rdata_fields.specs.declared.record_error.RecordError.{RecordError}
use Rattle.rdata_values.specs.declared.error.ErrorKind.TheVariants.{NotOfType}
use Rattle.rdata.specs.declared.shape.Shape.{Shape}
use Rattle.rdata.specs.declared.types.TypeRow.{TypeRow}

pub generic_read : (origin : Option (List (List ℕ))) (room : Room) (rtype end : ℕ) (tokens : List TokenSeen) (old : List ℕ) (row : Option TypeRow) (r : Result (Unit {0}) RecordError) (left : List TokenSeen) (new : List ℕ)
    → option_map row_shape row ≡ shape_of_code rtype → IsDataType rtype → BeginsGeneric tokens → ReadsGeneric row room end tokens old r left new → ParsesData origin room rtype end tokens old r left new
generic_read origin room rtype end tokens old row (Ok x) left new found is mark h =
    (h.0, (h.1.0, (is, inl (subst (λ f. SpellsGenericData f tokens h.1.0) found h.1.1)), h.1.2))
generic_read origin room rtype end tokens old row (Err r) left new found is mark h =
    inr (inl (is, mark, subst (λ f. RefusesGeneric f room end tokens old r left new) found h))

pub has_shape : (found : Option TypeShape) (row : TypeRow) (shape : Shape) → Some (row_shape row) ≡ found → IsShapeOf (row_shape row) shape → HasShape found shape
has_shape found row shape is h = subst (λ f. HasShape f shape) is h

-- two shapes of one row have the same data
data_alike : (s : TypeShape) (a b : Shape) → IsShapeOf s a → IsShapeOf s b → (octets : List ℕ) → IsDataOf a octets → IsDataOf b octets
data_alike s a b x y octets d = record {
  back = d.back;
  fields = subst (λ f. BeginsWithFields f octets d.back) (x.0 ∙ sym y.0) d.fields;
  rest = subst (λ r. IsRestOf r d.back) (x.1 ∙ sym y.1) d.rest;
  lengths = subst (λ l. HasLength l octets) (x.2 ∙ sym y.2) d.lengths;
}

-- the octets that a target gained, as a slice from its former length on
gained_slice : (old new more xs ys : List ℕ) → ys ≡ old → xs ≡ new → new ≡ old ++ more → take (length xs - length ys) (drop (length ys) xs) ≡ more
gained_slice old new more xs ys before after is =
    let size : length xs ≡ length old + length more = ap length (after ∙ is) ∙ length-append old more in
    let begun : length ys ≡ length old = ap length before in
    let back : drop (length ys) xs ≡ more = ap (λ (n : ℕ). drop n xs) begun ∙ ap (drop (length old)) (after ∙ is) ∙ drop-append_seam old more in
    ap (take (length xs - length ys)) back ∙ take_all (length xs - length ys) more (omega (arith, size, begun))

-- octets in the generic form: RDATA of a row's shape, and octets that are not
pub generic_typed : (s : TypeShape) (shape : Shape) (tokens left : List TokenSeen) (old new xs ys : List ℕ) → IsShapeOf s shape → ys ≡ old → xs ≡ new → (left ≡ []) × Gains (SpellsGeneric tokens) old new
    → IsDataOf shape (take (length xs - length ys) (drop (length ys) xs)) → (left ≡ []) × Gains (SpellsGenericData (Some s) tokens) old new
generic_typed s shape tokens left old new xs ys is before after h own =
    let same = gained_slice old new h.1.0 xs ys before after h.1.2 in
    (h.0, (h.1.0, (h.1.1, λ other has. data_alike s shape other is has h.1.0 (subst (IsDataOf shape) same own)), h.1.2))

pub generic_mistyped : (s : TypeShape) (shape : Shape) (room : Room) (end at : ℕ) (tokens left : List TokenSeen) (old new xs ys : List ℕ) → IsShapeOf s shape → ys ≡ old → xs ≡ new → at ≡ next_place tokens end
    → (left ≡ []) × Gains (SpellsGeneric tokens) old new → (IsDataOf shape (take (length xs - length ys) (drop (length ys) xs)) → false ≡ true)
    → RefusesGeneric (Some s) room end tokens old (error_at at NotOfType) left new
generic_mistyped s shape room end at tokens left old new xs ys is before after place h refused =
    let same = gained_slice old new h.1.0 xs ys before after h.1.2 in
    let never : IsDataOf shape h.1.0 → ⊥ = λ own. (let bad : false ≡ true = refused (subst (IsDataOf shape) (sym same) own) in cc bad) in
    inr (ap (λ p. error_at p NotOfType) place, h.0, (h.1.0, (h.1.1, (shape, is, never)), h.1.2))
