-- RDATA by the type of the record.
use Rattle.std.specs.Prelude.{ℕ, ◌≡◌, ◌≢◌, ◌⊎◌, ◌<◌, ◌==◌, find, Option, Some, None, option_map, slice_get, List, [], Ok, Err}
use Rattle.dns_octets.specs.Room.{Room}
use Rattle.dns_octets.specs.Appending.{Gains}
use Rattle.rdata_fields.specs.Source.{next_place}
use Rattle.dns_lexer.specs.EntryTokens.{TokenSeen}
use Rattle.rdata_values.specs.Rtype as Rtype
use Rattle.rdata_values.specs.declared.types.RecordType.{RecordType}
use Rattle.rdata_fields.specs.declared.record_error.FieldName.{FieldName}
use Rattle.rdata.specs.Data.{SpellsData, IsDataOf, ReadsData}
use Rattle.rdata.specs.Generic.{BeginsGeneric, SpellsGeneric, generic_form}
use Rattle.rdata.specs.Rests.{RefusesRest}
use Rattle.rdata.specs.Types.{TypeShape, type_shapes, row_shape}
use Rattle.rdata_fields.specs.TokenParsers.{TokenParser}
use Rattle.rdata_fields.specs.RecordErrors.{error_at, error_of_type}
use Rattle.rdata_fields.specs.declared.record_error.RecordError.{RecordError}
use Rattle.rdata_values.specs.declared.error.ErrorKind.TheVariants.{NotOfType, NoDataType, NoTextForm}
use Rattle.rdata.specs.declared.shape.Shape.{Shape}
use Rattle.rdata.specs.declared.types.TypeRow.{TypeRow}

-- records of the type can be in a zone
abbrev pub IsDataType : RecordType → Type 0
IsDataType rtype = (rtype ≢ 0) × (rtype ≢ Rtype.opt) × ((rtype < 128) ⊎ (255 < rtype))

-- a shape is that of a row
abbrev pub IsShapeOf : TypeShape → Shape → Type 0
IsShapeOf s shape = (shape.fields.now ≡ s.fields) × (shape.rest ≡ s.rest) × (shape.length ≡ s.lengths)

-- the shape of a type that has a text form
abbrev pub HasShape : Option TypeShape → Shape → Type 0
HasShape None shape = ⊥
HasShape (Some s) shape = IsShapeOf s shape

abbrev pub shape_of_code : RecordType → Option TypeShape
shape_of_code rtype = find (λ (s : TypeShape). s.rtype == rtype) type_shapes

-- tokens spell octets in the generic form, which are RDATA of the type if it has a text form
abbrev pub SpellsGenericData : Option TypeShape → List TokenSeen → List ℕ → Type 0
SpellsGenericData found tokens octets = SpellsGeneric tokens octets × ((shape : Shape) → HasShape found shape → IsDataOf shape octets)

-- tokens spell RDATA of a type: in the generic form, or in the type's own
abbrev pub SpellsTypeData : Option (List (List ℕ)) → RecordType → List TokenSeen → List ℕ → Type 0
SpellsTypeData origin rtype tokens octets =
    IsDataType rtype
    × (SpellsGenericData (shape_of_code rtype) tokens octets
    ⊎ ((BeginsGeneric tokens → ⊥) × ((shape : Shape) × HasShape (shape_of_code rtype) shape × SpellsData origin shape tokens octets)))

-- tokens in the generic form are rejected: they spell no octets, or octets that are not RDATA of the type
abbrev pub RefusesGeneric : Option TypeShape → Room → ℕ → List TokenSeen → List ℕ → RecordError → List TokenSeen → List ℕ → Type 0
RefusesGeneric found room end tokens old r left new =
    RefusesRest room generic_form end tokens old r left new
    ⊎ ((r ≡ error_at (next_place tokens end) NotOfType) × (left ≡ []) × Gains (λ o. SpellsGeneric tokens o × ((shape : Shape) × HasShape found shape × (IsDataOf shape o → ⊥))) old new)

abbrev pub ReadsGeneric : Option TypeRow → Room → TokenParser (Unit {0})
ReadsGeneric row room end tokens old (Ok _) left new = (left ≡ []) × Gains (SpellsGenericData (option_map row_shape row) tokens) old new
ReadsGeneric row room end tokens old (Err r) left new = RefusesGeneric (option_map row_shape row) room end tokens old r left new

-- the name of a field of RDATA by its index: the fields of one token each come first, and then those of the tail
abbrev pub name_of_field : Option TypeShape → FieldName → Option (List ℕ)
name_of_field None field = None
name_of_field (Some s) field = slice_get s.names field

-- why tokens are rejected as RDATA of a type, and which are then unread: no record of it can be in
-- a zone; or the tokens are in the generic form and are rejected; or the type has no other form; or
-- a field is rejected, and only then the error has a field
abbrev pub RefusesData : Option (List (List ℕ)) → Room → RecordType → ℕ → List TokenSeen → List ℕ → RecordError → List TokenSeen → List ℕ → Type 0
RefusesData origin room rtype end tokens old r left new =
    ((r ≡ error_at (next_place tokens end) NoDataType) × (left ≡ tokens) × (new ≡ old) × (IsDataType rtype → ⊥))
    ⊎ (IsDataType rtype × BeginsGeneric tokens × RefusesGeneric (shape_of_code rtype) room end tokens old r left new)
    ⊎ ((r ≡ error_at (next_place tokens end) NoTextForm) × (left ≡ tokens) × (new ≡ old) × (BeginsGeneric tokens → ⊥) × (shape_of_code rtype ≡ None) × IsDataType rtype)
    ⊎ ((BeginsGeneric tokens → ⊥) × ((shape : Shape) × HasShape (shape_of_code rtype) shape × ReadsData origin room shape end tokens old (Err r) left new) × IsDataType rtype)

-- all tokens are parsed, and the target gained the RDATA that they spell; or they are rejected
abbrev pub ParsesData : Option (List (List ℕ)) → Room → RecordType → TokenParser (Unit {0})
ParsesData origin room rtype end tokens old (Ok _) left new = (left ≡ []) × Gains (SpellsTypeData origin rtype tokens) old new
ParsesData origin room rtype end tokens old (Err r) left new = RefusesData origin room rtype end tokens old r left new

-- tokens are rejected, and the error has the type
abbrev pub RefusesType : Option (List (List ℕ)) → Room → RecordType → ℕ → List TokenSeen → List ℕ → RecordError → List TokenSeen → List ℕ → Type 0
RefusesType origin room rtype end tokens old r left new = (e : RecordError) × (r ≡ error_of_type rtype e) × RefusesData origin room rtype end tokens old e left new

abbrev pub ReadsType : Option (List (List ℕ)) → Room → RecordType → TokenParser (Unit {0})
ReadsType origin room rtype end tokens old (Ok x) left new = ParsesData origin room rtype end tokens old (Ok x) left new
ReadsType origin room rtype end tokens old (Err r) left new = RefusesType origin room rtype end tokens old r left new
