-- Laws of canonical forms of RDATA.
use Rattle.std.specs.Prelude.{◌≡◌, ◌↔◌, ℕ, List, ◌++◌}
use Rattle.rdata_fields.specs.declared.field.Field.{Field}
use Rattle.rdata_values.specs.declared.types.RecordType.{RecordType}
use Rattle.zone_record.specs.FieldForms.{StartsWithFields, CanonicalFields}
use Rattle.zone_record.specs.EmbeddedNames.{fields_to_last_name}

-- octets have a canonical form exactly if they begin with the fields
abbrev pub HasFormWhereBegun : List Field → List ℕ → Type 0
HasFormWhereBegun fields octets = StartsWithFields fields octets ↔ ((form : List ℕ) × CanonicalFields fields octets form)

-- this holds for each canonical form, by the fields, the octets and the form
abbrev pub EachForm : (List Field → List ℕ → List ℕ → Type 0) → Type 0
EachForm Is = (fields : List Field) (octets form : List ℕ) → CanonicalFields fields octets form → Is fields octets form

-- octets have no other canonical form
abbrev pub IsOnlyForm : List Field → List ℕ → List ℕ → Type 0
IsOnlyForm fields octets form = (other : List ℕ) → CanonicalFields fields octets other → form ≡ other

-- octets after the fields are unchanged
abbrev pub KeepsOctetsAfterFields : List Field → List ℕ → List ℕ → Type 0
KeepsOctetsAfterFields fields octets form = (more : List ℕ) → CanonicalFields fields (octets ++ more) (form ++ more)

-- RDATA of any type begins with its untexted fields
abbrev pub StartsUntexted : RecordType → List ℕ → Type 0
StartsUntexted rtype octets = StartsWithFields (fields_to_last_name rtype octets) octets
