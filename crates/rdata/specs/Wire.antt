-- Fields at the start of octets.
use Rattle.std.specs.Prelude.{ℕ, None, ◌≡◌, List, [], ◌∷◌, ◌++◌}
use Rattle.rdata_fields.specs.Fields.{field_form}
use Rattle.rdata_fields.specs.declared.field.Field.{Field}

-- octets begin with those of the fields, one after another, and then the rest follows
abbrev pub BeginsWithFields : List Field → List ℕ → List ℕ → Type 0
BeginsWithFields [] octets rest = octets ≡ rest
BeginsWithFields (f ∷ fs) octets rest = (form : List ℕ) × (more : List ℕ) × (octets ≡ form ++ more) × (field_form None f).is_wire form × BeginsWithFields fs more rest
