-- The order of RDATA of types that have no text form here.
use Rattle.std.specs.Prelude.{◌≡◌, ℕ, List}
use Rattle.std.specs.declared.cmp.Ordering.{Ordering}
use Rattle.rdata_values.specs.declared.types.RecordType.{RecordType}
use Rattle.zone_record.specs.FieldForms.{CanonicalFields}
use Rattle.zone_record.specs.Names.{octet_order}
use Rattle.zone_record.specs.EmbeddedNames.{lowered_between, fields_to_last_name}
use Rattle.zone_record.specs.declared.embedded_names.NameSpan.{NameSpan}

-- octets with those of the names in lower case
abbrev pub lower_names : NameSpan → List ℕ → List ℕ
lower_names names octets = lowered_between names.start names.end octets

-- the canonical form of RDATA of a type
abbrev pub IsUntextedForm : RecordType → List ℕ → List ℕ → Type 0
IsUntextedForm rtype octets form = CanonicalFields (fields_to_last_name rtype octets) octets form

-- it has the octets of the names in lower case
abbrev pub LowersUntexted : RecordType → List ℕ → NameSpan → Type 0
LowersUntexted rtype octets names = (form : List ℕ) → IsUntextedForm rtype octets form → form ≡ lower_names names octets

-- the order of the canonical forms
abbrev pub IsUntextedOrder : RecordType → List ℕ → List ℕ → Ordering → Type 0
IsUntextedOrder rtype left right order = (a b : List ℕ) → IsUntextedForm rtype left a → IsUntextedForm rtype right b → order ≡ octet_order a b
