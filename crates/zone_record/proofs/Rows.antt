-- A worked row of the canonical form of data.
use Rattle.std.proofs.Common.{ℕ, ◌<◌, [], ◌∷◌, refl, arith}
use Rattle.std.specs.Prelude.{All}
use Rattle.std.proofs.lemmas.List.Elements.{All-nil, All-cons}
use Rattle.dns_wire.specs.Wire.{IsPlain}
use Rattle.dns_wire.proofs.Wires.{IsName-absolute}
use Rattle.rdata_tokens.specs.NameSpelling.{IsWireName}
use Rattle.rdata_fields.specs.declared.field.Field.TheVariants.{Number16, Name as OfName}
use Rattle.zone_record.specs.FieldForms.{CanonicalFields}

abbrev IsOctet : ℕ → Type 0
IsOctet o = o < 256

two_octets : (a b : ℕ) → a < 256 → b < 256 → All IsOctet (a ∷ b ∷ [])
two_octets a b h k = All-cons IsOctet a (b ∷ []) h (All-cons IsOctet b [] k (All-nil IsOctet))

-- the name `A.`
short_name : IsWireName (1 ∷ 65 ∷ 0 ∷ [])
short_name = record {
  labels = (65 ∷ []) ∷ [] ∷ [];
  is_name = IsName-absolute ((65 ∷ []) ∷ []) (All-cons IsPlain (65 ∷ []) [] (omega arith, omega arith) (All-nil IsPlain)) (omega arith);
  absolute = ((65 ∷ []) ∷ [], refl);
  values = All-cons IsOctet 1 (65 ∷ 0 ∷ []) (omega arith) (two_octets 65 0 (omega arith) (omega arith));
  whole = refl;
}

-- a number, which is unchanged, a name in lower case, and an octet after both
data_row : CanonicalFields (Number16 ∷ OfName ∷ []) (65 ∷ 66 ∷ 1 ∷ 65 ∷ 0 ∷ 67 ∷ []) (65 ∷ 66 ∷ 1 ∷ 97 ∷ 0 ∷ 67 ∷ [])
data_row = (
  65 ∷ 66 ∷ [],
  1 ∷ 65 ∷ 0 ∷ 67 ∷ [],
  1 ∷ 97 ∷ 0 ∷ 67 ∷ [],
  (refl, two_octets 65 66 (omega arith) (omega arith)),
  refl,
  refl,
  (1 ∷ 65 ∷ 0 ∷ [], 67 ∷ [], 67 ∷ [], short_name, refl, refl, refl),
)
