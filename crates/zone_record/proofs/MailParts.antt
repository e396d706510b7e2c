-- The parts of data of MX.
use Rattle.std.proofs.Common.{ℕ, ◌≡◌, ◌<◌, ◌+◌, ◌*◌, ◌/◌, ◌%◌, Option, Some, None, List, [], ◌∷◌, get_or, refl, sym, ap, subst, ◌∙◌, arith}
use Rattle.std.specs.Prelude.{codes}
use Rattle.std.specs.Int.{to_be_bytes, w16}
use Rattle.std.proofs.lemmas.List.Elements.{recursion_from_All}
use Rattle.rdata_tokens.specs.NameSpelling.{IsWireName}
use Rattle.rdata_fields.specs.Words.{AreOctetsOf}
use Rattle.rdata_fields.specs.declared.field.Field.TheVariants.{Number16, Name}
use Rattle.rdata.specs.ByType.{HasShape, shape_of_code}
use Rattle.rdata_values.specs.Rtype as Rtype
use Rattle.rdata.specs.Types.{TypeShape, type_shape, type_shapes}
use Rattle.rdata.specs.declared.rest.Rest.TheVariants.{Nothing}
use Rattle.rdata.specs.declared.shape.LengthRule.TheVariants.{Any}
use Rattle.zone_record.specs.CanonicalData.{fields_of_shape}
use Rattle.zone_record.specs.Parts.{data_part, field_part}
use Rattle.zone_record.specs.TypeData.{IsTypeData, TypeData}
use Rattle.zone_record.proofs.CanonicalForms.{front_cut}
use Rattle.zone_record.proofs.DataBack.{shape_with}

abbrev mail_shape : TypeShape
mail_shape = type_shape Rtype.mx (Number16 ∷ Name ∷ []) Nothing Any (codes "preference" ∷ codes "exchange" ∷ [])

mail_found : shape_of_code Rtype.mx ≡ Some mail_shape
unfolding type_shapes
mail_found = refl

-- a preference, and after it a name
pub record AreMailParts (d : TypeData) : Type 0 where
  pub preference : List ℕ
  pub exchange : List ℕ
  pub two : AreOctetsOf 2 preference
  pub name : IsWireName exchange
  pub first : data_part d 0 ≡ Some preference
  pub second : data_part d 1 ≡ Some exchange

mail_parts_of : (octets : List ℕ) → IsTypeData Rtype.mx octets → AreMailParts (record { rtype = Rtype.mx; octets = octets })
mail_parts_of octets is =
    let own = is.shaped (shape_with mail_shape) (subst (λ f. HasShape f (shape_with mail_shape)) (sym mail_found) (refl, refl, refl)) in
    let begins = own.fields in
    let cut = front_cut Number16 octets begins.0 begins.1 begins.3 begins.2 in
    let behind = begins.4 in
    let name_cut = front_cut Name begins.1 behind.0 behind.1 behind.3 behind.2 in
    record {
      preference = begins.0;
      exchange = behind.0;
      two = begins.3;
      name = behind.3;
      first = ap (λ f. field_part (fields_of_shape f) 0 octets) mail_found ∙ ap Some cut.0;
      second = ap (λ f. field_part (fields_of_shape f) 1 octets) mail_found ∙ ap (field_part (Name ∷ []) 0) cut.1 ∙ ap Some name_cut.0;
    }

pub mail_parts : (d : TypeData) → d.rtype ≡ Rtype.mx → IsTypeData d.rtype d.octets → AreMailParts d
mail_parts d same is = subst (λ c. AreMailParts (record { rtype = c; octets = d.octets })) (sym same) (mail_parts_of d.octets (subst (λ c. IsTypeData c d.octets) same is))

-- a part that is found is that one
some_same : (x y : List ℕ) → Some x ≡ Some y → x ≡ y
some_same x y h = cc

pub first_two : (d : TypeData) (octets : List ℕ) → d.rtype ≡ Rtype.mx → IsTypeData d.rtype d.octets → data_part d 0 ≡ Some octets → AreOctetsOf 2 octets
first_two d octets same is found = let parts = mail_parts d same is in subst (AreOctetsOf 2) (some_same parts.preference octets (sym parts.first ∙ found)) parts.two

pub second_name : (d : TypeData) (octets : List ℕ) → d.rtype ≡ Rtype.mx → IsTypeData d.rtype d.octets → data_part d 1 ≡ Some octets → IsWireName octets
second_name d octets same is found = let parts = mail_parts d same is in subst IsWireName (some_same parts.exchange octets (sym parts.second ∙ found)) parts.name

none_some : (x : List ℕ) (o : Option (List ℕ)) → o ≡ None → o ≡ Some x → ⊥
none_some x o h k = cc

pub has_parts : (d : TypeData) → d.rtype ≡ Rtype.mx → IsTypeData d.rtype d.octets → (data_part d 0 ≡ None → ⊥) × (data_part d 1 ≡ None → ⊥)
has_parts d same is =
    let parts = mail_parts d same is in (λ none. none_some parts.preference (data_part d 0) none parts.first, λ none. none_some parts.exchange (data_part d 1) none parts.second)

-- the octets of a number of 16 bits are these two
pub two_octets : (octets : List ℕ) (number : ℕ) → AreOctetsOf 2 octets → number ≡ get_or octets 0 0 * 256 + get_or octets 1 0 → octets ≡ to_be_bytes w16 number
two_octets [] number h is = absurd (omega (arith, h.0))
two_octets (a ∷ []) number h is = absurd (omega (arith, h.0))
two_octets (a ∷ b ∷ []) number h is =
    let small = recursion_from_All (λ o. o < 256) (a ∷ b ∷ []) h.1 in
    let first : a ≡ number / 256 % 256 = omega (arith, is, small.0, small.1.0) in
    let second : b ≡ number % 256 = omega (arith, is, small.0, small.1.0) in
    λ i. first i ∷ second i ∷ []
two_octets (a ∷ b ∷ c ∷ more) number h is = absurd (omega (arith, h.0))
