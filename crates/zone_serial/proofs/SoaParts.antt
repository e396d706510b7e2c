-- The serial in the data of an SOA.
use Rattle.std.proofs.Common.{ℕ, ◌≡◌, Some, List, [], ◌∷◌, refl, sym, ap, subst, ◌∙◌}
use Rattle.std.specs.Prelude.{codes}
use Rattle.rdata_values.specs.Rtype as Rtype
use Rattle.rdata_fields.specs.Words.{AreOctetsOf}
use Rattle.rdata_fields.specs.declared.field.Field.TheVariants.{Interval, Name, Number32}
use Rattle.rdata.specs.ByType.{HasShape, shape_of_code}
use Rattle.rdata.specs.Types.{TypeShape, type_shape, type_shapes}
use Rattle.rdata.specs.declared.rest.Rest.TheVariants.{Nothing}
use Rattle.rdata.specs.declared.shape.LengthRule.TheVariants.{Any}
use Rattle.zone_record.specs.CanonicalData.{fields_of_shape}
use Rattle.zone_record.specs.Parts.{data_part, field_part}
use Rattle.zone_record.specs.TypeData.{IsTypeData, TypeData}
use Rattle.zone_record.proofs.CanonicalForms.{front_cut}
use Rattle.zone_record.proofs.DataBack.{shape_with}

abbrev soa_shape : TypeShape
soa_shape =
    type_shape Rtype.soa (Name ∷ Name ∷ Number32 ∷ Interval ∷ Interval ∷ Interval ∷ Interval ∷ []) Nothing Any
    (codes "primary server" ∷ codes "mailbox" ∷ codes "serial" ∷ codes "refresh" ∷ codes "retry" ∷ codes "expire" ∷ codes "minimum" ∷ [])

soa_found : shape_of_code Rtype.soa ≡ Some soa_shape
unfolding type_shapes
soa_found = refl

-- four octets after two names
record HasSerial (d : TypeData) : Type 0 where
  pub serial : List ℕ
  pub four : AreOctetsOf 4 serial
  pub third : data_part d 2 ≡ Some serial

soa_parts_of : (octets : List ℕ) → IsTypeData Rtype.soa octets → HasSerial (record { rtype = Rtype.soa; octets = octets })
soa_parts_of octets is =
    let own = is.shaped (shape_with soa_shape) (subst (λ f. HasShape f (shape_with soa_shape)) (sym soa_found) (refl, refl, refl)) in
    let host = own.fields in
    let cut = front_cut Name octets host.0 host.1 host.3 host.2 in
    let mailbox = host.4 in
    let mail_cut = front_cut Name host.1 mailbox.0 mailbox.1 mailbox.3 mailbox.2 in
    let number = mailbox.4 in
    let number_cut = front_cut Number32 mailbox.1 number.0 number.1 number.3 number.2 in
    let behind_host = Name ∷ Number32 ∷ Interval ∷ Interval ∷ Interval ∷ Interval ∷ [] in
    let behind_mailbox = Number32 ∷ Interval ∷ Interval ∷ Interval ∷ Interval ∷ [] in
    record {
      serial = number.0;
      four = number.3;
      third = ap (λ f. field_part (fields_of_shape f) 2 octets) soa_found ∙ ap (field_part behind_host 1) cut.1 ∙ ap (field_part behind_mailbox 0) mail_cut.1 ∙ ap Some number_cut.0;
    }

soa_parts : (d : TypeData) → d.rtype ≡ Rtype.soa → IsTypeData d.rtype d.octets → HasSerial d
soa_parts d same is = subst (λ c. HasSerial (record { rtype = c; octets = d.octets })) (sym same) (soa_parts_of d.octets (subst (λ c. IsTypeData c d.octets) same is))

some_same : (x y : List ℕ) → Some x ≡ Some y → x ≡ y
some_same x y h = cc

-- the octets at that offset are four
pub serial_four : (d : TypeData) (octets : List ℕ) → d.rtype ≡ Rtype.soa → IsTypeData d.rtype d.octets → data_part d 2 ≡ Some octets → AreOctetsOf 4 octets
serial_four d octets same is found = let parts = soa_parts d same is in subst (AreOctetsOf 4) (some_same parts.serial octets (sym parts.third ∙ found)) parts.four
