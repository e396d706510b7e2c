use Rattle.std.proofs.Common.{None, subst, sym}
use Rattle.rdata_fields.specs.Fields.{field_form}
use Rattle.rdata.proofs.Sizes.{surely_wire}
use Rattle.rdata.proofs.shown_fields.FieldTextDisplay.fmt.Goals as goal

pub write_field-requires : goal.write_field-requires
write_field-requires g c =
    let t = c.args.self.now in
    subst (field_form None t.field).is_wire (sym c.as_slice-octets.ensures.value) (surely_wire t.field t.octets.now c.as_slice-octets.ensures.bytes t.is_wire)
