use Rattle.std.proofs.Common.{◌<◌, ◌+◌, length, sym, subst}
use Rattle.zone_record.specs.TypeData.{IsTypeData}
use Rattle.zone_record.proofs.CanonicalForms.{form_lacks}
use Rattle.zone_record.proofs.data.Data.append_canonical.Goals as goal

pub returns-in-Err-clause-err : goal.returns-in-Err-clause-err
returns-in-Err-clause-err g c =
    let room = g.B.OctetsBuilder.room in
    let old = g.B.AsOctets.octets c.args.target.now in
    let octets = c.as_slice.result.now in
    let coded = subst (λ k. IsTypeData k c.args.self.now.octets) (sym c.rtype.ensures) c.as_slice.ensures.is_data in
    let own = subst (IsTypeData c.rtype.result) (sym c.as_slice.ensures.value) coded in
    subst (λ o. room.fits < length old + length o) c.as_slice.ensures.value (form_lacks room c.rtype.result octets old c.in-Err.field-0 own c.in-Err.ensures.err)
