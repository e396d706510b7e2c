use Rattle.std.proofs.lemmas.Result.{on_ok_weaker}
use Rattle.zone_record.proofs.CanonicalForms.{form_gained}
use Rattle.zone_record.proofs.canonical.append_canonical_data.Goals as goal

pub returns-clause-ok : goal.returns-clause-ok
returns-clause-ok g c =
    let old = g.B.AsOctets.octets c.args.target.now in
    on_ok_weaker c.append_canonical_fields.result (form_gained c.args.rtype c.lowered_fields.result.now c.args.octets.now old _ c.lowered_fields.ensures) c.append_canonical_fields.ensures.ok
