use Rattle.std.proofs.Common.{◌++◌, length, ap, ◌∙◌}
use Rattle.std.proofs.lemmas.Result.{on_ok_weaker, on_err_weaker}
use Rattle.zone_record.proofs.CanonicalForms.{record_gained, record_lacks}
use Rattle.zone_record.proofs.record.Record.append_canonical.Goals as goal

pub returns-clause-ok : goal.returns-clause-ok
returns-clause-ok g c =
    let octets = g.B.AsOctets.octets in
    let first = octets c.append_lowered.new.target in
    on_ok_weaker c.append_canonical.result
    (record_gained c.args.self.now c.as_slice.ensures.is_data (octets c.args.target.now) first (octets c.append_slice.new.self) (octets c.append_canonical.new.target) c.name_octets.result.now c.rtype-rtype.result
    (length c.as_slice.result.now) c.name_octets.ensures.value c.rtype-rtype.ensures (ap length c.as_slice.ensures.value) c.in_ok-append_lowered.ensures.ok
    (c.in_ok-append_slice.ensures.ok ∙ ap (λ m. first ++ m) c.middle_octets.ensures))
    c.append_canonical.ensures.ok

pub returns-clause-err : goal.returns-clause-err
returns-clause-err g c =
    let octets = g.B.AsOctets.octets in
    on_err_weaker c.append_canonical.result
    (record_lacks c.args.self.now c.as_slice.ensures.is_data g.B.OctetsBuilder.room (octets c.args.target.now) (octets c.append_lowered.new.target) (octets c.append_slice.new.self) c.name_octets.result.now
    c.middle_octets.result c.name_octets.ensures.value c.in_ok-append_lowered.ensures.ok c.in_ok-append_slice.ensures.ok (ap length c.middle_octets.ensures))
    c.append_canonical.ensures.err
