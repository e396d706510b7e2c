use Rattle.std.proofs.Common.{◌∙◌}
use Rattle.zone_edit.proofs.serial.push_soa.Goals as goal

pub returns-in_ok-push_edit-in-Decimal-clause-ok : goal.returns-in_ok-push_edit-in-Decimal-clause-ok
returns-in_ok-push_edit-in-Decimal-clause-ok g c =
    let p = c.in_ok-push_edit-in-Decimal.ensures.ok in
    (p.0, p.1, p.2, p.3 ∙ c.in_ok-text-in-Decimal.ensures)
