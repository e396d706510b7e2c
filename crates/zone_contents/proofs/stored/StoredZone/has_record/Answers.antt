use Rattle.std.proofs.Common.{false, true, arith, subst}
use Rattle.zone_contents.specs.Steps.{HasDistinct}
use Rattle.zone_contents.proofs.Distinct.{zone_has, zone_lacks}
use Rattle.zone_contents.proofs.stored.StoredZone.has_record.Goals as goal

pub returns-then-place-len : goal.returns-then-place-len
returns-then-place-len g c =
    subst (λ z. HasDistinct z c.args.place false) c.self.view_is
    (zone_lacks c.self.inside.apex c.self.inside.store c.self.invariant.records_are c.args.place (omega (arith, c.if-place-len.true, c.len.ensures.count)))

pub returns : goal.returns
returns g c =
    subst (λ z. HasDistinct z c.args.place true) c.self.view_is
    (zone_has c.self.inside.apex c.self.inside.store c.self.invariant.records_are c.args.place (omega (arith, c.if-place-len.false, c.len.ensures.count)))
