use Rattle.std.proofs.Common.{◌≡◌, ap, map, subst, ◌∙◌}
use Rattle.dns_octets.specs.Lowered.{lowered}
use Rattle.dns_wire.specs.Wire.{wire}
use Rattle.zone_contents.proofs.ZoneNames.{apex_lower}
use Rattle.zone_contents.proofs.zone_key.Apex.octets.Goals as goal

pub returns-clause-value : goal.returns-clause-value
returns-clause-value c = c.as_slice.ensures.value ∙ c.self.invariant.octets_are ∙ ap wire c.self.view_is

pub returns-clause-lower : goal.returns-clause-lower
returns-clause-lower c = subst (λ n. map lowered n ≡ n) c.self.view_is (apex_lower c.self.inside.key c.self.inside.octets.items c.self.invariant)
