use Rattle.std.proofs.Common.{sym, ◌∙◌}
use Rattle.dns_wire.specs.Labelled.{wire_same}
use Rattle.zone_rules.proofs.names.view.Goals as goal

pub returns : goal.returns
returns g c = wire_same _ _ (sym c.name_of.ensures ∙ c.octets_of.ensures.value)
