use Rattle.std.proofs.Common.{[], ◌∷◌, sym, ap, ◌∙◌}
use Rattle.std.specs.Prelude.{codes}
use Rattle.dns_wire.specs.Labelled.{wire_same}
use Rattle.zone_rules.specs.Above.{is_below}
use Rattle.zone_rules.proofs.FieldNames.{ip6_wire}
use Rattle.zone_rules.proofs.host_names.is_below_ip6.Goals as goal

pub name_of-requires : goal.name_of-requires
name_of-requires c = ip6_wire

pub returns : goal.returns
returns c = c.is_name_below.ensures ∙ ap (is_below c.args.name.now) (wire_same c.name_of.result (codes "ip6" ∷ codes "arpa" ∷ [] ∷ []) (sym c.name_of.ensures))
