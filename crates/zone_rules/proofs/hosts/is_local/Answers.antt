use Rattle.std.proofs.Common.{[], ◌∷◌, sym, ap, ◌∙◌}
use Rattle.std.specs.Prelude.{codes}
use Rattle.dns_wire.specs.Labelled.{wire_same}
use Rattle.zone_rules.specs.Above.{is_within}
use Rattle.zone_rules.proofs.FieldNames.{localhost_wire}
use Rattle.zone_rules.proofs.hosts.is_local.Goals as goal

pub name_of-requires : goal.name_of-requires
name_of-requires c = localhost_wire

pub returns : goal.returns
returns c = c.is_name_within.ensures ∙ ap (is_within c.args.name.now) (wire_same c.name_of.result (codes "localhost" ∷ [] ∷ []) (sym c.name_of.ensures))
