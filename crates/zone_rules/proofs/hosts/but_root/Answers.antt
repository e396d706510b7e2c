use Rattle.std.proofs.Common.{sym}
use Rattle.zone_rules.proofs.NameParts.{root_left_out, other_kept}
use Rattle.zone_rules.proofs.hosts.but_root.Goals as goal

pub returns-in-Some : goal.returns-in-Some
returns-in-Some c = sym (other_kept c.args.name _ (sym c.in-Some.ensures))

pub returns-in-None : goal.returns-in-None
returns-in-None c = sym (root_left_out c.args.name (sym c.in-None.ensures))
