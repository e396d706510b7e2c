use Rattle.std.proofs.Common.{◌-◌, ◌≡◌, ◌++◌, length, drop}
use Rattle.dns_octets.specs.Appending.{Extends}
use Rattle.server_config.specs.ZonePaths.{expanded_path}
use Rattle.server_config.proofs.zone_path.append_expanded.Given as goal

abbrev pub invariant-loop-at : goal.invariant-loop-at
invariant-loop-at g l = record {
  made : l.out.items ++ expanded_path l.name (drop l.at l.path) ≡ l.initial.out.items ++ expanded_path l.name l.path;
  extends : Extends l.initial.out.items l.out.items;
}

abbrev pub decreases-loop-at : goal.decreases-loop-at
decreases-loop-at g l = length l.path - l.at
