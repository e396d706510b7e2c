use Rattle.std.proofs.Common.{◌≡◌}
use Rattle.server_config.specs.ZonePaths.{end_label}
use Rattle.server_config.proofs.zone_path.end_label.Given as goal

abbrev pub invariant-loop-left : goal.invariant-loop-left
invariant-loop-left l = end_label l.left l.rest ≡ end_label l.index l.name

abbrev pub decreases-loop-left : goal.decreases-loop-left
decreases-loop-left l = l.left
