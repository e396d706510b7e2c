use Rattle.std.proofs.Common.{◌≡◌, drop}
use Rattle.std.specs.List.{list_any}
use Rattle.zone_check.specs.EntryFindings.{is_control_z_finding}
use Rattle.zone_check.proofs.entry_findings.has_control_z.Given as goal

abbrev pub invariant-loop-finding : goal.invariant-loop-finding
invariant-loop-finding l = list_any is_control_z_finding (drop l.finding-index l.found) ≡ list_any is_control_z_finding l.found
