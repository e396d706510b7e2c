use Rattle.std.proofs.Common.{◌≡◌, ◌++◌}
use Rattle.zone_check.specs.OctetFindings.{octet_findings}
use Rattle.zone_check.proofs.OctetSteps.{rest_octets}
use Rattle.zone_check.proofs.octet_findings.append_reported.Given as goal

abbrev pub invariant-loop-remark : goal.invariant-loop-remark
invariant-loop-remark l = l.found.items ++ rest_octets l.reported l.remarks l.after_control_z l.remark-index ≡ l.initial.found.items ++ octet_findings l.reported l.remarks
