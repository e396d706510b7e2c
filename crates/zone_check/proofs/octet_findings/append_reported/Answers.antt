use Rattle.std.proofs.Common.{arith}
use Rattle.zone_check.proofs.NameSteps.{all_found}
use Rattle.zone_check.proofs.OctetSteps.{next_remark, none_left}
use Rattle.zone_check.proofs.octet_findings.append_reported.Goals as goal

pub loop-remark-preserved : goal.loop-remark-preserved
loop-remark-preserved c =
    next_remark c.args.reported c.args.remarks.now c.loop-remark.remark-index _ (omega arith) c.loop-remark.after_control_z _ c.is_reported-is_it.result c.finding_if.result c.loop-remark.found.items c.append_any.new.found.items _
    c.is_reported-is_it.ensures c.finding_if.ensures c.in_ok-append_any.ensures c.has_control_z-after_control_z.ensures c.loop-remark.invariant

pub returns : goal.returns
returns c = all_found c.loop-remark.found.items _ _ (none_left c.args.reported c.args.remarks.now c.loop-remark.after_control_z c.loop-remark.remark-index (omega arith)) c.loop-remark.invariant
