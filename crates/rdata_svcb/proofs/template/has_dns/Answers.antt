use Rattle.std.proofs.Common.{sym}
use Rattle.rdata_svcb.proofs.Templates.{any_more, any_found}
use Rattle.rdata_svcb.proofs.template.has_dns.Goals as goal

pub loop-left-preserved : goal.loop-left-preserved
loop-left-preserved c = any_more _ _ _ _ _ c.split_first-split.ensures.split (rw c.in-Some.is at c.loop-left.invariant) (sym c.if-is_named_dns.ensures)

pub returns-then-is_named_dns : goal.returns-then-is_named_dns
returns-then-is_named_dns c = any_found _ _ _ _ _ c.split_first-split.ensures.split (rw c.in-Some.is at c.loop-left.invariant) (sym c.if-is_named_dns.ensures)
