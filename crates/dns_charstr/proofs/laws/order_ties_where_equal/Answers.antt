use Rattle.std.proofs.lemmas.Cmp.{on_total, nat_list_cmp_total}
use Rattle.dns_octets.specs.Lowered.{lowered}
use Rattle.dns_charstr.proofs.Alike.{tied_same, same_tied}
use Rattle.dns_charstr.proofs.laws.order_ties_where_equal.Goals as goal

pub returns-clause-order : goal.returns-clause-order
returns-clause-order c =
    (λ h. tied_same (lowered c.args.left.now) (lowered c.args.right.now) h, λ h. same_tied (lowered c.args.left.now) (lowered c.args.right.now) h)

pub returns-clause-total : goal.returns-clause-total
returns-clause-total c = on_total lowered nat_list_cmp_total
