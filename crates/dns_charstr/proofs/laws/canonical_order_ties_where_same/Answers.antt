use Rattle.std.proofs.lemmas.Cmp.{on_total, nat_list_cmp_total}
use Rattle.dns_charstr.specs.Wire.{wire_of}
use Rattle.dns_charstr.proofs.Alike.{wire_tied, wire_ties}
use Rattle.dns_charstr.proofs.laws.canonical_order_ties_where_same.Goals as goal

pub returns-clause-same : goal.returns-clause-same
returns-clause-same c = (λ h. wire_tied c.args.left.now c.args.right.now h, λ h. wire_ties c.args.left.now c.args.right.now h)

pub returns-clause-total : goal.returns-clause-total
returns-clause-total c = on_total wire_of nat_list_cmp_total
