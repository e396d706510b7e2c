use Rattle.dns_name.specs.Uncertain.{same_uncertain_hash}
use Rattle.dns_name.proofs.Equal.{equal_is, is_equal}
use Rattle.dns_name.proofs.laws.equal_names.Goals as goal

pub returns-clause-equal : goal.returns-clause-equal
returns-clause-equal g c = (equal_is c.args.left.now c.args.right.now, is_equal c.args.left.now c.args.right.now)

pub returns-clause-hash : goal.returns-clause-hash
returns-clause-hash g c = same_uncertain_hash c.args.left.now c.args.right.now
