use Rattle.std.proofs.Common.{arith}
use Rattle.dns_wire.proofs.Chains.{both_few}
use Rattle.dns_name.specs.UncertainChain.{second_in_chain}
use Rattle.dns_name.proofs.chain.uncertain.UncertainChainToLabelIter.label_count.Goals as goal

pub returns-in-Relative-clause-few : goal.returns-in-Relative-clause-few
returns-in-Relative-clause-few g c =
    let n = both_few c.in-Relative.name (g.R.ToLabelIter.labels (second_in_chain c.args.self.now)) (rw c.in-Relative.is at c.args.self.now.fits) in
    omega (arith, c.label_count-in-Relative.ensures.value, c.label_count-right.ensures.value)
