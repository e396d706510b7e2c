use Rattle.dns_wire.proofs.Chains.{composed_err, second_fits}
use Rattle.dns_name.specs.UncertainChain.{second_in_chain}
use Rattle.dns_name.proofs.chain.uncertain.UncertainChainToLabelIter.compose.Goals as goal

pub returns-in_err-compose-in-Relative-clause-err :
    goal.returns-in_err-compose-in-Relative-clause-err
returns-in_err-compose-in-Relative-clause-err g c =
    rw c.in-Relative.is (composed_err _ c.in-Relative.name (g.R.ToLabelIter.labels (second_in_chain c.args.self.now)) _ _ c.in_err-compose-in-Relative.ensures.err)

pub returns-in_ok-compose-in-Relative-clause-fits :
    goal.returns-in_ok-compose-in-Relative-clause-fits
returns-in_ok-compose-in-Relative-clause-fits g c = λ h.
    c.compose-in-Relative-2.ensures.fits
    (second_fits c.in-Relative.name (g.R.ToLabelIter.labels (second_in_chain c.args.self.now)) _ _ _ c.in_ok-compose-in-Relative.ensures.ok (rw c.in-Relative.is at h))
