use Rattle.dns_wire.proofs.Chains.{composed_err, second_fits}
use Rattle.dns_name.specs.Chain.{left_of, right_of}
use Rattle.dns_name.proofs.chain.ChainToLabelIter.compose.Goals as goal

pub returns-in_err-compose-clause-err : goal.returns-in_err-compose-clause-err
returns-in_err-compose-clause-err g c = composed_err _ _ _ _ _ c.in_err-compose.ensures.err

pub returns-clause-fits : goal.returns-clause-fits
returns-clause-fits g c = λ h.
    c.compose-2.ensures.fits
    (second_fits (g.L.ToLabelIter.labels (left_of c.args.self.now)) (g.R.ToLabelIter.labels (right_of c.args.self.now)) _ _ _ c.in_ok-compose.ensures.ok h)
