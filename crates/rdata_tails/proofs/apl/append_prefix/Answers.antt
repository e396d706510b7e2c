use Rattle.std.proofs.Common.{◌∙◌}
use Rattle.rdata_tails.proofs.PrefixLemmas.{err_and, not_spelled, no_room}
use Rattle.rdata_tails.proofs.apl.append_prefix.Goals as goal

pub returns-in_err-prefix-clause-why : goal.returns-in_err-prefix-clause-why
returns-in_err-prefix-clause-why g c =
    err_and c.from_residual.result _ _ c.from_residual.ensures.1
    (λ e is. not_spelled g.B.OctetsBuilder.room c.args.text.now (g.B.AsOctets.octets c.args.target.now) e (is ∙ c.in_err-prefix.ensures.0) c.in_err-prefix.ensures.1)

pub returns-in_err-compose-clause-why : goal.returns-in_err-compose-clause-why
returns-in_err-compose-clause-why g c =
    err_and c.from_residual-in_err-compose.result _ _ c.from_residual-in_err-compose.ensures.1
    (λ e is. no_room g.B.OctetsBuilder.room c.args.text.now (g.B.AsOctets.octets c.args.target.now) c.in_ok-prefix.prefix e is c.in_ok-prefix.ensures c.in_err-compose.ensures.why)
