use Rattle.std.proofs.Common.{map, ap}
use Rattle.rdata_svcb.specs.ShownParams.{param_text}
use Rattle.rdata.specs.GatewayKeys.{plain_word}
use Rattle.zone_record.proofs.PrintedTokens.{more_printed, next_failed, on_err_of}
use Rattle.zone_record.proofs.rdata_print.write_params.Goals as goal

pub loop-param-preserved : goal.loop-param-preserved
loop-param-preserved g c = (
  tt,
  tt,
  more_printed _ _ _ _ _ _ _ _ _ c.loop-param.invariant.2 (ap (map (λ p. plain_word (param_text p))) c.in-Some.ensures.steps) c.in_ok-write_token.ensures.blocks c.in_ok-write_token.ensures.gives,
)

pub returns-in_err-write_token-clause-fails : goal.returns-in_err-write_token-clause-fails
returns-in_err-write_token-clause-fails g c =
    on_err_of c.from_residual.result
    (next_failed _ _ _ _ _ _ _ _ _ c.loop-param.invariant.2 (ap (map (λ p. plain_word (param_text p))) c.in-Some.ensures.steps) c.in_err-write_token.ensures.fails)
