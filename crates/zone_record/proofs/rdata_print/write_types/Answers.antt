use Rattle.std.proofs.Common.{map, false, ap}
use Rattle.rdata_values.specs.Types.{portable_text}
use Rattle.zone_record.proofs.PrintedTokens.{more_printed, next_failed, on_err_of}
use Rattle.zone_record.proofs.rdata_print.write_types.Goals as goal

pub loop-rtype-preserved : goal.loop-rtype-preserved
loop-rtype-preserved g c = (
  tt,
  tt,
  more_printed _ _ _ _ _ _ _ _ _ c.loop-rtype.invariant.2 (ap (map (λ rtype. record { is_quoted = false; text = portable_text rtype })) c.in-Some.ensures.steps)
      c.in_ok-write_token.ensures.blocks c.in_ok-write_token.ensures.gives,
)

pub returns-in_err-write_token-clause-fails : goal.returns-in_err-write_token-clause-fails
returns-in_err-write_token-clause-fails g c =
    on_err_of c.from_residual.result
    (next_failed _ _ _ _ _ _ _ _ _ c.loop-rtype.invariant.2 (ap (map (λ rtype. record { is_quoted = false; text = portable_text rtype })) c.in-Some.ensures.steps)
    c.in_err-write_token.ensures.fails)
