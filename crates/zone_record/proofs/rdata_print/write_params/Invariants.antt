use Rattle.std.proofs.Common.{map}
use Rattle.rdata_svcb.specs.ShownParams.{param_text}
use Rattle.rdata.specs.GatewayKeys.{plain_word}
use Rattle.rdata.specs.ParamsRest.{params_form}
use Rattle.zone_record.proofs.PrintedTokens.{HasPrinted}
use Rattle.zone_record.proofs.rdata_print.write_params.Given as goal

-- the parameters so far are printed
abbrev pub invariant-loop-param : goal.invariant-loop-param
invariant-loop-param g l =
    (goal.iterator-loop-param g).can_next l.param-iterator
    × (goal.iterator-loop-param g).is_finite l.param-iterator
    × HasPrinted g.F.FormatWriter.blocks g.F.FormatWriter.step_gives l.initial.p (params_form.printed l.octets) (map (λ p. plain_word (param_text p)) l.param-iterator) l.p
