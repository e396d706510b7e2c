use Rattle.std.proofs.Common.{◌-◌, ◌∙◌, length, min, refl, sym, ap, arith}
use Rattle.std.proofs.lemmas.Bool.{eqb-true, eqb-false}
use Rattle.dns_wire.proofs.Wires.{is_nil}
use Rattle.rdata.proofs.PrintedStrings.{next_string, no_string}
use Rattle.zone_record.proofs.PrintedTokens.{more_printed, all_printed, next_failed, on_err_of}
use Rattle.zone_record.proofs.rdata_print.write_strings.Goals as goal

pub loop-rest-preserved : goal.loop-rest-preserved
loop-rest-preserved g c =
    let rest = c.loop-rest.rest.now in
    let counted = c.min-count.ensures ∙ ap (λ n. min n (length rest - 1)) c.from.ensures in
    more_printed _ _ _ _ _ _ _ _ _ c.loop-rest.invariant
    (next_string rest c.min-count.result _ _ (omega (arith, eqb-false (length rest) 0 (sym c.loop-rest-test.ensures))) counted (omega arith) refl)
    c.in_ok-write_token.ensures.blocks c.in_ok-write_token.ensures.gives

pub returns-clause-gives : goal.returns-clause-gives
returns-clause-gives g c =
    let rest = c.loop-rest.rest.now in
    all_printed _ _ _ _ _ _ c.loop-rest.invariant (no_string rest (is_nil rest (eqb-true (length rest) 0 (sym c.loop-rest-test.ensures))))

pub returns-in_err-write_token-clause-fails : goal.returns-in_err-write_token-clause-fails
returns-in_err-write_token-clause-fails g c =
    let rest = c.loop-rest.rest.now in
    let counted = c.min-count.ensures ∙ ap (λ n. min n (length rest - 1)) c.from.ensures in
    on_err_of c.from_residual.result
    (next_failed _ _ _ _ _ _ _ _ _ c.loop-rest.invariant
    (next_string rest c.min-count.result _ _ (omega (arith, eqb-false (length rest) 0 (sym c.loop-rest-test.ensures))) counted (omega arith) refl)
    c.in_err-write_token.ensures.fails)
