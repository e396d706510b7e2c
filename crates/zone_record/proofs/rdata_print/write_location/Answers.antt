use Rattle.std.proofs.Common.{List, subst, arith}
use Rattle.dns_zone.specs.Writers.{WritesSteps}
use Rattle.zone_record.specs.RdataPrinting.{FailsInSteps, token_steps}
use Rattle.rdata.specs.Rests.{PrintedToken}
use Rattle.rdata.proofs.LocationLemmas.{next_word, no_words, words_are}
use Rattle.zone_record.proofs.PrintedTokens.{more_printed, all_printed, next_failed, on_err_of}
use Rattle.zone_record.proofs.rdata_print.write_location.Goals as goal

pub loop-word-preserved : goal.loop-word-preserved
loop-word-preserved g c =
    more_printed _ _ _ _ _ _ _ _ _ c.loop-word.invariant (next_word c.in-Some.words c.loop-word.word-index _ (omega (arith, c.loop-word-test.true, c.loop-word.auto.word-index-end))) c.in_ok-write_token.ensures.blocks c.in_ok-write_token.ensures.gives

pub returns-clause-gives : goal.returns-clause-gives
returns-clause-gives g c =
    let blocks = g.F.FormatWriter.blocks in
    let gives = g.F.FormatWriter.step_gives in
    let none = no_words c.in-Some.words c.loop-word.word-index (omega (arith, c.loop-word-test.false, c.loop-word.auto.word-index-end)) in
    let all = all_printed blocks gives _ _ _ _ c.loop-word.invariant none in
    subst (λ (ts : List PrintedToken). WritesSteps blocks gives c.args.p.now (token_steps ts) c.loop-word.p) (words_are c.args.octets.now c.in-Some.words c.in-Some.ensures) all

pub returns-in_err-write_token-clause-fails : goal.returns-in_err-write_token-clause-fails
returns-in_err-write_token-clause-fails g c =
    let blocks = g.F.FormatWriter.blocks in
    let gives = g.F.FormatWriter.step_gives in
    let fails = g.F.FormatWriter.step_fails in
    let failed =
    next_failed blocks gives fails _ _ _ _ _ _ c.loop-word.invariant (next_word c.in-Some.words c.loop-word.word-index _ (omega (arith, c.loop-word-test.true, c.loop-word.auto.word-index-end)))
    c.in_err-write_token.ensures.fails in
    on_err_of c.from_residual.result
    (subst (λ (ts : List PrintedToken). FailsInSteps blocks gives fails c.args.p.now (token_steps ts)) (words_are c.args.octets.now c.in-Some.words c.in-Some.ensures) failed)

pub unreachable-requires : goal.unreachable-requires
unreachable-requires g c = c.in_default.ensures c.requires.0 c.requires.1
