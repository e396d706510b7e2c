use Rattle.std.proofs.Common.{◌∙◌, sym, arith}
use Rattle.zone_check.proofs.NameSteps.{all_found, next_word, none_in_generic, none_left}
use Rattle.zone_check.proofs.name_findings.find_in_data_names.Goals as goal

pub loop-number-preserved : goal.loop-number-preserved
loop-number-preserved c =
    let r = c.loop-number.reached in
    next_word c.args.origin.now c.args.rtype c.args.words.now c.loop-number.number _ c.loop-number-test.true r.assumes_root r.is_reported
    _ _ c.field_code-code.result c.name_finding.result c.loop-number.found.items c.append_any.new.found.items _
    (sym c.is_generic_token.ensures ∙ c.if-is_generic_token.false)
    c.field_code-code.ensures c.name_finding.ensures c.in_ok-append_any.ensures c.state_after-reached.ensures.root c.state_after-reached.ensures.reported c.loop-number.invariant

pub returns-then-is_generic_token : goal.returns-then-is_generic_token
returns-then-is_generic_token c =
    let r = c.loop-number.reached in
    all_found c.loop-number.found.items _ _
    (none_in_generic c.args.origin.now c.args.rtype c.args.words.now c.loop-number.number _ c.loop-number-test.true r.assumes_root r.is_reported (sym c.is_generic_token.ensures ∙ c.if-is_generic_token.true))
    c.loop-number.invariant

pub returns : goal.returns
returns c =
    let r = c.loop-number.reached in
    all_found c.loop-number.found.items _ _ (none_left c.args.origin.now c.args.rtype c.args.words.now c.loop-number.number r.assumes_root r.is_reported (omega arith)) c.loop-number.invariant
