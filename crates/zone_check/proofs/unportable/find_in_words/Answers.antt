use Rattle.std.proofs.Common.{◌∙◌, sym, arith}
use Rattle.zone_check.proofs.UnportableSteps.{all_found, next_found, none_in_generic, none_left}
use Rattle.zone_check.proofs.unportable.find_in_words.Goals as goal

pub loop-number-preserved : goal.loop-number-preserved
loop-number-preserved c =
    next_found c.args.is_reported c.args.rtype c.args.words.now c.loop-number.number _ c.loop-number-test.true
    c.word_use-its_use.result c.unportable_word.result c.loop-number.found.items c.append_any.new.found.items _
    (sym c.is_generic_token.ensures ∙ c.if-is_generic_token.false) c.word_use-its_use.ensures c.unportable_word.ensures c.in_ok-append_any.ensures c.loop-number.invariant

pub returns-then-is_generic_token : goal.returns-then-is_generic_token
returns-then-is_generic_token c =
    all_found c.loop-number.found.items _ _
    (none_in_generic c.args.is_reported c.args.rtype c.args.words.now c.loop-number.number _ c.loop-number-test.true (sym c.is_generic_token.ensures ∙ c.if-is_generic_token.true))
    c.loop-number.invariant

pub returns : goal.returns
returns c = all_found c.loop-number.found.items _ _ (none_left c.args.is_reported c.args.rtype c.args.words.now c.loop-number.number (omega arith)) c.loop-number.invariant
