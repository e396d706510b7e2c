use Rattle.std.proofs.Common.{arith}
use Rattle.std.proofs.lemmas.Bool.{iff_false}
use Rattle.zone_check.proofs.WordSteps.{before_first, before_next, first_at_end, first_here}
use Rattle.zone_check.proofs.entry_words.first_word.Goals as goal

pub loop-place-init : goal.loop-place-init
loop-place-init c = record { within = omega arith; before = before_first c.args.kind c.args.tokens.now }

pub loop-place-preserved : goal.loop-place-preserved
loop-place-preserved c = record {
  within = omega arith;
  before = before_next c.args.kind c.args.tokens.now c.loop-place.place _ c.loop-place-test.true (iff_false c.is_word.ensures c.if-is_word.false) c.loop-place.invariant.before;
}

pub returns-then-is_word-clause-first : goal.returns-then-is_word-clause-first
returns-then-is_word-clause-first c =
    first_here c.args.kind c.args.tokens.now c.loop-place.place _ c.loop-place-test.true (c.is_word.ensures.0 c.if-is_word.true) c.loop-place.invariant.before

pub returns-clause-first : goal.returns-clause-first
returns-clause-first c = first_at_end c.args.kind c.args.tokens.now c.loop-place.place c.loop-place-test.false c.loop-place.invariant.before
