use Rattle.std.proofs.Common.{arith}
use Rattle.dns_lexer.proofs.Skips.{blanks_passed, blank_is, one_passed, open_step, close_step, feed_step}
use Rattle.dns_lexer.proofs.skip.past_one.Goals as goal

pub returns-in-32-clause-passes : goal.returns-in-32-clause-passes
returns-in-32-clause-passes c =
    let e = c.run_end.ensures in
    blanks_passed c.args.octets.now c.args.place _ c.requires.within c.requires.deep (blank_is _ c.in-32.is) e.on e.within e.each

pub returns-in-40-clause-passes : goal.returns-in-40-clause-passes
returns-in-40-clause-passes c = one_passed c.args.octets.now c.args.place _ c.requires.within (omega (arith, c.requires.deep)) (open_step _ _ c.in-40.is)

pub returns-in-41-clause-passes : goal.returns-in-41-clause-passes
returns-in-41-clause-passes c = one_passed c.args.octets.now c.args.place _ c.requires.within (omega (arith, c.requires.deep)) (close_step _ _ c.in-41.is c.if-depth-gt0.true)

pub returns-in-10-clause-passes : goal.returns-in-10-clause-passes
returns-in-10-clause-passes c = one_passed c.args.octets.now c.args.place _ c.requires.within (omega (arith, c.requires.deep)) (feed_step _ _ c.in-10.is c.if-depth-gt0-2.true)
