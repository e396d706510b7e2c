use Rattle.std.proofs.Common.{◌∷◌, [], arith, length-append}
use Rattle.dns_lexer.proofs.Steps.{one_more}
use Rattle.dns_lexer.proofs.Positions.{feed_more, other_more}
use Rattle.dns_lexer.proofs.position.line_and_column.Goals as goal

pub loop-c-preserved-then-c-eq10 : goal.loop-c-preserved-then-c-eq10
loop-c-preserved-then-c-eq10 c =
    let inv = c.loop-c.invariant in
    record {
      text = one_more c.loop-c.yielded _ _ _ c.in-Some.c inv.text c.in-Some.ensures.steps.0;
      short = omega (arith, inv.short, length-append c.loop-c.yielded (c.in-Some.c ∷ []));
      narrow = omega arith;
      is = feed_more c.loop-c.yielded c.in-Some.c c.loop-c.line c.loop-c.column c.if-c-eq10.true inv.is;
    }

pub loop-c-preserved : goal.loop-c-preserved
loop-c-preserved c =
    let inv = c.loop-c.invariant in
    record {
      text = one_more c.loop-c.yielded _ _ _ c.in-Some.c inv.text c.in-Some.ensures.steps.0;
      short = omega (arith, inv.short, length-append c.loop-c.yielded (c.in-Some.c ∷ []));
      narrow = omega (arith, inv.narrow, length-append c.loop-c.yielded (c.in-Some.c ∷ []));
      is = other_more c.loop-c.yielded c.in-Some.c c.loop-c.line c.loop-c.column c.if-c-eq10.false inv.is;
    }
