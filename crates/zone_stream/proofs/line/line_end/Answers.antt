use Rattle.std.proofs.Common.{◌++◌, ◌∙◌, ap, arith}
use Rattle.std.proofs.lemmas.List.{drop_all}
use Rattle.std.specs.Io.BufRead.{drop_through}
use Rattle.zone_stream.proofs.LineEnds.{feed_here, other_here}
use Rattle.zone_stream.proofs.line.line_end.Goals as goal

pub loop-at-preserved : goal.loop-at-preserved
loop-at-preserved c = record {
  within = omega (arith, c.loop-at-test.true);
  same = λ more. c.loop-at.invariant.same more ∙ other_here c.args.octets.now more c.loop-at.at (omega (arith, c.loop-at-test.true)) c.if-octets-at-eq10.false;
}

pub returns-then-octets-at-eq10 : goal.returns-then-octets-at-eq10
returns-then-octets-at-eq10 c = (
  omega (arith, c.loop-at-test.true),
  λ more. c.loop-at.invariant.same more ∙ feed_here c.args.octets.now more c.loop-at.at (omega (arith, c.loop-at-test.true)) c.if-octets-at-eq10.true,
)

pub returns : goal.returns
returns c = λ more. c.loop-at.invariant.same more ∙ ap (λ l. drop_through 10 (l ++ more)) (drop_all c.loop-at.at c.args.octets.now (omega (arith, c.loop-at-test.false)))
