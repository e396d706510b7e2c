use Rattle.std.proofs.Common.{◌∙◌, sym}
use Rattle.findings.proofs.ShownFirsts.{refused_after}
use Rattle.findings.proofs.collector.unless_last.Goals as goal

pub returns-else-outweighs-clause-alike : goal.returns-else-outweighs-clause-alike
returns-else-outweighs-clause-alike c =
    refused_after c.args.judged c.args.last c.in-Some-Some.one c.in-Some-Some.last c.in-Some-Some.is-0 c.in-Some-Some.is-1 (sym c.outweighs.ensures ∙ c.if-outweighs.false)
