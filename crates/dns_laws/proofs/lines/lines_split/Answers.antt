use Rattle.std.proofs.Common.{rules, string_bytes}
use Rattle.std.proofs.lemmas.Result.{IfOk-weaker}
use Rattle.dns_laws.proofs.LineTokens.{line_only}
use Rattle.dns_laws.proofs.lines.lines_split.Goals as goal

pub returns-clause-text : goal.returns-clause-text
returns-clause-text g c = search rules

pub returns-clause-meaning : goal.returns-clause-meaning
returns-clause-meaning g c =
    IfOk-weaker c.values_split.result _ _ (λ s is e. line_only c.args.kind c.args.line.now
    (string_bytes s) c.lines_are_lines.ensures.holds c.lines_are_lines.ensures.printable is e) (returns-clause-text g c)
