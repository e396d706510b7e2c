use Rattle.std.proofs.Common.{map}
use Rattle.std.proofs.lemmas.Result.{IfOk-weaker}
use Rattle.dns_lexer.specs.EntryTokens.{token_seen}
use Rattle.zone_check.specs.GenerateFindings.{IsGenerateFinding}
use Rattle.zone_check.proofs.GenerateSteps.{whole_words}
use Rattle.zone_check.proofs.generate_findings.generate_finding.Goals as goal

pub returns : goal.returns
returns c =
    let tokens = c.args.tokens.now in
    IfOk-weaker c.dot_in_range.result _ (IsGenerateFinding (map token_seen tokens)) (λ f h. whole_words tokens _ _ _ _ f c.if-count-lt5.false h) c.dot_in_range.ensures
