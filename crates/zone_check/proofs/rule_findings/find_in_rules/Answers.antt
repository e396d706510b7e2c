use Rattle.std.proofs.Common.{◌≡◌, ◌++◌, ◌∙◌, map, subst}
use Rattle.std.proofs.lemmas.Result.{on_ok_weaker}
use Rattle.dns_lexer.specs.EntryTokens.{token_seen}
use Rattle.zone_check.specs.RuleFindings.{rule_findings}
use Rattle.zone_check.proofs.rule_findings.find_in_rules.Goals as goal

pub returns : goal.returns
returns c =
    on_ok_weaker c.append_rules.result
    (λ e. (
      c.data_tokens-words.result.now,
      c.data_tokens-words.ensures,
      c.how_written.result,
      c.how_written.ensures,
      subst
          (λ l. c.append_rules.new.found.items ≡ c.args.found.now.items ++ rule_findings c.args.record.now.rtype c.args.record.now.data.now c.args.context (map token_seen c.args.tokens.now) (map token_seen c.data_tokens-words.result.now) l)
          (c.as_slice.ensures.value ∙ c.broken_rules-rules.ensures) e,
    ))
    c.append_rules.ensures
