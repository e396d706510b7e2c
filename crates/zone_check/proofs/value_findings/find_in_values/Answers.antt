use Rattle.std.proofs.Common.{◌∙◌, ◌++◌, ap, map, option_to_list}
use Rattle.std.proofs.lemmas.Result.{on_ok_weaker}
use Rattle.dns_lexer.specs.EntryTokens.{token_seen}
use Rattle.zone_check.specs.ValueFindings.{data_finding, max_ttl_finding, minimum_finding}
use Rattle.zone_check.proofs.FindingSteps.{four_appended}
use Rattle.zone_check.proofs.value_findings.find_in_values.Goals as goal

pub returns : goal.returns
returns c =
    let v = c.args.values in
    let tokens = map token_seen c.args.tokens.now in
    let first = c.in_ok-append_any.ensures ∙ ap (λ o. c.args.found.now.items ++ option_to_list o) c.minimum_finding.ensures in
    let third = c.in_ok-append_any-3.ensures ∙ ap (λ o. c.append_any-2.new.found.items ++ option_to_list o) c.max_ttl_finding.ensures in
    on_ok_weaker c.append_any-4.result
    (λ e. (
      c.long_ttl_finding-long.result,
      c.long_ttl_finding-long.ensures,
      four_appended c.args.found.now.items c.append_any.new.found.items c.append_any-2.new.found.items c.append_any-3.new.found.items c.append_any-4.new.found.items
          (option_to_list (minimum_finding v.ttl tokens)) (option_to_list c.long_ttl_finding-long.result) (option_to_list (max_ttl_finding v.ttl v.max_ttl tokens)) (option_to_list (data_finding v.rtype c.args.octets.now tokens))
          first c.in_ok-append_any-2.ensures third (e ∙ ap (λ o. c.append_any-3.new.found.items ++ option_to_list o) c.data_finding.ensures),
    ))
    c.append_any-4.ensures
