use Rattle.std.proofs.Common.{◌++◌, ◌∙◌, sym, ap, map}
use Rattle.std.proofs.lemmas.Result.{on_ok_weaker}
use Rattle.dns_lexer.specs.EntryTokens.{token_seen}
use Rattle.zone_check.specs.NameFindings.{name_findings, record_names}
use Rattle.zone_check.proofs.FindingSteps.{its_owner, none_if_blank, none_if_empty}
use Rattle.zone_check.proofs.NameSteps.{after_own_owner}
use Rattle.zone_check.proofs.name_findings.find_in_names.Goals as goal

pub returns-then-begins_blank : goal.returns-then-begins_blank
returns-then-begins_blank c =
    let s = c.args.state in
    on_ok_weaker c.find_in_data_names.result
    (λ e. e ∙ sym (ap (λ o. c.args.found.now.items ++ name_findings c.args.origin.now s.assumes_root s.is_reported (record_names c.args.rtype o (map token_seen c.args.words.now))) (none_if_blank c.args.begins_blank c.args.tokens.now c.if-begins_blank.true)))
    c.find_in_data_names.ensures

pub returns-then-is_empty : goal.returns-then-is_empty
returns-then-is_empty c =
    let s = c.args.state in
    on_ok_weaker c.find_in_data_names-then-is_empty.result
    (λ e. e ∙ sym (ap (λ o. c.args.found.now.items ++ name_findings c.args.origin.now s.assumes_root s.is_reported (record_names c.args.rtype o (map token_seen c.args.words.now))) (none_if_empty c.args.begins_blank c.args.tokens.now (sym c.is_empty.ensures ∙ c.if-is_empty.true))))
    c.find_in_data_names-then-is_empty.ensures

pub returns : goal.returns
returns c =
    let s = c.args.state in
    on_ok_weaker c.find_in_data_names-2.result
    (λ e.
    after_own_owner c.args.origin.now c.args.rtype c.args.found.now.items _ _ s.assumes_root s.is_reported _ _ _ (map token_seen c.args.words.now) c.name_code-code.result c.name_finding.result
    c.name_code-code.ensures c.name_finding.ensures c.state_after.ensures.root c.state_after.ensures.reported c.in_ok-append_any.ensures e
    ∙ sym (ap (λ o. c.args.found.now.items ++ name_findings c.args.origin.now s.assumes_root s.is_reported (record_names c.args.rtype o (map token_seen c.args.words.now))) (its_owner c.args.begins_blank c.args.tokens.now _ c.if-begins_blank.false (sym c.is_empty.ensures ∙ c.if-is_empty.false))))
    c.find_in_data_names-2.ensures
