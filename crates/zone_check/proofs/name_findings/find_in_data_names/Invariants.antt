use Rattle.std.proofs.Common.{◌≡◌, ◌++◌, map}
use Rattle.dns_lexer.specs.EntryTokens.{token_seen}
use Rattle.zone_check.specs.NameFindings.{data_names, name_findings}
use Rattle.zone_check.proofs.NameSteps.{rest_findings}
use Rattle.zone_check.proofs.name_findings.find_in_data_names.Given as goal

abbrev pub invariant-loop-number : goal.invariant-loop-number
invariant-loop-number l =
    l.found.items ++ rest_findings l.origin l.rtype l.words l.reached.assumes_root l.reached.is_reported l.number
    ≡ l.initial.found.items ++ name_findings l.origin l.fn.state.assumes_root l.fn.state.is_reported (data_names l.rtype 0 (map token_seen l.words))
