use Rattle.std.proofs.Common.{◌≡◌, ◌++◌, map}
use Rattle.dns_lexer.specs.EntryTokens.{token_seen}
use Rattle.zone_check.specs.Unportable.{unportable_words}
use Rattle.zone_check.proofs.UnportableSteps.{rest_of}
use Rattle.zone_check.proofs.unportable.find_in_words.Given as goal

abbrev pub invariant-loop-number : goal.invariant-loop-number
invariant-loop-number l = l.found.items ++ rest_of l.is_reported l.rtype l.words l.number ≡ l.initial.found.items ++ unportable_words l.is_reported l.rtype 0 (map token_seen l.words)
