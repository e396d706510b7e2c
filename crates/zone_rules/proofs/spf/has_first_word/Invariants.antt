use Rattle.std.proofs.Common.{◌≡◌, length}
use Rattle.zone_rules.specs.Spf.{has_first_word, joined_strings}
use Rattle.zone_rules.proofs.spf.has_first_word.Given as goal

abbrev pub invariant-loop-rest : goal.invariant-loop-rest
invariant-loop-rest l = has_first_word l.wanted (joined_strings l.count l.rest) ≡ has_first_word l.word (joined_strings 0 l.strings)

abbrev pub decreases-loop-rest : goal.decreases-loop-rest
decreases-loop-rest l = length l.rest
