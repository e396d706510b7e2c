use Rattle.std.proofs.Common.{◌≡◌, length}
use Rattle.mail_texts.specs.Parts.{parts_between}
use Rattle.mail_texts.specs.SpfTerms.{has_two_terms}
use Rattle.mail_texts.proofs.spf_use.has_two_terms.Given as goal

abbrev pub invariant-loop-word : goal.invariant-loop-word
invariant-loop-word l = has_two_terms l.test (parts_between 32 l.rest) ≡ has_two_terms l.test (parts_between 32 l.fn.octets)

abbrev pub decreases-loop-word : goal.decreases-loop-word
decreases-loop-word l = length l.rest
