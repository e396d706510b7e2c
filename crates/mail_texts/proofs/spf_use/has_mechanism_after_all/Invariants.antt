use Rattle.std.proofs.Common.{◌≡◌, length}
use Rattle.mail_texts.specs.Parts.{parts_between}
use Rattle.mail_texts.specs.SpfTerms.{has_mechanism_after_all}
use Rattle.mail_texts.proofs.spf_use.has_mechanism_after_all.Given as goal

abbrev pub invariant-loop-word : goal.invariant-loop-word
invariant-loop-word l = has_mechanism_after_all (parts_between 32 l.rest) ≡ has_mechanism_after_all (parts_between 32 l.fn.octets)

abbrev pub decreases-loop-word : goal.decreases-loop-word
decreases-loop-word l = length l.rest
