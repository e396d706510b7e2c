use Rattle.std.proofs.Common.{◌≡◌, length}
use Rattle.std.specs.List.{list_all}
use Rattle.mail_texts.specs.Parts.{parts_between}
use Rattle.mail_texts.specs.SpfTerms.{is_spf_word}
use Rattle.mail_texts.proofs.spf.are_spf_terms.Given as goal

abbrev pub invariant-loop-word : goal.invariant-loop-word
invariant-loop-word l = list_all is_spf_word (parts_between 32 l.rest) ≡ list_all is_spf_word (parts_between 32 l.fn.octets)

abbrev pub decreases-loop-word : goal.decreases-loop-word
decreases-loop-word l = length l.rest
