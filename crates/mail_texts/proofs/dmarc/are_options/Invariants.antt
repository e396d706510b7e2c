use Rattle.std.proofs.Common.{◌≡◌, length}
use Rattle.std.specs.List.{list_all}
use Rattle.mail_texts.specs.Parts.{parts_between}
use Rattle.mail_texts.specs.Dmarc.{is_option_part}
use Rattle.mail_texts.proofs.dmarc.are_options.Given as goal

abbrev pub invariant-loop-part : goal.invariant-loop-part
invariant-loop-part l = list_all is_option_part (parts_between 58 l.rest) ≡ list_all is_option_part (parts_between 58 l.fn.value)

abbrev pub decreases-loop-part : goal.decreases-loop-part
decreases-loop-part l = length l.rest
