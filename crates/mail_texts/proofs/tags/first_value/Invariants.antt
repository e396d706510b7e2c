use Rattle.std.proofs.Common.{◌≡◌, ◌≤◌, length}
use Rattle.mail_texts.specs.Parts.{parts_between}
use Rattle.mail_texts.specs.Tags.{first_value}
use Rattle.mail_texts.proofs.tags.first_value.Given as goal

abbrev pub invariant-loop-part : goal.invariant-loop-part
invariant-loop-part l = (first_value l.name (parts_between 59 l.rest) ≡ first_value l.name (parts_between 59 l.fn.text)) × (length l.rest ≤ length l.fn.text)

abbrev pub decreases-loop-part : goal.decreases-loop-part
decreases-loop-part l = length l.rest
