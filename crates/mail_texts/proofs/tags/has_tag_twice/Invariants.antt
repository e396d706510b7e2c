use Rattle.std.proofs.Common.{◌≡◌, length}
use Rattle.mail_texts.specs.Parts.{parts_between}
use Rattle.mail_texts.specs.Tags.{has_tag_twice}
use Rattle.mail_texts.proofs.tags.has_tag_twice.Given as goal

abbrev pub invariant-loop-part : goal.invariant-loop-part
invariant-loop-part l = has_tag_twice (parts_between 59 l.rest) ≡ has_tag_twice (parts_between 59 l.fn.text)

abbrev pub decreases-loop-part : goal.decreases-loop-part
decreases-loop-part l = length l.rest
