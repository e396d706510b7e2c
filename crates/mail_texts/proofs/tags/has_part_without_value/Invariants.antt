use Rattle.std.proofs.Common.{◌≡◌, length}
use Rattle.std.specs.List.{list_any}
use Rattle.mail_texts.specs.Parts.{parts_between}
use Rattle.mail_texts.specs.Tags.{lacks_value}
use Rattle.mail_texts.proofs.tags.has_part_without_value.Given as goal

abbrev pub invariant-loop-part : goal.invariant-loop-part
invariant-loop-part l = list_any lacks_value (parts_between 59 l.rest) ≡ list_any lacks_value (parts_between 59 l.fn.text)

abbrev pub decreases-loop-part : goal.decreases-loop-part
decreases-loop-part l = length l.rest
