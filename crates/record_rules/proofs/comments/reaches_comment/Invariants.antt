use Rattle.std.proofs.Common.{◌≡◌, drop}
use Rattle.record_rules.specs.Comments.{reaches_comment}
use Rattle.record_rules.proofs.comments.reaches_comment.Given as goal

abbrev pub invariant-loop-octet : goal.invariant-loop-octet
invariant-loop-octet l = reaches_comment l.escaped (drop l.octet-index l.text) ≡ reaches_comment l.fn.begins_escaped l.text
