use Rattle.std.proofs.Common.{◌≡◌, ◌≤◌, ◌+◌, length}
use Rattle.mail_texts.specs.Joined.{joint_after, joint_index}
use Rattle.mail_texts.proofs.strings.joint_index.Given as goal

abbrev pub invariant-loop-next : goal.invariant-loop-next
invariant-loop-next l = (joint_after l.index 0 l.before l.rest ≡ joint_index l.fn.strings) × (l.index + length l.rest ≤ length l.fn.strings)

abbrev pub decreases-loop-next : goal.decreases-loop-next
decreases-loop-next l = length l.rest
