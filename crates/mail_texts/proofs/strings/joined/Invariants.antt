use Rattle.std.proofs.Common.{◌≡◌, ◌≤◌, ◌+◌, ◌++◌, length}
use Rattle.arrayvec.specs.ArrayVec.{array_vec_len}
use Rattle.mail_texts.specs.Joined.{text_of_strings}
use Rattle.mail_texts.proofs.strings.joined.Given as goal

abbrev pub invariant-loop-first : goal.invariant-loop-first
invariant-loop-first l = (l.text.items ++ text_of_strings l.rest ≡ text_of_strings l.fn.strings) × (array_vec_len l.text + length l.rest ≤ length l.fn.strings)

abbrev pub decreases-loop-first : goal.decreases-loop-first
decreases-loop-first l = length l.rest
