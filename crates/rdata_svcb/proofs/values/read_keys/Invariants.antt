use Rattle.std.proofs.Common.{length}
use Rattle.std.specs.Option.{option_copied}
use Rattle.rdata_svcb.specs.Items.{unread_text}
use Rattle.rdata_svcb.proofs.KeySets.{TakesKeys}
use Rattle.rdata_svcb.proofs.values.read_keys.Given as goal

abbrev pub invariant-loop-left : goal.invariant-loop-left
invariant-loop-left l = TakesKeys l.text (option_copied l.left) l.keys

abbrev pub decreases-loop-left : goal.decreases-loop-left
decreases-loop-left l = length (unread_text (option_copied l.left))
