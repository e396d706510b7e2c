use Rattle.std.proofs.Common.{length}
use Rattle.std.specs.Option.{option_copied}
use Rattle.rdata_fields.specs.Words.{SpellsAs}
use Rattle.rdata_svcb.specs.Items.{unread_text}
use Rattle.rdata_svcb.proofs.Apart.{TakesEach}
use Rattle.rdata_svcb.proofs.values.append_each.Given as goal

abbrev pub invariant-loop-left : goal.invariant-loop-left
invariant-loop-left g l =
    TakesEach (SpellsAs g.W.Word.valid g.W.Word.spells g.W.Word.wire) l.text (option_copied l.left) (g.B.AsOctets.octets l.fn.target) (g.B.AsOctets.octets l.target)

abbrev pub decreases-loop-left : goal.decreases-loop-left
decreases-loop-left g l = length (unread_text (option_copied l.left))
