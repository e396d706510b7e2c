use Rattle.std.proofs.Common.{◌<◌, length}
use Rattle.rdata_tokens.specs.Spelling.{SpellsBeginning}
use Rattle.rdata_svcb.specs.Texts.{item_text}
use Rattle.rdata_svcb.proofs.strings.read_item.Given as goal

abbrev pub invariant-loop-first : goal.invariant-loop-first
invariant-loop-first l = SpellsBeginning l.text (item_text l.item.items) l.rest × (length l.item.items < 256)

abbrev pub decreases-loop-first : goal.decreases-loop-first
decreases-loop-first l = length l.rest
