use Rattle.std.proofs.Common.{◌∙◌, arith}
use Rattle.error_texts.proofs.CutTexts.{cut_none, cut_room}
use Rattle.error_texts.proofs.buffer.append_text.Goals as goal

pub returns-then-text-room : goal.returns-then-text-room
returns-then-text-room c = c.append_all.ensures ∙ cut_none 255 c.args.target.now.items c.args.text.now (omega arith)

pub returns-else-text-room : goal.returns-else-text-room
returns-else-text-room c = c.append_all-else-text-room.ensures ∙ cut_room 255 _ _ _ c.remaining_capacity-room.ensures
