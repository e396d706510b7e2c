use Rattle.error_texts.proofs.CutTexts.{cut_two}
use Rattle.error_texts.proofs.errors.append_message.Goals as goal

pub returns : goal.returns
returns c = cut_two 255 _ _ _ _ _ c.append_part.ensures c.append_kind.ensures
