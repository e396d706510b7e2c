use Rattle.error_texts.proofs.CutTexts.{cut_two}
use Rattle.error_texts.proofs.buffer.append_counted.Goals as goal

pub returns : goal.returns
returns c = cut_two 255 _ _ _ _ _ c.append_text.ensures c.append_number.ensures
