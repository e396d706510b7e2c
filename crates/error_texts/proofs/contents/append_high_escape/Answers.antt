use Rattle.error_texts.proofs.CutTexts.{cut_three}
use Rattle.error_texts.proofs.contents.append_high_escape.Goals as goal

pub returns : goal.returns
returns c = cut_three 255 _ _ _ _ _ _ _ c.append_text.ensures c.append_text-2.ensures c.append_text-3.ensures
