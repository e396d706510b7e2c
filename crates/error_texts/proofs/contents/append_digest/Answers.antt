use Rattle.error_texts.proofs.CutTexts.{cut_two}
use Rattle.error_texts.proofs.contents.append_digest.Goals as goal

pub returns : goal.returns
returns c = cut_two 255 _ _ _ _ _ c.append_counted.ensures c.append_length.ensures
