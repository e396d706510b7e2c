use Rattle.error_texts.proofs.CutTexts.{cut_three}
use Rattle.error_texts.proofs.contents.append_length.Goals as goal

pub returns : goal.returns
returns c = cut_three 255 _ _ _ _ _ _ _ c.append_counted.ensures c.append_digest_name.ensures c.append_counted-2.ensures
