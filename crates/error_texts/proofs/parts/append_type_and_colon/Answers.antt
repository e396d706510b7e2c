use Rattle.error_texts.proofs.CutTexts.{cut_two}
use Rattle.error_texts.proofs.parts.append_type_and_colon.Goals as goal

pub returns : goal.returns
returns c = cut_two 255 _ _ _ _ _ c.append_type.ensures c.append_text.ensures
