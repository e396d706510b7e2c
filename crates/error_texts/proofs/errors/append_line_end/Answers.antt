use Rattle.error_texts.proofs.CutTexts.{cut_two}
use Rattle.error_texts.proofs.errors.append_line_end.Goals as goal

pub returns : goal.returns
returns c = cut_two 255 _ _ _ _ _ c.append_type_prefix.ensures c.append_text.ensures
