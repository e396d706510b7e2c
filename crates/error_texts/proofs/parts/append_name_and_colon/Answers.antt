use Rattle.error_texts.proofs.CutTexts.{cut_two}
use Rattle.error_texts.proofs.parts.append_name_and_colon.Goals as goal

pub returns : goal.returns
returns c = cut_two 255 _ _ _ _ _ (rw c.as_bytes.ensures.value at c.append_text.ensures) c.append_text-2.ensures
