use Rattle.error_texts.proofs.contents.long_string_text.Goals as goal

pub returns : goal.returns
returns c = rw c.new-text.ensures at c.append_long_string.ensures
