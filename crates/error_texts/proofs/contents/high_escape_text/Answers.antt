use Rattle.error_texts.proofs.contents.high_escape_text.Goals as goal

pub returns : goal.returns
returns c = rw c.new-text.ensures at c.append_high_escape.ensures
