use Rattle.error_texts.proofs.errors.line_end_text.Goals as goal

pub returns : goal.returns
returns c = rw c.new-text.ensures at c.append_line_end.ensures
