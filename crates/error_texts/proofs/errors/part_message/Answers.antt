use Rattle.error_texts.proofs.errors.part_message.Goals as goal

pub returns : goal.returns
returns c = rw c.new-text.ensures at c.append_message.ensures
