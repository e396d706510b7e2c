use Rattle.zone_reader.proofs.WholeTexts.{texts_are_read, texts_are_read_to_the_end}
use Rattle.zone_reader.proofs.text_laws.texts_are_read_entry_by_entry.Goals as goal

pub returns-clause-first : goal.returns-clause-first
returns-clause-first c = texts_are_read

pub returns-clause-all : goal.returns-clause-all
returns-clause-all c = texts_are_read_to_the_end
