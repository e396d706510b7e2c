use Rattle.dnstext_lib.specs.EntryLine.{asked_of, field_word}
use Rattle.dnstext_lib.proofs.InTurn.{ReadInTurn}
use Rattle.dnstext_lib.proofs.line.read_fields.Given as goal

abbrev pub invariant-loop-word : goal.invariant-loop-word
invariant-loop-word g l = ReadInTurn asked_of field_word l.words l.word-index l.found.items
