use Rattle.dns_zone.specs.Documents.{item_step}
use Rattle.dnstext_lib.specs.Print.{item_word}
use Rattle.dnstext_lib.proofs.InTurn.{ReadInTurn}
use Rattle.dnstext_lib.proofs.print.read_items.Given as goal

abbrev pub invariant-loop-word : goal.invariant-loop-word
invariant-loop-word g l = ReadInTurn item_step item_word l.words l.word-index l.items.items
