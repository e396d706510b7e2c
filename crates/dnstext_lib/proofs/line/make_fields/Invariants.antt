use Rattle.dns_zone.specs.EntryFields.{contents_of}
use Rattle.dnstext_lib.proofs.Fielding.{FieldsSoFar}
use Rattle.dnstext_lib.proofs.line.make_fields.Given as goal

abbrev pub invariant-loop-word : goal.invariant-loop-word
invariant-loop-word g l = FieldsSoFar l.words l.word-index (contents_of l.fields.items)
