use Rattle.zone_record.proofs.NameWalks.{Walked}
use Rattle.zone_record.proofs.names.after_label_count.Given as goal

abbrev pub invariant-loop : goal.invariant-loop
invariant-loop l = Walked l.octets l.rest l.counter
