use Rattle.zone_record.proofs.UntextedNames.{NameWalk}
use Rattle.zone_record.proofs.embedded_names.names_width.Given as goal

abbrev pub invariant-loop : goal.invariant-loop
invariant-loop l = NameWalk l.names l.counter l.width l.octets
