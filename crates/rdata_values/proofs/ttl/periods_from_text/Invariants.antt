use Rattle.std.proofs.Common.{drop}
use Rattle.rdata_values.proofs.PeriodLemmas.{Totals}
use Rattle.rdata_values.proofs.ttl.periods_from_text.Given as goal

abbrev pub invariant-loop-byte : goal.invariant-loop-byte
invariant-loop-byte l = Totals l.text l.total l.count (drop l.byte-index l.text)
