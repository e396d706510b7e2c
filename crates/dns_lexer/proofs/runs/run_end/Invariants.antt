use Rattle.std.proofs.Common.{length, ◌-◌, ◌≤◌}
use Rattle.dns_lexer.specs.Skip.{EachIn}
use Rattle.dns_lexer.proofs.runs.run_end.Given as goal

abbrev pub invariant-by_few : goal.invariant-by_few
invariant-by_few l = record {
  on : l.at ≤ l.place;
  within : l.place ≤ length l.octets;
  each : EachIn l.class l.octets l.at l.place;
}

abbrev pub decreases-by_few : goal.decreases-by_few
decreases-by_few l = length l.octets - l.place

abbrev pub invariant-by_load : goal.invariant-by_load
invariant-by_load l = record {
  on : l.at ≤ l.place;
  within : l.place ≤ length l.octets;
  each : EachIn l.class l.octets l.at l.place;
}

abbrev pub decreases-by_load : goal.decreases-by_load
decreases-by_load l = length l.octets - l.place

abbrev pub invariant-by_one : goal.invariant-by_one
invariant-by_one l = record {
  on : l.at ≤ l.place;
  within : l.place ≤ length l.octets;
  each : EachIn l.class l.octets l.at l.place;
}

abbrev pub decreases-by_one : goal.decreases-by_one
decreases-by_one l = length l.octets - l.place
