use Rattle.std.proofs.Common.{length, ◌-◌, ◌≤◌}
use Rattle.c_calls.specs.WholeEntries.{LacksFeed}
use Rattle.c_calls.proofs.whole_entries.line_after.Given as goal

abbrev pub invariant-octets : goal.invariant-octets
invariant-octets l = record { later : l.fn.from ≤ l.at; none : LacksFeed l.text l.fn.from l.at }

abbrev pub decreases-octets : goal.decreases-octets
decreases-octets l = length l.text - l.at
