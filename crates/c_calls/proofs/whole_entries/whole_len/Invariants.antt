use Rattle.std.proofs.Common.{length, ◌-◌, ◌≤◌}
use Rattle.c_calls.specs.WholeEntries.{ReadsOnFrom}
use Rattle.c_calls.proofs.whole_entries.whole_len.Given as goal

abbrev pub invariant-lines : goal.invariant-lines
invariant-lines l = record { within : l.at ≤ length l.text; reads_on : ReadsOnFrom l.text l.at }

abbrev pub decreases-lines : goal.decreases-lines
decreases-lines l = length l.text - l.at
