use Rattle.std.proofs.Common.{ℕ, ◌≡◌, ◌<◌, ◌≤◌, ◌-◌, length, take, drop}
use Rattle.zone_update.specs.Parts.{AreSeparable, wire_sizes}
use Rattle.zone_update.proofs.parts.part_len.Given as goal

abbrev pub invariant-scan : goal.invariant-scan
invariant-scan g l = record {
  used : l.used ≡ wire_sizes (take l.at l.operations);
  room : l.used ≤ l.limit;
  within : l.at ≤ length l.operations;
  longest : l.longest ≤ l.at;
  fits : wire_sizes (take l.longest l.operations) ≤ l.limit;
  whole : 0 < l.longest → AreSeparable l.names (take l.longest l.operations) (drop l.longest l.operations);
  none : (n : ℕ) → l.longest < n → n ≤ l.at → ¬ AreSeparable l.names (take n l.operations) (drop n l.operations);
}

abbrev pub decreases-scan : goal.decreases-scan
decreases-scan g l = length l.operations - l.at
