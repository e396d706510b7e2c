use Rattle.std.proofs.Common.{ℕ, length, ◌-◌, ◌≡◌, ◌≤◌}
use Rattle.zone_reader.specs.Tape.{IsPlainLine}
use Rattle.zone_reader.proofs.LineFilling.{FillingAt}
use Rattle.zone_reader.proofs.tape.fill_line.Given as goal

abbrev pub invariant-octets : goal.invariant-octets
invariant-octets g l = record {
  deep : l.depth ≤ l.at;
  within : l.at ≤ length l.octets;
  fills : FillingAt l.octets l.depth l.at l.ended l.tape.items;
  plain : (feed : ℕ) → IsPlainLine l.octets feed → (l.at ≤ feed) × (l.depth ≡ 0);
}

abbrev pub decreases-octets : goal.decreases-octets
decreases-octets g l = length l.octets - l.at
