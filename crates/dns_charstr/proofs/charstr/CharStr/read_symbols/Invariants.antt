use Rattle.std.proofs.Common.{◌≤◌, length}
use Rattle.std.specs.Str.Iter.{chars_rest}
use Rattle.dns_charstr.proofs.SoFar.{HasRead}
use Rattle.dns_charstr.proofs.charstr.CharStr.read_symbols.Given as goal

abbrev pub invariant-loop-builder : goal.invariant-loop-builder
invariant-loop-builder g l = record {
  read : HasRead l.text l.builder (chars_rest l.chars);
  short : length l.builder ≤ 255;
  within : length l.builder ≤ g.Octs.Builder.OctetsBuilder.room.capacity;
}

abbrev pub decreases-loop-builder : goal.decreases-loop-builder
decreases-loop-builder g l = length (chars_rest l.chars)
