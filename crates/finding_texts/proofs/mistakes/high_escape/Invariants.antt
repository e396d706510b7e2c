use Rattle.std.proofs.Common.{◌≡◌, ◌≤◌, length}
use Rattle.std.specs.List.{find}
use Rattle.finding_texts.specs.Mistakes.{begins_high, spelled_rests}
use Rattle.finding_texts.proofs.mistakes.high_escape.Given as goal

abbrev pub invariant-rests : goal.invariant-rests
invariant-rests l = record {
  found : find begins_high (spelled_rests l.rest) ≡ find begins_high (spelled_rests l.text);
  within : length l.rest ≤ length l.text;
}

abbrev pub decreases-rests : goal.decreases-rests
decreases-rests l = length l.rest
