use Rattle.std.proofs.Common.{◌≡◌, ◌≤◌, ◌+◌, length}
use Rattle.finding_texts.specs.Mistakes.{count_spelled}
use Rattle.finding_texts.proofs.mistakes.count_spelled.Given as goal

abbrev pub invariant-rests : goal.invariant-rests
invariant-rests l = record {
  counted : l.count + count_spelled l.rest ≡ count_spelled l.text;
  within : l.count + length l.rest ≤ length l.text;
}

abbrev pub decreases-rests : goal.decreases-rests
decreases-rests l = length l.rest
