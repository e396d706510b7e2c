use Rattle.std.proofs.Common.{◌≤◌, ◌⊎◌}
use Rattle.zone_dnssec.specs.UnmatchedLinks.{MarksWithin}
use Rattle.zone_dnssec.proofs.unmatched.mark_within.Given as goal

abbrev pub invariant-loop-place : goal.invariant-loop-place
invariant-loop-place l = MarksWithin l.first l.place l.initial.marks l.marks × ((l.place ≤ l.past) ⊎ (l.place ≤ l.first))
