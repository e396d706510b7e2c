use Rattle.zone_contents.proofs.DigestSteps.{Collects}
use Rattle.zone_contents.proofs.apex_records.apex_places.Given as goal

abbrev pub invariant-loop-place : goal.invariant-loop-place
invariant-loop-place g l = Collects l.rtype l.apex l.zone l.place l.places.items
