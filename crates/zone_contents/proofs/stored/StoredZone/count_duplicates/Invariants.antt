use Rattle.zone_contents.proofs.CountedDuplicates.{Counting}
use Rattle.zone_contents.proofs.stored.StoredZone.count_duplicates.Given as goal

abbrev pub invariant-loop-place : goal.invariant-loop-place
invariant-loop-place g l = Counting l.self l.place l.duplicates
