use Rattle.std.proofs.Common.{ℕ, List}
use Rattle.zone_contents.proofs.DigestSteps.{Hashing}
use Rattle.zone_contents.proofs.hashing.hash_zone.Given as goal

abbrev pub invariant-loop-place : goal.invariant-loop-place
invariant-loop-place g l = (fed : List ℕ) × g.D.Digest.holds l.hasher fed × Hashing l.apex l.zone l.place fed
