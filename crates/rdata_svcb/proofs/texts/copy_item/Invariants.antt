use Rattle.std.proofs.Common.{◌≡◌, ◌++◌, ℕ, List, length}
use Rattle.rdata_svcb.proofs.WireItems.{TakesItem}
use Rattle.rdata_svcb.proofs.texts.copy_item.Given as goal

abbrev pub invariant-loop-first : goal.invariant-loop-first
invariant-loop-first g l = (front : List ℕ) × TakesItem l.text front l.rest × (g.B.AsOctets.octets l.target ≡ g.B.AsOctets.octets l.initial.target ++ front)

abbrev pub decreases-loop-first : goal.decreases-loop-first
decreases-loop-first g l = length l.rest
