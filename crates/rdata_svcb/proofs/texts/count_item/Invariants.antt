use Rattle.std.proofs.Common.{◌≡◌, ℕ, List, length}
use Rattle.rdata_svcb.proofs.WireItems.{TakesItem}
use Rattle.rdata_svcb.proofs.texts.count_item.Given as goal

abbrev pub invariant-loop-first : goal.invariant-loop-first
invariant-loop-first l = (front : List ℕ) × TakesItem l.text front l.rest × (l.count ≡ length front)

abbrev pub decreases-loop-first : goal.decreases-loop-first
decreases-loop-first l = length l.rest
