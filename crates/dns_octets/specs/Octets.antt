-- Facts about lists of octets, which the contracts and laws of builders cite.
use Rattle.std.specs.Prelude.{◌≡◌, ℕ, List, length, ◌-◌, ◌^◌}
use Rattle.std.specs.List.{refill}
use Rattle.std.specs.Borrow.{MutBor}
use Rattle.std.proofs.Common.{arith, ap}
use Rattle.std.proofs.lemmas.Grind.{common_steps}

-- the greatest `usize`, which the length of no list in memory exceeds
abbrev pub greatest_length : ℕ
greatest_length = 2 ^ 64 - 1

-- old octets overwritten by new ones, in the old number: the new list, if it has that length
abbrev pub written_over : List ℕ → List ℕ → List ℕ
written_over old new = refill (length old) old new

-- overwriting with a list of the same length results in that list
pub written_over_whole : (old new : List ℕ) → length new ≡ length old → written_over old new ≡ new
written_over_whole old new same = Prim.grind (arith, common_steps)

-- the same, where the length is given by an equal number
pub refill_named : (n : ℕ) (old new : List ℕ) → n ≡ length old → refill n old new ≡ written_over old new
refill_named n old new held = ap (λ k. refill k old new) held

-- a slice reference after octets were written through it
abbrev pub written_through : MutBor (List ℕ) → List ℕ → MutBor (List ℕ)
written_through s new = record s { now = written_over s.now new }
