-- One more part follows others.
use Rattle.std.proofs.Common.{ℕ, ◌≡◌, ◌+◌, ◌-◌, ◌++◌, List, [], ◌∷◌, sym, arith}
use Rattle.zone_parts.specs.PartSpans.{EndsPart, FollowTo, PartSpan}

follow_on : (parts : List PartSpan) (from began len to : ℕ) → FollowTo parts from began → began + len ≡ to → FollowTo (parts ++ record { at = began; len = len } ∷ []) from to
follow_on [] from began len to h e = (sym h, e)
follow_on (p ∷ parts) from began len to h e = (h.0, follow_on parts (p.at + p.len) began len to h.1 e)

pub part_ends : (began at : ℕ) → EndsPart began (at - began) at
part_ends began at = λ parts whole within. follow_on parts 0 began (at - began) at whole (omega (arith, within))
