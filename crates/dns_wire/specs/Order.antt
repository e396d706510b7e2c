-- How names are compared (RFC 4343).
use Rattle.std.specs.Prelude.{ℕ, List, map, Bool, nat_eq}
use Rattle.std.specs.Cmp.Lexicographic.{pointwise}
use Rattle.dns_octets.specs.Lowered.{lowered}
use Rattle.dns_wire.specs.Wire.{wire}

-- the wire octets of the lowered labels
abbrev pub lowered_wire : List (List ℕ) → List ℕ
lowered_wire labels = wire (map lowered labels)

-- names with the same number of labels, each equal without regard to the case of letters
abbrev pub same_name : List (List ℕ) → List (List ℕ) → Bool
same_name a b = pointwise (pointwise nat_eq) (map lowered a) (map lowered b)
