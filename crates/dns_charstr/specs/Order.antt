-- The canonical order of character strings.
use Rattle.std.specs.Prelude.{ℕ, List}
use Rattle.std.specs.Ordering.{nat_cmp}
use Rattle.std.specs.Cmp.Lexicographic.{slice_cmp}
use Rattle.std.specs.declared.cmp.Ordering.{Ordering}
use Rattle.dns_charstr.specs.Wire.{wire_of}

-- the order of the wire formats: by length, then by the octets as they are
abbrev pub wire_order : List ℕ → List ℕ → Ordering
wire_order a b = slice_cmp nat_cmp (wire_of a) (wire_of b)
