-- Comparison of octets without regard to the case of letters (RFC 4343).
use Rattle.std.specs.Prelude.{ℕ, List, map, Bool, nat_eq}
use Rattle.std.specs.List.{flat_map}
use Rattle.std.specs.Hash.{HashWrites, u8 as write_u8}
use Rattle.std.specs.Ordering.{nat_cmp}
use Rattle.std.specs.Char.{to_ascii_lowercase}
use Rattle.std.specs.Cmp.Lexicographic.{pointwise, slice_cmp}
use Rattle.std.specs.declared.cmp.Ordering.{Ordering}

-- the octets with the letters A to Z in lower case
abbrev pub lowered : List ℕ → List ℕ
lowered = map to_ascii_lowercase

-- equal without regard to the case of letters
abbrev pub same_lowered : List ℕ → List ℕ → Bool
same_lowered a b = pointwise nat_eq (lowered a) (lowered b)

-- the order of the lowered octets: by the first difference, or else by length
abbrev pub lowered_order : List ℕ → List ℕ → Ordering
lowered_order a b = slice_cmp nat_cmp (lowered a) (lowered b)

-- what a hasher is fed: the lowered octets, one by one
abbrev pub hash_writes : List ℕ → HashWrites
hash_writes octets = flat_map write_u8 (lowered octets)
