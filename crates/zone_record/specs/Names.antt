-- The canonical order of names and of octets (RFC 4034 sections 6.1 and 6.3).
use Rattle.std.specs.Prelude.{◌≡◌, ℕ, List, map, reverse}
use Rattle.std.specs.Ordering.{nat_cmp}
use Rattle.std.specs.Cmp.Lexicographic.{slice_cmp}
use Rattle.std.specs.declared.cmp.Ordering.{Ordering}
use Rattle.dns_octets.specs.Lowered.{lowered}
use Rattle.dns_wire.specs.Wire.{wire}

-- octet by octet, as unsigned numbers; an absent octet is before any other
abbrev pub octet_order : List ℕ → List ℕ → Ordering
octet_order = slice_cmp nat_cmp

-- the labels from the root on, in lower case
abbrev pub labels_from_root : List (List ℕ) → List (List ℕ)
labels_from_root labels = reverse (map lowered labels)

-- label by label from the root on, each octet by octet; an absent label is before any other
abbrev pub name_order : List (List ℕ) → List (List ℕ) → Ordering
name_order a b = slice_cmp octet_order (labels_from_root a) (labels_from_root b)

-- the order of the names that have these octets in wire format
abbrev pub IsNameOrder : List ℕ → List ℕ → Ordering → Type 0
IsNameOrder left right order = (a b : List (List ℕ)) → left ≡ wire a → right ≡ wire b → order ≡ name_order a b
