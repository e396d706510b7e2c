-- The number of labels of a name.
use Rattle.std.proofs.Common.{ℕ, ◌≡◌, ◌+◌, ◌-◌, ◌≤◌, List, [], ◌∷◌, length, refl, ap, arith, Some, None}
use Rattle.rdata_tokens.proofs.LabelParts.{wire_length_cons}
use Rattle.dns_wire.specs.Wire.{wire_length, IsName}
use Rattle.zone_rules.specs.Above.{parent_of}

pub none_above : (name : List (List ℕ)) → parent_of name ≡ None → length name - 1 ≡ 0
none_above [] e = refl
none_above (label ∷ []) e = refl
none_above (label ∷ next ∷ others) e = cc

pub one_above : (name above : List (List ℕ)) → parent_of name ≡ Some above → length name - 1 ≡ length above - 1 + 1
one_above [] above e = cc
one_above (label ∷ []) above e = cc
one_above (label ∷ next ∷ others) above e =
    let is : next ∷ others ≡ above = cc in omega (arith, ap length is)

-- each label has an octet at least
few_octets : (name : List (List ℕ)) → length name ≤ wire_length name
few_octets [] = omega arith
few_octets (label ∷ labels) = omega (arith, few_octets labels, wire_length_cons label labels)

pub few_labels : (name : List (List ℕ)) → IsName name → length name ≤ 255
few_labels name n = omega (arith, few_octets name, n.fits)
