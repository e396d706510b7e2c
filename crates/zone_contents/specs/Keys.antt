-- Keys of the names in a zone.
use Rattle.std.specs.Prelude.{◌≡◌, ℕ, ◌==◌, nat_eq, if◌then◌else◌, Bool, List, [], ◌∷◌, ◌++◌, length, take, drop}
use Rattle.std.specs.Cmp.Lexicographic.{pointwise}
use Rattle.std.specs.Ordering.{is_lt}
use Rattle.dns_wire.specs.Wire.{wire}
use Rattle.rdata_tokens.specs.NameSpelling.{IsWireName}
use Rattle.zone_record.specs.KeyNames.{key_name}
use Rattle.zone_record.specs.Keys.{order_key, IsAtOrBelow}
use Rattle.zone_record.specs.Names.{octet_order}

abbrev pub begins_with : List ℕ → List ℕ → Bool
begins_with octets front = pointwise nat_eq (take (length front) octets) front

-- by the order keys of the apex and of a name: a mark, and what follows the apex's key or the whole key
abbrev pub zone_key : List ℕ → List ℕ → List ℕ
zone_key apex key = if begins_with key apex then 1 ∷ drop (length apex) key else (if is_lt (octet_order key apex) then 0 else 2) ∷ key

-- the order key of the name with a key in a zone
abbrev pub whole_key : List ℕ → List ℕ → List ℕ
whole_key apex [] = []
whole_key apex (mark ∷ rest) = if mark == 1 then apex ++ rest else rest

-- the key of a name in a zone
abbrev pub key_in_zone : List (List ℕ) → List (List ℕ) → List ℕ
key_in_zone apex name = zone_key (order_key apex) (order_key name)

-- a name that has these octets is at the apex of a zone or below it, and this is its key there
abbrev pub IsKeyWithin : List (List ℕ) → List ℕ → List ℕ → Type 0
IsKeyWithin apex octets key = (name : List (List ℕ)) → octets ≡ wire name → IsAtOrBelow name apex × (key ≡ key_in_zone apex name)

-- the name with a key in a zone, in lower case
abbrev pub name_in_zone : List (List ℕ) → List ℕ → List (List ℕ)
name_in_zone apex key = key_name (whole_key (order_key apex) key)

-- the octets of the name with an order key of two parts; they are appended to others
abbrev pub joined_octets : List ℕ → List ℕ → List ℕ
joined_octets first second = wire (key_name (first ++ second))

abbrev pub AddsName : List ℕ → List ℕ → List ℕ → List ℕ → Type 0
AddsName first second old new = new ≡ old ++ joined_octets first second

-- the octets of the name with a key in a zone
abbrev pub name_octets : List (List ℕ) → List ℕ → List ℕ
name_octets apex key = wire (name_in_zone apex key)

-- a key is that of a name
pub record IsNameKey (apex : List (List ℕ)) (key : List ℕ) : Type 0 where
  pub name : List (List ℕ)
  pub is_name : IsWireName (wire name)
  pub is : key ≡ key_in_zone apex name

-- an order key, and the octets of the name that has it, in lower case
pub record IsApex (key octets : List ℕ) : Type 0 where
  pub is_name : IsWireName (wire (key_name key))
  pub key_is : key ≡ order_key (key_name key)
  pub octets_are : octets ≡ wire (key_name key)
