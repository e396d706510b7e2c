-- Order keys: octets whose plain order is the canonical order of names (RFC 4034 section 6.1).
use Rattle.std.specs.Prelude.{◌≡◌, ℕ, ◌+◌, ◌≤◌, if◌then◌else◌, nat_lt, List, [], ◌∷◌, ◌++◌, length, map}
use Rattle.std.specs.List.{flat_map}
use Rattle.dns_octets.specs.Lowered.{lowered}
use Rattle.dns_wire.specs.Wire.{wire}
use Rattle.std.specs.declared.cmp.Ordering.{Ordering}
use Rattle.zone_record.specs.Names.{labels_from_root, name_order}

-- an octet of a label in a key: 0 and 1 are pairs that begin with 1, so that a single 0 ends a label
abbrev pub key_octets : ℕ → List ℕ
key_octets o = if nat_lt o 2 then 1 ∷ (o + 1) ∷ [] else o ∷ []

-- a label in a key: its octets, then a 0
abbrev pub label_key : List ℕ → List ℕ
label_key label = flat_map key_octets label ++ 0 ∷ []

-- the order key of a name: its labels from the root to the first, in lower case
abbrev pub order_key : List (List ℕ) → List ℕ
order_key labels = flat_map label_key (labels_from_root labels)

-- the new octets are the old ones and then the key of the name with this wire format
abbrev pub AppendsKey : List ℕ → List ℕ → List ℕ → Type 0
AppendsKey octets old new = (labels : List (List ℕ)) → octets ≡ wire labels → new ≡ old ++ order_key labels

-- the order of two names whose keys are some shared octets followed by these
abbrev pub IsKeyOrder : List ℕ → List ℕ → Ordering → Type 0
IsKeyOrder left right order = (shared : List ℕ) (a b : List (List ℕ)) → order_key a ≡ shared ++ left → order_key b ≡ shared ++ right → order ≡ name_order a b

-- a name is another or below it (a subdomain, RFC 1034 section 3.1), without regard to case
abbrev pub IsAtOrBelow : List (List ℕ) → List (List ℕ) → Type 0
IsAtOrBelow name top = (below : List (List ℕ)) × (map lowered name ≡ below ++ map lowered top)

-- octets and the key of the name with a wire format are at most 509 octets
abbrev pub HasKeyRoom : List ℕ → List ℕ → Type 0
HasKeyRoom octets old = (labels : List (List ℕ)) → octets ≡ wire labels → length old + length (order_key labels) ≤ 509
