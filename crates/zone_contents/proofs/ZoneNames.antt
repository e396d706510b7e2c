-- Names in a zone, read back from their keys.
use Rattle.std.proofs.Common.{ℕ, ◌≡◌, ◌+◌, ◌≤◌, Bool, true, false, List, [], ◌∷◌, ◌++◌, length, map, refl, sym, ap, ◌∙◌, subst, arith, append_assoc, length-append}
use Rattle.std.specs.Prelude.{All, ◌==◌, if◌then◌else◌, reverse}
use Rattle.std.specs.List.{flat_map}
use Rattle.std.specs.Cmp.Lexicographic.{slice_cmp}
use Rattle.std.proofs.lemmas.Bool.{eqb-true}
use Rattle.std.proofs.lemmas.List.{append_cancel_left, reverse-append}
use Rattle.std.proofs.lemmas.Grind.{flat_map-append}
use Rattle.std.proofs.lemmas.List.Elements.{All-nil, All-cons, All-head, All-tail}
use Rattle.std.proofs.lemmas.List.Sorted.{All-permutation, IsPermutation-reverse}
use Rattle.dns_octets.specs.Lowered.{lowered}
use Rattle.dns_wire.specs.Labelled.{wire_same}
use Rattle.dns_wire.specs.Limits.{max_label}
use Rattle.dns_wire.specs.Wire.{wire, wire_label, IsName}
use Rattle.dns_wire.proofs.Wires.{length_wire}
use Rattle.rdata_tokens.specs.NameSpelling.{IsWireName}
use Rattle.zone_record.specs.KeyNames.{key_name, AreKeyLabels}
use Rattle.zone_record.specs.Keys.{label_key, order_key, IsAtOrBelow}
use Rattle.zone_record.specs.Names.{labels_from_root, name_order, octet_order}
use Rattle.zone_record.proofs.BelowKeys.{begins_below}
use Rattle.zone_record.proofs.KeyNames.{name_below, name_read}
use Rattle.zone_record.proofs.KeyOrders.{key_order}
use Rattle.zone_record.proofs.KeyRooms.{name_room}
use Rattle.zone_record.proofs.LoweredNames.{lowered_again, lowered_labels, lowered_name}
use Rattle.zone_contents.specs.Keys.{IsApex, IsNameKey, key_in_zone, name_in_zone, whole_key, zone_key}
use Rattle.zone_contents.proofs.ZoneKeys.{keys_in_order, whole_is, zone_key_long}

pub all_again : (labels : List (List ℕ)) → map lowered (map lowered labels) ≡ map lowered labels
all_again [] = refl
all_again (l ∷ labels) = λ i. lowered_again l i ∷ all_again labels i

-- the order key of a name is that of the name in lower case
pub lower_key : (name : List (List ℕ)) → order_key (map lowered name) ≡ order_key name
lower_key name = ap (λ labels. flat_map label_key (reverse labels)) (all_again name)

pub lower_order : (a b : List (List ℕ)) → name_order (map lowered a) b ≡ name_order a b
lower_order a b = ap (λ labels. slice_cmp octet_order (reverse labels) (labels_from_root b)) (all_again a)

-- the name with the key of a name
pub name_is : (apex name : List (List ℕ)) → name_in_zone apex (key_in_zone apex name) ≡ map lowered name
name_is apex name = ap key_name (whole_is (order_key apex) (order_key name)) ∙ name_read name

pub owner_is : (apex : List (List ℕ)) (key : List ℕ) (k : IsNameKey apex key) → name_in_zone apex key ≡ map lowered k.name
owner_is apex key k = ap (name_in_zone apex) k.is ∙ name_is apex k.name

-- keys of names compare as the names
pub key_is_order : (apex : List (List ℕ)) (key : List ℕ) (k : IsNameKey apex key) (name : List (List ℕ)) → octet_order key (key_in_zone apex name) ≡ name_order (name_in_zone apex key) name
key_is_order apex key k name =
    ap (λ l. octet_order l (key_in_zone apex name)) k.is
    ∙ keys_in_order (order_key apex) (order_key k.name) (order_key name)
    ∙ sym (key_order k.name name) ∙ sym (lower_order k.name name)
    ∙ ap (λ n. name_order n name) (sym (owner_is apex key k))

pub keys_are_order : (apex : List (List ℕ)) (key other : List ℕ) → IsNameKey apex key → IsNameKey apex other → octet_order key other ≡ name_order (name_in_zone apex key) (name_in_zone apex other)
keys_are_order apex key other k l =
    ap (octet_order key) (l.is ∙ ap (zone_key (order_key apex)) (sym (lower_key l.name)))
    ∙ key_is_order apex key k (map lowered l.name)
    ∙ ap (name_order (name_in_zone apex key)) (sym (owner_is apex other l))

-- an apex is in lower case
pub apex_lower : (key octets : List ℕ) → IsApex key octets → map lowered (key_name key) ≡ key_name key
apex_lower key octets is = sym (name_read (key_name key)) ∙ ap key_name (sym is.key_is)

-- ---- the octets of names

pub is_name_of : (name : List (List ℕ)) → IsWireName (wire name) → IsName name
is_name_of name w = subst IsName (sym (wire_same name w.labels w.whole)) w.is_name

pub lower_wire : (name : List (List ℕ)) → IsWireName (wire name) → lowered (wire name) ≡ wire (map lowered name)
lower_wire name w = lowered_labels name (is_name_of name w)

pub lower_wire_name : (name : List (List ℕ)) → IsWireName (wire name) → IsWireName (wire (map lowered name))
lower_wire_name name w = subst IsWireName (lower_wire name w) (lowered_name (wire name) w)

pub wire_name_short : (name : List (List ℕ)) → IsWireName (wire name) → length (wire name) ≤ 255
wire_name_short name w = omega (arith, length_wire name, (is_name_of name w).fits)

pub key_short : (apex : List (List ℕ)) (key : List ℕ) → IsNameKey apex key → length key ≤ 510
key_short apex key k =
    omega (
      arith,
      ap length k.is,
      zone_key_long (order_key apex) (order_key k.name),
      name_room (wire k.name) k.name (length_wire k.name) (is_name_of k.name k.is_name) k.name refl,
    )

wire-append : (a b : List (List ℕ)) → wire (a ++ b) ≡ wire a ++ wire b
wire-append [] b = refl
wire-append (l ∷ a) b = ap (λ o. wire_label l ++ o) (wire-append a b) ∙ sym (append_assoc (wire_label l) (wire a) (wire b))

all_front : {X : Type 0} (P : X → Type 0) (xs ys : List X) → All P (xs ++ ys) → All P xs
all_front P [] ys h = All-nil P
all_front P (x ∷ xs) ys h = All-cons P x xs (All-head P x (xs ++ ys) h) (all_front P xs ys (All-tail P x (xs ++ ys) h))

all_reversed : {X : Type 0} (P : X → Type 0) (xs : List X) → All P xs → All P (reverse xs)
all_reversed P xs h = All-permutation P xs (reverse xs) (IsPermutation-reverse xs) h

abbrev IsShort : List ℕ → Type 0
IsShort label = length label ≤ max_label

lower_short : (name : List (List ℕ)) → IsWireName (wire name) → All IsShort (map lowered name)
lower_short name w = (is_name_of (map lowered name) (lower_wire_name name w)).short

-- the labels of the key of a name, and of the part of it after the key of a name above
pub key_labels : (name : List (List ℕ)) → IsWireName (wire name) → AreKeyLabels (order_key name)
key_labels name w = (labels_from_root name, refl, all_reversed IsShort (map lowered name) (lower_short name w))

below_key : (apex below : List (List ℕ)) → flat_map label_key (reverse (below ++ map lowered apex)) ≡ order_key apex ++ flat_map label_key (reverse below)
below_key apex below = ap (flat_map label_key) (reverse-append below (map lowered apex)) ∙ flat_map-append label_key (reverse (map lowered apex)) (reverse below)

pub rest_labels : (apex name : List (List ℕ)) (rest : List ℕ) → IsWireName (wire name) → order_key name ≡ order_key apex ++ rest → AreKeyLabels rest
rest_labels apex name rest w e =
    let b : IsAtOrBelow name apex = (begins_below name apex).0 (rest, e) in
    let is : rest ≡ flat_map label_key (reverse b.0) =
    append_cancel_left (order_key apex) rest (flat_map label_key (reverse b.0)) (sym e ∙ ap (λ l. flat_map label_key (reverse l)) b.1 ∙ below_key apex b.0) in
    (reverse b.0, is, all_reversed IsShort b.0 (all_front IsShort b.0 (map lowered apex) (subst (All IsShort) b.1 (lower_short name w))))

not_one : (m : ℕ) → (m ≡ 1 → ⊥) → (m == 1) ≡ false
not_one m h = by (m == 1) refl
  where
    by : (b : Bool) → (m == 1) ≡ b → b ≡ false
    by true e = absurd (h (eqb-true m 1 e))
    by false e = refl

module _ (apex : List (List ℕ)) (key : List ℕ) (k : IsNameKey apex key) where
  abbrev owner : List (List ℕ)
  owner = name_in_zone apex key

  pub owner_wire : IsWireName (wire owner)
  owner_wire = subst (λ n. IsWireName (wire n)) (sym (owner_is apex key k)) (lower_wire_name k.name k.is_name)

  pub owner_short : length (wire owner) ≤ 255
  owner_short = wire_name_short owner owner_wire

  whole : whole_key (order_key apex) key ≡ order_key k.name
  whole = ap (whole_key (order_key apex)) k.is ∙ whole_is (order_key apex) (order_key k.name)

  -- what follows the mark of a name in the zone, and of another one
  module _ (mark : ℕ) (rest : List ℕ) (split : key ≡ mark ∷ rest) where
    within_key : mark ≡ 1 → order_key k.name ≡ order_key apex ++ rest
    within_key m = sym whole ∙ ap (whole_key (order_key apex)) (split ∙ ap (λ n. n ∷ rest) m)

    other_key : (mark ≡ 1 → ⊥) → whole_key (order_key apex) key ≡ rest
    other_key m = ap (whole_key (order_key apex)) split ∙ ap (λ b. if b then order_key apex ++ rest else rest) (not_one mark m)

    pub within_labels : mark ≡ 1 → AreKeyLabels rest
    within_labels m = rest_labels apex k.name rest k.is_name (within_key m)

    pub other_labels : (mark ≡ 1 → ⊥) → AreKeyLabels rest
    other_labels m = subst AreKeyLabels (sym whole ∙ other_key m) (key_labels k.name k.is_name)

    pub within_octets : mark ≡ 1 → map lowered apex ≡ apex → wire (key_name rest) ++ wire apex ≡ wire owner
    within_octets m lower =
        sym (wire-append (key_name rest) apex) ∙ ap (λ n. wire (key_name rest ++ n)) (sym lower) ∙ ap wire (sym (name_below apex rest))
        ∙ ap (λ l. wire (key_name l)) (sym (within_key m) ∙ sym whole)

    pub other_octets : (mark ≡ 1 → ⊥) → wire (key_name rest) ≡ wire owner
    other_octets m = ap (λ l. wire (key_name l)) (sym (other_key m))

    pub within_room : mark ≡ 1 → map lowered apex ≡ apex → length (wire (key_name rest)) + length (wire apex) ≤ 255
    within_room m lower = omega (arith, ap length (within_octets m lower), length-append (wire (key_name rest)) (wire apex), owner_short)

    pub other_room : (mark ≡ 1 → ⊥) → length (wire (key_name rest)) ≤ 255
    other_room m = omega (arith, ap length (other_octets m), owner_short)

-- no key
pub empty_name : (apex : List (List ℕ)) (key : List ℕ) → length key ≡ 0 → [] ≡ wire (name_in_zone apex key)
empty_name apex [] h = refl
empty_name apex (o ∷ os) h = absurd (omega (arith, h))

-- an apex, by its order key
pub apex_is : (name : List (List ℕ)) (key octets : List ℕ) → IsWireName (wire name) → key ≡ order_key name → octets ≡ wire (key_name key) → IsApex key octets
apex_is name key octets w e o = record {
  is_name = subst (λ n. IsWireName (wire n)) (sym (ap key_name e ∙ name_read name)) (lower_wire_name name w);
  key_is = e ∙ sym (lower_key name) ∙ ap order_key (sym (ap key_name e ∙ name_read name));
  octets_are = o;
}
