-- The lengths of order keys.
use Rattle.std.proofs.Common.{ℕ, zero, suc, ◌≡◌, ◌+◌, ◌<◌, ◌≤◌, ◌*◌, List, [], ◌∷◌, ◌++◌, length, get_or, take, map, refl, sym, ap, ◌∙◌, arith, length-append}
use Rattle.std.specs.Char.{to_ascii_lowercase}
use Rattle.std.specs.List.{flat_map}
use Rattle.dns_octets.specs.Lowered.{lowered}
use Rattle.dns_wire.specs.Limits.{max_name}
use Rattle.dns_wire.specs.Wire.{wire, wire_label, wire_length, IsName}
use Rattle.zone_record.specs.Keys.{key_octets, label_key, order_key, AppendsKey, HasKeyRoom}
use Rattle.zone_record.specs.Walks.{HasLabels}
use Rattle.zone_record.proofs.KeyOrders.{key_length, key_more, labels_behind}
use Rattle.zone_record.proofs.NameWalks.{first_label}

-- the key of a name of at most 255 octets
short_key : (labels : List (List ℕ)) → length (wire labels) ≤ 255 → 0 + length (order_key labels) ≤ 509
short_key [] h = omega arith
short_key (label ∷ labels) h = omega (arith, h, key_length (label ∷ labels))

pub name_room : (octets : List ℕ) (name : List (List ℕ)) → length octets ≡ wire_length name → IsName name → HasKeyRoom octets []
name_room octets name long is labels h = short_key labels (omega (arith, ap length h, long, is.fits))

-- ---- the key of labels after the first one, and that of the first

pub rest_room : (octets old label rest : List ℕ) → HasKeyRoom octets old → octets ≡ wire_label label ++ rest → HasKeyRoom rest old
rest_room octets old label rest h e labels w =
    omega (arith, h (label ∷ labels) (e ∙ ap (λ x. wire_label label ++ x) w), ap length (key_more label labels), length-append (order_key labels) (label_key (lowered label)))

pub label_room : (octets old middle label rest : List ℕ) → HasLabels 0 octets → HasKeyRoom octets old → octets ≡ wire_label label ++ rest → AppendsKey rest old middle
    → length middle + length (label_key (lowered label)) ≤ 509
label_room octets old middle label rest h room e more =
    let first = first_label h.0 label rest (sym h.1 ∙ e) in
    let whole = room h.0 h.1 in
    omega (
      arith,
      whole,
      ap (λ l. length (order_key l)) first.1,
      ap length (key_more label first.0),
      ap length (labels_behind octets label rest old middle h e more),
      length-append old (order_key first.0),
      length-append (order_key first.0) (label_key (lowered label)),
    )

-- ---- the octets of a label

pub octet_room : (label : List ℕ) (i d : ℕ) → i < length label
    → length (flat_map key_octets (lowered (take i label))) + length (key_octets (to_ascii_lowercase (get_or label i d))) + 1 ≤ length (label_key (lowered label))
octet_room [] i d h = absurd (omega (arith, h))
octet_room (o ∷ label) zero d h =
    let k = key_octets (to_ascii_lowercase o) in
    omega (arith, length-append (k ++ flat_map key_octets (lowered label)) (0 ∷ []), length-append k (flat_map key_octets (lowered label)))
octet_room (o ∷ label) (suc i) d h =
    let k = key_octets (to_ascii_lowercase o) in
    omega (
      arith,
      octet_room label i d (omega (arith, h)),
      length-append k (flat_map key_octets (lowered (take i label))),
      length-append (k ++ flat_map key_octets (lowered label)) (0 ∷ []),
      length-append k (flat_map key_octets (lowered label)),
      length-append (flat_map key_octets (lowered label)) (0 ∷ []),
    )
