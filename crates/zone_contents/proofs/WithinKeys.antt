-- Keys of names at the apex of a zone or below it, written label by label.
use Rattle.std.proofs.Common.{ℕ, ◌≡◌, ◌+◌, ◌<◌, ◌≤◌, List, [], ◌∷◌, ◌++◌, length, drop, take, get_or, map, refl, sym, ap, ◌∙◌, subst, arith, append_assoc, append-nil, length-append}
use Rattle.std.specs.Prelude.{All, true}
use Rattle.std.specs.Cmp.Lexicographic.{bytes_decides}
use Rattle.std.specs.Char.{to_ascii_lowercase}
use Rattle.std.specs.List.{flat_map}
use Rattle.std.proofs.lemmas.List.{drop_at, take-map, take_more}
use Rattle.std.proofs.lemmas.List.Elements.{All-append, All-cons, All-head, All-nil, All-tail, All-take}
use Rattle.dns_octets.specs.Lowered.{lowered, same_lowered}
use Rattle.dns_wire.specs.Labelled.{wire_same}
use Rattle.dns_wire.specs.Limits.{max_label}
use Rattle.dns_wire.specs.Wire.{wire, wire_label}
use Rattle.dns_wire.proofs.Wires.{is_nil, length_wire, wire_length_append}
use Rattle.rdata_tokens.specs.NameSpelling.{IsWireName}
use Rattle.zone_record.specs.Keys.{key_octets, label_key, order_key, IsAtOrBelow}
use Rattle.zone_record.specs.Walks.{BeginsWithLabel}
use Rattle.zone_record.proofs.BelowKeys.{begins_below}
use Rattle.zone_record.proofs.KeyOrders.{alone, key_more}
use Rattle.zone_record.proofs.KeyRooms.{name_room}
use Rattle.zone_record.proofs.NameWalks.{first_label, walked_begins, walked_none, wire_name_labels}
use Rattle.zone_rules.proofs.NameParts.{parent_cut}
use Rattle.zone_contents.specs.Keys.{zone_key, IsKeyWithin}
use Rattle.zone_contents.proofs.ZoneKeys.{key_within, zone_key_long}
use Rattle.zone_contents.proofs.ZoneNames.{lower_wire}

-- ---- the apex

pub at_apex : (apex : List (List ℕ)) (octets top : List ℕ) → IsWireName octets → IsWireName top → top ≡ wire apex → same_lowered octets top ≡ true → IsKeyWithin apex octets (1 ∷ [])
at_apex apex octets top w v is same name whole =
    let lower : map lowered name ≡ map lowered apex =
    wire_same _ _ (sym (lower_wire name (subst IsWireName whole w)) ∙ ap lowered (sym whole) ∙ (bytes_decides (lowered octets) (lowered top)).0 same ∙ ap lowered is ∙ lower_wire apex (subst IsWireName is v)) in
    let below : IsAtOrBelow name apex = ([], lower) in
    let rest = (begins_below name apex).1 below in
    let key : order_key name ≡ order_key apex ++ [] = one_key name apex lower ∙ sym (append-nil (order_key apex)) in
    (below, sym (ap (zone_key (order_key apex)) key ∙ key_within (order_key apex) []))
  where
    one_key : (a b : List (List ℕ)) → map lowered a ≡ map lowered b → order_key a ≡ order_key b
    one_key a b e = Prim.cc

-- ---- a name whose first label is before a name at the apex or below it

pub below_apex : (apex : List (List ℕ)) (octets label rest middle new : List ℕ) → octets ≡ wire_label label ++ rest → IsKeyWithin apex rest middle → new ≡ middle ++ label_key (lowered label)
    → IsKeyWithin apex octets new
below_apex apex octets label rest middle new split h e name whole =
    let first = first_label name label rest (sym whole ∙ split) in
    let more = first.0 in
    let had = h more first.2 in
    let after = (begins_below more apex).1 had.0 in
    let part = label_key (lowered label) in
    let key : order_key name ≡ order_key apex ++ (after.0 ++ part) =
    ap order_key first.1 ∙ key_more label more ∙ ap (λ k. k ++ part) after.1 ∙ append_assoc (order_key apex) after.0 part in
    let old : middle ≡ 1 ∷ after.0 = had.1 ∙ ap (zone_key (order_key apex)) after.1 ∙ key_within (order_key apex) after.0 in (
      (lowered label ∷ had.0.0, ap (map lowered) first.1 ∙ ap (λ l. lowered label ∷ l) had.0.1),
      e ∙ ap (λ k. k ++ part) old ∙ sym (ap (zone_key (order_key apex)) key ∙ key_within (order_key apex) (after.0 ++ part)),
    )

module _ (octets : List ℕ) (w : IsWireName octets) where
  pub name_some : 0 < length octets
  name_some = omega (arith, ap length w.whole, ap (λ l. length (wire l)) w.absolute.1, length_wire (w.absolute.0 ++ [] ∷ []), wire_length_append w.absolute.0 ([] ∷ []))

  pub begins_with_label : 0 < length octets → BeginsWithLabel octets
  begins_with_label some = walked_begins octets octets 0 (walked_none octets 0 (wire_name_labels octets w)) some

  module _ (label rest : List ℕ) (split : octets ≡ wire_label label ++ rest) where
    pub short_label : length label ≤ max_label
    short_label =
        let first = first_label w.labels label rest (sym w.whole ∙ split) in
        All-head (λ l. length l ≤ max_label) label first.0 (subst (All (λ l. length l ≤ max_label)) first.1 w.is_name.short)

    pub label_room : (apex : List (List ℕ)) (middle : List ℕ) → IsKeyWithin apex rest middle → length middle + length (label_key (lowered label)) ≤ 510
    label_room apex middle h =
        let first = first_label w.labels label rest (sym w.whole ∙ split) in
        let more = first.0 in
        omega (
          arith,
          name_room octets w.labels (ap length w.whole ∙ length_wire w.labels) w.is_name w.labels w.whole,
          ap length (ap order_key first.1 ∙ key_more label more),
          length-append (order_key more) (label_key (lowered label)),
          ap length (h more first.2).1,
          zone_key_long (order_key apex) (order_key more),
        )

    -- what follows the first label of a name is a name, but for the root
    pub rest_name : 1 < length octets → IsWireName rest
    rest_name long = subst IsWireName (ap (drop (1 + get_or octets 0 0)) split ∙ drop_at (wire_label label) rest (1 + get_or octets 0 0) (omega (arith, count)))
        (parent_cut w.labels octets w.is_name w.absolute w.values w.whole some).name
      where
        count : get_or octets 0 0 ≡ length label
        count = ap (λ o. get_or o 0 0) split

        none_after : (labels : List (List ℕ)) → labels ≡ [] → rest ≡ wire labels → length rest ≡ 0
        none_after labels e is = ap length is ∙ ap (λ l. length (wire l)) e

        some : get_or octets 0 0 ≡ 0 → ⊥
        some none =
            let first = first_label w.labels label rest (sym w.whole ∙ split) in
            let root : label ≡ [] = is_nil label (omega (arith, count, none)) in
            let last = w.is_name.root_last [] first.0 (first.1 ∙ ap (λ l. l ∷ first.0) root) in
            omega (arith, long, ap length split, length-append label rest, none_after first.0 last first.2, count, none)

-- ---- labels without an octet 0 or 1

abbrev IsPlain : ℕ → Type 0
IsPlain o = 1 < o

pub plain_more : (block : List ℕ) (i d : ℕ) → i < length block → All IsPlain (take i block) → 1 < get_or block i d → All IsPlain (take (i + 1) block)
plain_more block i d within h plain =
    subst (All IsPlain) (sym (take_more block i d within)) (All-append IsPlain (take i block) (get_or block i d ∷ []) h (All-cons IsPlain (get_or block i d) [] plain (All-nil IsPlain)))

pub plain_key : (label : List ℕ) → All IsPlain label → flat_map key_octets label ≡ label
plain_key [] h = refl
plain_key (o ∷ os) h = λ i. alone o (All-head IsPlain o os h) i ++ plain_key os (All-tail IsPlain o os h) i

pub lowered_part : (label block lower : List ℕ) → take (length label) block ≡ label → lower ≡ lowered block → take (length label) lower ≡ lowered label
lowered_part label block lower part is = ap (take (length label)) is ∙ take-map to_ascii_lowercase (length label) block ∙ ap lowered part

pub plain_label : (label block : List ℕ) → take (length label) block ≡ lowered label → All IsPlain block → take (length label) block ++ 0 ∷ [] ≡ label_key (lowered label)
plain_label label block part plain =
    ap (λ l. l ++ 0 ∷ []) (part ∙ sym (plain_key (lowered label) (subst (All IsPlain) part (All-take IsPlain (length label) block plain))))
