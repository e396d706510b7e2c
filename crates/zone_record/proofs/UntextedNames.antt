-- Names in data of types without a text form.
use Rattle.std.proofs.Common.{ℕ, zero, suc, Bool, true, false, ◌&&◌, ◌≡◌, ◌<◌, ◌≤◌, ◌+◌, ◌-◌, Option, Some, None, List, [], ◌∷◌, ◌++◌, length, take, drop, refl, sym, ap, subst, ◌∙◌, arith, append_assoc, length-append, drop-drop}
use Rattle.std.specs.Prelude.{All, nat_lt, nat_le, is_some, if◌then◌else◌, replicate, slice_index, ◌==◌, ◌||◌, ◌/◌}
use Rattle.std.specs.List.{list_all}
use Rattle.std.specs.Option.{option_map, option_and_then}
use Rattle.std.specs.Char.{to_ascii_lowercase}
use Rattle.std.proofs.Math.Seq.{take-append_seam, drop-append_seam, take-append-add, drop-append-add}
use Rattle.std.proofs.lemmas.Bool.{leb-true, le-leb, ltb-true, lt-ltb}
use Rattle.std.proofs.lemmas.List.{map-append, take-append-drop, length-replicate, length-take-le, length-drop, take_all}
use Rattle.std.proofs.lemmas.List.Elements.{All-nil, All-cons, All-head, All-tail, All-drop, All-take}
use Rattle.dns_octets.specs.Lowered.{lowered}
use Rattle.dns_wire.specs.Wire.{wire, wire_label, IsPlain}
use Rattle.dns_wire.proofs.Wires.{wire_length_append, length_wire, IsName-absolute}
use Rattle.rdata_tokens.specs.Forms.{FindsWidth}
use Rattle.rdata_tokens.specs.NameSpelling.{IsWireName}
use Rattle.rdata_tokens.specs.Spelling.{AreOctetValues}
use Rattle.rdata_tokens.proofs.NameFronts.{name_front_plain, names_in_front}
use Rattle.rdata_fields.specs.declared.field.Field.{Field}
use Rattle.rdata_fields.specs.declared.field.Field.TheVariants.{Number8, Name as OfName}
use Rattle.rdata_values.specs.Rtype as Rtype
use Rattle.rdata_values.specs.declared.types.RecordType.{RecordType}
use Rattle.zone_record.specs.FieldForms.{StartsWithFields, CanonicalFields}
use Rattle.zone_record.specs.EmbeddedNames.{names_after_octets, address_form, labels_before_root, if_at_most, name_size, names_size, fields_of_form, untexted_form, fields_to_last_name, lowered_between}
use Rattle.zone_record.specs.declared.embedded_names.NamePlaces.{NamePlaces}

-- ---- the first name

-- a label of at most 63 octets is passed
label_passed : (more n : ℕ) (octets : List ℕ) → suc n ≤ 63 → suc n ≤ length octets → labels_before_root (suc more) (suc n ∷ octets) ≡ option_map (λ width. 2 + n + width) (labels_before_root more (drop (suc n) octets))
label_passed more n octets small long = by (nat_le (suc n) 63) (nat_le (suc n) (length octets)) (le-leb (suc n) 63 small) (le-leb (suc n) (length octets) long)
  where
    next : Option ℕ
    next = option_map (λ width. 2 + n + width) (labels_before_root more (drop (suc n) octets))

    by : (a b : Bool) → a ≡ true → b ≡ true → (if a && b then next else None) ≡ next
    by true true h k = refl
    by true false h k = absurd cc
    by false b h k = absurd cc

labels_found : (front : List (List ℕ)) (more : List ℕ) (count : ℕ) → All IsPlain front → length front < count
    → labels_before_root count (wire (front ++ [] ∷ []) ++ more) ≡ Some (length (wire (front ++ [] ∷ [])))
labels_found front more zero p few = absurd (omega arith)
labels_found [] more (suc count) p few = refl
labels_found ([] ∷ ls) more (suc count) p few = absurd (let plain = All-head IsPlain [] ls p in omega (arith, plain.0))
labels_found ((x ∷ xs) ∷ ls) more (suc count) p few =
    let l : List ℕ = x ∷ xs in
    let name : List (List ℕ) = ls ++ [] ∷ [] in
    let plain = All-head IsPlain l ls p in
    let later = labels_found ls more count (All-tail IsPlain l ls p) (omega (arith, few)) in
    let off : drop (suc (length xs)) (l ++ (wire name ++ more)) ≡ wire name ++ more = drop-append_seam l (wire name ++ more) in
    let long : 2 + length xs + length (wire name) ≡ length (wire (l ∷ name)) = omega (arith, length-append l (wire name)) in
    ap (labels_before_root (suc count)) (append_assoc (wire_label l) (wire name) more)
    ∙ label_passed count (length xs) (l ++ (wire name ++ more)) (omega (arith, plain.1)) (omega (arith, length-append l (wire name ++ more)))
    ∙ ap (λ o. option_map (λ width. 2 + length xs + width) (labels_before_root count o)) off
    ∙ ap (option_map (λ width. 2 + length xs + width)) later ∙ ap Some long

-- octets begin with labels and the root, of `width` octets
record EndsLabels (octets : List ℕ) (width : ℕ) : Type 0 where
  front : List (List ℕ)
  rest : List ℕ
  plain : All IsPlain front
  whole : octets ≡ wire (front ++ [] ∷ []) ++ rest
  long : width ≡ length (wire (front ++ [] ∷ []))

labels_are : (count : ℕ) (octets : List ℕ) (width : ℕ) → labels_before_root count octets ≡ Some width → EndsLabels octets width
labels_are zero octets width h = absurd cc
labels_are (suc count) [] width h = absurd cc
labels_are (suc count) (zero ∷ octets) width h = record { front = []; rest = octets; plain = All-nil IsPlain; whole = refl; long = (let e : Some 1 ≡ Some width = h in cc) }
labels_are (suc count) (suc n ∷ octets) width h =
    by (nat_le (suc n) 63) (nat_le (suc n) (length octets)) (labels_before_root count (drop (suc n) octets)) refl refl (labels_are count (drop (suc n) octets)) h
  where
    by : (a b : Bool) (o : Option ℕ) → nat_le (suc n) 63 ≡ a → nat_le (suc n) (length octets) ≡ b → ((w : ℕ) → o ≡ Some w → EndsLabels (drop (suc n) octets) w)
        → (if a && b then option_map (λ w. 2 + n + w) o else None) ≡ Some width → EndsLabels (suc n ∷ octets) width
    by false b o p q r e = absurd cc
    by true false o p q r e = absurd cc
    by true true None p q r e = absurd cc
    by true true (Some w) p q r e =
        let later = r w refl in
        let label = take (suc n) octets in
        let long : length label ≡ suc n = length-take-le (suc n) octets (leb-true (suc n) (length octets) q) in
        let small : suc n ≤ 63 = leb-true (suc n) 63 p in
        let name = later.front ++ [] ∷ [] in
        let is : 2 + n + w ≡ width = cc in
        record {
          front = label ∷ later.front;
          rest = later.rest;
          plain = All-cons IsPlain label later.front (omega (arith, long), omega (arith, long, small)) later.plain;
          whole = (λ i. sym long i ∷ sym (take-append-drop (suc n) octets) i) ∙ ap (λ o. length label ∷ (label ++ o)) later.whole ∙ ap (λ o. length label ∷ o) (sym (append_assoc label (wire name) later.rest));
          long = omega (arith, is, long, later.long, length-append label (wire name));
        }

labels_few : (labels : List (List ℕ)) → length labels ≤ length (wire labels)
labels_few [] = omega arith
labels_few (l ∷ ls) = let later = labels_few ls in omega (arith, later, length-append l (wire ls))

-- the labels of the first name are found
name_labels : (form rest : List ℕ) → IsWireName form → labels_before_root (length (form ++ rest)) (form ++ rest) ≡ Some (length form)
name_labels form rest h =
    let front = h.absolute.0 in
    let whole : form ≡ wire (front ++ [] ∷ []) = h.whole ∙ ap wire h.absolute.1 in
    let few = labels_few (front ++ [] ∷ []) in
    let enough : length front < length (form ++ rest) = omega (arith, few, length-append front ([] ∷ []), ap length whole, length-append form rest) in
    ap (λ f. labels_before_root (length (form ++ rest)) (f ++ rest)) whole
    ∙ labels_found front rest (length (form ++ rest)) (name_front_plain h.labels front h.is_name h.absolute.1) enough ∙ ap Some (sym (ap length whole))

name_short : (form : List ℕ) → IsWireName form → length form ≤ 255
name_short form h = let fits = h.is_name.fits in omega (arith, fits, ap length h.whole, length_wire h.labels)

pub name_found : (octets : List ℕ) → AreOctetValues octets → FindsWidth IsWireName octets (name_size octets)
name_found octets values = by (labels_before_root (length octets) octets) refl
  where
    never : (o : Option ℕ) → labels_before_root (length octets) octets ≡ o → ((width : ℕ) → o ≡ Some width → width ≤ 255 → ⊥) → (form rest : List ℕ) → IsWireName form → octets ≡ form ++ rest → ⊥
    never o is none form rest name e =
        none (length form) (sym is ∙ ap (λ x. labels_before_root (length x) x) e ∙ name_labels form rest name) (name_short form name)

    named : (width : ℕ) → EndsLabels octets width → width ≤ 255 → (width ≤ length octets) × IsWireName (take width octets)
    named width l few =
        let labels = l.front ++ [] ∷ [] in
        let cut : take width octets ≡ wire labels = ap (λ n. take n octets) l.long ∙ ap (take (length (wire labels))) l.whole ∙ take-append_seam (wire labels) l.rest in (
          omega (arith, l.long, ap length l.whole, length-append (wire labels) l.rest),
          record {
            labels = labels;
            is_name = IsName-absolute l.front l.plain (omega (arith, few, l.long, length_wire labels, wire_length_append l.front ([] ∷ [])));
            absolute = (l.front, refl);
            values = All-take (λ o. o < 256) width octets values;
            whole = cut;
          },
        )

    within : (width : ℕ) (b : Bool) → labels_before_root (length octets) octets ≡ Some width → nat_le width 255 ≡ b → FindsWidth IsWireName octets (if b then Some width else None)
    within width true is few = named width (labels_are (length octets) octets width is) (leb-true width 255 few)
    within width false is many = never (Some width) is (λ w e few. let same : width ≡ w = cc in let le = le-leb w 255 few in let wrong : nat_le w 255 ≡ false = ap (λ n. nat_le n 255) (sym same) ∙ many in cc)

    by : (o : Option ℕ) → labels_before_root (length octets) octets ≡ o → FindsWidth IsWireName octets (if_at_most 255 o)
    by None is = never None is (λ width e few. cc)
    by (Some width) is = within width (nat_le width 255) is refl

-- a width is found in one way
widths_same : (octets : List ℕ) (a b : Option ℕ) → FindsWidth IsWireName octets a → FindsWidth IsWireName octets b → a ≡ b
widths_same octets None None h k = refl
widths_same octets None (Some n) h k = absurd (h (take n octets) (drop n octets) k.1 (sym (take-append-drop n octets)))
widths_same octets (Some m) b h k =
    let form = take m octets in
    let found = names_in_front.width form (drop m octets) b h.1 (subst (λ o. FindsWidth IsWireName o b) (sym (take-append-drop m octets)) k) in
    ap Some (sym (length-take-le m octets h.0)) ∙ sym found

pub size_is : (octets : List ℕ) (found : Option ℕ) → AreOctetValues octets → FindsWidth IsWireName octets found → found ≡ name_size octets
size_is octets found values h = widths_same octets found (name_size octets) h (name_found octets values)

-- ---- a number of names

next_names : (names i : ℕ) (rest : List ℕ) → i < names → names_size (names - i) rest ≡ option_and_then (λ width. option_map (λ more. width + more) (names_size (names - (i + 1)) (drop width rest))) (name_size rest)
next_names names i rest lt = let one : names - i ≡ suc (names - (i + 1)) = omega arith in ap (λ n. names_size n rest) one

-- some of the names are passed
pub record NameWalk (names i width : ℕ) (octets : List ℕ) : Type 0 where
  pub within : width ≤ length octets
  pub same : names_size names octets ≡ option_map (λ more. width + more) (names_size (names - i) (drop width octets))

pub walk_none : (names : ℕ) (octets : List ℕ) → NameWalk names 0 0 octets
walk_none names octets = record {
  within = omega arith;
  same = (let all : names - 0 ≡ names = omega arith in map_none (names_size names octets) ∙ ap (λ n. option_map (λ more. 0 + more) (names_size n octets)) (sym all));
}
  where
    map_none : (o : Option ℕ) → o ≡ option_map (λ more. 0 + more) o
    map_none None = refl
    map_none (Some x) = let e : x ≡ 0 + x = omega arith in ap Some e

pub walk_failed : (names i width : ℕ) (octets : List ℕ) → NameWalk names i width octets → i < names → None ≡ name_size (drop width octets) → None ≡ names_size names octets
walk_failed names i width octets w lt none =
    sym (w.same ∙ ap (option_map (λ more. width + more)) (next_names names i (drop width octets) lt ∙ ap (option_and_then (λ m. option_map (λ more. m + more) (names_size (names - (i + 1)) (drop m (drop width octets))))) (sym none)))

map_twice : (m n : ℕ) (o : Option ℕ) → option_map (λ more. m + more) (option_map (λ more. n + more) o) ≡ option_map (λ more. (m + n) + more) o
map_twice m n None = refl
map_twice m n (Some x) = let e : m + (n + x) ≡ (m + n) + x = omega arith in ap Some e

pub walk_more : (names i width count : ℕ) (octets : List ℕ) → NameWalk names i width octets → i < names → Some count ≡ name_size (drop width octets) → count ≤ length (drop width octets) → NameWalk names (i + 1) (width + count) octets
walk_more names i width count octets w lt some few = record {
  within = (let h = w.within in omega (arith, few, length-drop width octets));
  same = w.same ∙ ap (option_map (λ more. width + more)) (next_names names i (drop width octets) lt ∙ ap (option_and_then (λ m. option_map (λ more. m + more) (names_size (names - (i + 1)) (drop m (drop width octets))))) (sym some))
      ∙ map_twice width count (names_size (names - (i + 1)) (drop count (drop width octets))) ∙ ap (λ o. option_map (λ more. (width + count) + more) (names_size (names - (i + 1)) o)) (drop-drop count width octets);
}

pub walk_done : (names i width : ℕ) (octets : List ℕ) → NameWalk names i width octets → names ≤ i → Some width ≡ names_size names octets
walk_done names i width octets w le =
    let none : names - i ≡ 0 = omega arith in
    let whole : width + 0 ≡ width = omega arith in
    sym (w.same ∙ ap (λ n. option_map (λ more. width + more) (names_size n (drop width octets))) none ∙ ap Some whole)

-- a slice from an offset on
pub behind : (width count : ℕ) (octets : List ℕ) → count ≡ length octets - width → take count (drop width octets) ≡ drop width octets
behind width count octets is = take_all count (drop width octets) (omega (arith, is, length-drop width octets))

pub size_behind : (octets : List ℕ) (width count : ℕ) (found : Option ℕ) → AreOctetValues octets → count ≡ length octets - width → FindsWidth IsWireName (take count (drop width octets)) found → found ≡ name_size (drop width octets)
size_behind octets width count found values is h =
    size_is (drop width octets) found (All-drop (λ o. o < 256) width octets values) (subst (λ o. FindsWidth IsWireName o found) (behind width count octets is) h)

-- ---- octets of which some are lowered

pub between_is : (start end count : ℕ) (octets : List ℕ) → count ≡ length octets - end
    → (take start octets ++ lowered (take (end - start) (drop start octets))) ++ take count (drop end octets) ≡ lowered_between start end octets
between_is start end count octets is =
    append_assoc (take start octets) (lowered (take (end - start) (drop start octets))) (take count (drop end octets))
    ∙ ap (λ o. take start octets ++ (lowered (take (end - start) (drop start octets)) ++ o)) (behind end count octets is)

-- the octets before names are unchanged
numbers_form : (count : ℕ) (fields : List Field) (octets form : List ℕ) → CanonicalFields (replicate count Number8 ++ fields) octets form
    → (count ≤ length octets) × ((others : List ℕ) × (form ≡ take count octets ++ others) × CanonicalFields fields (drop count octets) others)
numbers_form zero fields octets form h = (omega arith, (form, refl, h))
numbers_form (suc count) fields octets form h = by h.0 (sym h.3.0) h.4 h.5 (numbers_form count fields h.1 h.2 h.6)
  where
    by : (part : List ℕ) → 1 ≡ length part → octets ≡ part ++ h.1 → form ≡ part ++ h.2
        → (count ≤ length h.1) × ((others : List ℕ) × (h.2 ≡ take count h.1 ++ others) × CanonicalFields fields (drop count h.1) others)
        → (suc count ≤ length octets) × ((others : List ℕ) × (form ≡ take (suc count) octets ++ others) × CanonicalFields fields (drop (suc count) octets) others)
    by [] one p q k = absurd (omega (arith, one))
    by (x ∷ []) one p q k = (
      omega (arith, k.0, ap length p),
      (
        k.1.0,
        q ∙ ap (λ o. x ∷ o) k.1.1 ∙ ap (λ o. take (suc count) o ++ k.1.0) (sym p),
        subst (λ o. CanonicalFields fields (drop (suc count) o) k.1.0) (sym p) k.1.2,
      ),
    )
    by (x ∷ y ∷ more) one p q k = absurd (omega (arith, one))

some_same : (m n : ℕ) → Some m ≡ Some n → m ≡ n
some_same m n h = cc

-- the width of the first name
front_size : (part rest octets : List ℕ) → AreOctetValues octets → IsWireName part → octets ≡ part ++ rest → name_size octets ≡ Some (length part)
front_size part rest octets values name is = names_in_front.width part rest (name_size octets) name (subst (λ o. FindsWidth IsWireName o (name_size octets)) is (name_found octets values))

-- the first names are lowered
names_form : (names width : ℕ) (octets form : List ℕ) → AreOctetValues octets → CanonicalFields (replicate names OfName) octets form → names_size names octets ≡ Some width → form ≡ lowered (take width octets) ++ drop width octets
names_form zero width octets form values h is = h ∙ ap (λ n. lowered (take n octets) ++ drop n octets) (some_same 0 width is)
names_form (suc names) width octets form values h is =
    let rest_is : drop (length h.0) octets ≡ h.1 = ap (drop (length h.0)) h.4 ∙ drop-append_seam h.0 h.1 in
    let later_values : AreOctetValues h.1 = subst AreOctetValues rest_is (All-drop (λ o. o < 256) (length h.0) octets values) in
    by rest_is (names_size names h.1) refl (λ more some. names_form names more h.1 h.2 later_values h.6 some)
  where
    part : List ℕ
    part = h.0

    sized : drop (length part) octets ≡ h.1 → names_size (suc names) octets ≡ option_map (λ more. length part + more) (names_size names h.1)
    sized rest_is = ap (option_and_then (λ w. option_map (λ more. w + more) (names_size names (drop w octets)))) (front_size part h.1 octets values h.3 h.4)
        ∙ ap (λ o. option_map (λ more. length part + more) (names_size names o)) rest_is

    whole : (more : ℕ) → h.2 ≡ lowered (take more h.1) ++ drop more h.1 → length part + more ≡ width → form ≡ lowered (take width octets) ++ drop width octets
    whole more later long =
        h.5 ∙ ap (λ o. lowered part ++ o) later ∙ sym (append_assoc (lowered part) (lowered (take more h.1)) (drop more h.1))
        ∙ ap (λ o. o ++ drop more h.1) (sym (map-append to_ascii_lowercase part (take more h.1)))
        ∙ (λ i. lowered (sym (take-append-add part h.1 more) i) ++ sym (drop-append-add part h.1 more) i)
        ∙ (λ i. lowered (take (long i) (sym h.4 i)) ++ drop (long i) (sym h.4 i))

    by : drop (length part) octets ≡ h.1 → (o : Option ℕ) → names_size names h.1 ≡ o → ((more : ℕ) → o ≡ Some more → h.2 ≡ lowered (take more h.1) ++ drop more h.1) → form ≡ lowered (take width octets) ++ drop width octets
    by rest_is None none later = absurd (let e = sym is ∙ sized rest_is ∙ ap (option_map (λ more. length part + more)) none in cc)
    by rest_is (Some more) some later = whole more (later more refl) (some_same (length part + more) width (ap (option_map (λ more. length part + more)) (sym some) ∙ sym (sized rest_is) ∙ is))

-- ---- octets and names at the start

is_octet_list : (octets : List ℕ) → AreOctetValues octets → list_all (λ o. nat_lt o 256) octets ≡ true
is_octet_list [] h = refl
is_octet_list (o ∷ os) h = both (nat_lt o 256) (list_all (λ x. nat_lt x 256) os) (lt-ltb o 256 (All-head (λ x. x < 256) o os h)) (is_octet_list os (All-tail (λ x. x < 256) o os h))
  where
    both : (a b : Bool) → a ≡ true → b ≡ true → (a && b) ≡ true
    both true b h k = k
    both false b h k = h

octet_list : (octets : List ℕ) → list_all (λ o. nat_lt o 256) octets ≡ true → AreOctetValues octets
octet_list [] h = All-nil (λ o. o < 256)
octet_list (o ∷ os) h = by (nat_lt o 256) refl h (octet_list os)
  where
    by : (b : Bool) → nat_lt o 256 ≡ b → (b && list_all (λ x. nat_lt x 256) os) ≡ true → (list_all (λ x. nat_lt x 256) os ≡ true → AreOctetValues os) → AreOctetValues (o ∷ os)
    by true is e more = All-cons (λ x. x < 256) o os (ltb-true o 256 is) (more e)
    by false is e more = absurd cc

-- the first names, as they are found
names_start : (names width : ℕ) (octets : List ℕ) → AreOctetValues octets → names_size names octets ≡ Some width → StartsWithFields (replicate names OfName) octets
names_start zero width octets values is = tt
names_start (suc names) width octets values is =
    by (name_size octets) (name_found octets values) is (λ w more some. names_start names more (drop w octets) (All-drop (λ o. o < 256) w octets values) some)
  where
    by : (o : Option ℕ) → FindsWidth IsWireName octets o → option_and_then (λ w. option_map (λ more. w + more) (names_size names (drop w octets))) o ≡ Some width
        → ((w more : ℕ) → names_size names (drop w octets) ≡ Some more → StartsWithFields (replicate names OfName) (drop w octets)) → StartsWithFields (replicate (suc names) OfName) octets
    by None found e starts = absurd cc
    by (Some w) found e starts = (take w octets, drop w octets, found.1, sym (take-append-drop w octets), later (names_size names (drop w octets)) refl e)
      where
        later : (o : Option ℕ) → names_size names (drop w octets) ≡ o → option_map (λ more. w + more) o ≡ Some width → StartsWithFields (replicate names OfName) (drop w octets)
        later None none e = absurd cc
        later (Some more) some e = starts w more some

numbers_start : (count : ℕ) (fields : List Field) (octets : List ℕ) → AreOctetValues octets → count ≤ length octets → StartsWithFields fields (drop count octets) → StartsWithFields (replicate count Number8 ++ fields) octets
numbers_start zero fields octets values few h = h
numbers_start (suc count) fields [] values few h = absurd (omega arith)
numbers_start (suc count) fields (o ∷ os) values few h =
    (o ∷ [], os, (refl, All-cons (λ x. x < 256) o [] (All-head (λ x. x < 256) o os values) (All-nil (λ x. x < 256))), refl, numbers_start count fields os (All-tail (λ x. x < 256) o os values) (omega arith) h)

-- ---- a form at the start

names_within : (names width : ℕ) (octets : List ℕ) → names_size names octets ≡ Some width → 0 < names → 0 < length octets
names_within zero width octets is some = absurd (omega arith)
names_within (suc names) width [] is some = absurd cc
names_within (suc names) width (o ∷ os) is some = omega arith

-- the fields of a form, by the width of the names
module _ (p : NamePlaces) (octets : List ℕ) (values : AreOctetValues octets) where
  pub form_found : (width : ℕ) → Some width ≡ names_size p.names (drop p.front octets) → replicate p.front Number8 ++ replicate p.names OfName ≡ fields_of_form p octets
  form_found width is = by (list_all (λ o. nat_lt o 256) octets) (names_size p.names (drop p.front octets)) (is_octet_list octets values) is
    where
      by : (b : Bool) (o : Option ℕ) → b ≡ true → Some width ≡ o
          → replicate p.front Number8 ++ replicate p.names OfName ≡ (if b && is_some o then replicate p.front Number8 ++ replicate p.names OfName else [])
      by true (Some w) h e = refl
      by true None h e = absurd cc
      by false o h e = absurd cc

  pub span_form : (width : ℕ) (form : List ℕ) → Some width ≡ names_size p.names (drop p.front octets) → CanonicalFields (fields_of_form p octets) octets form → form ≡ lowered_between p.front (p.front + width) octets
  span_form width form is h =
      let numbers = numbers_form p.front (replicate p.names OfName) octets form (subst (λ fs. CanonicalFields fs octets form) (sym (form_found width is)) h) in
      let values_behind = All-drop (λ o. o < 256) p.front octets values in
      let names = names_form p.names width (drop p.front octets) numbers.1.0 values_behind numbers.1.2 (sym is) in
      let many : width ≡ p.front + width - p.front = omega arith in
      numbers.1.1 ∙ ap (λ o. take p.front octets ++ o) (names ∙ (λ i. lowered (take (many i) (drop p.front octets)) ++ drop-drop width p.front octets i))

-- data begins with its form
starts_if : (b : Bool) (o : Option ℕ) (p : NamePlaces) (octets : List ℕ) → ((width : ℕ) → b ≡ true → o ≡ Some width → StartsWithFields (replicate p.front Number8 ++ replicate p.names OfName) octets)
    → StartsWithFields (if b && is_some o then replicate p.front Number8 ++ replicate p.names OfName else []) octets
starts_if false o p octets h = tt
starts_if true None p octets h = tt
starts_if true (Some width) p octets h = h width refl refl

front_long : (front names : ℕ) (octets : List ℕ) → (0 < front → 0 < names) → (0 < names → 0 < length (drop front octets)) → front ≤ length octets
front_long zero names octets named long = omega arith
front_long (suc front) names octets named long = let h = long (named (omega arith)) in omega (arith, h, length-drop (suc front) octets)

form_starts : (p : NamePlaces) (octets : List ℕ) → (0 < p.front → 0 < p.names) → StartsWithFields (fields_of_form p octets) octets
form_starts p octets named =
    starts_if (list_all (λ o. nat_lt o 256) octets) (names_size p.names (drop p.front octets)) p octets (λ width all is.
    let values = octet_list octets all in
    let behind_values = All-drop (λ o. o < 256) p.front octets values in
    let long = front_long p.front p.names octets named (names_within p.names width (drop p.front octets) is) in
    numbers_start p.front (replicate p.names OfName) octets values long (names_start p.names width (drop p.front octets) behind_values is))

abbrev IsNamed : NamePlaces → Type 0
IsNamed p = 0 < p.front → 0 < p.names

named_if : (b : Bool) (p q : NamePlaces) → IsNamed p → IsNamed q → IsNamed (if b then p else q)
named_if true p q h k = h
named_if false p q h k = k

no_names : IsNamed (names_after_octets 0 0)
no_names h = absurd (omega (arith, h))

some_names : (front names : ℕ) → 0 < names → IsNamed (names_after_octets front names)
some_names front names some h = some

address_is_named : (prefix : ℕ) → IsNamed (address_form prefix)
address_is_named prefix =
    named_if (nat_lt 0 prefix && nat_le prefix 128) (names_after_octets (1 + (128 - prefix + 7) / 8) 1) (names_after_octets 0 0) (some_names (1 + (128 - prefix + 7) / 8) 1 (omega arith)) no_names

form_is_named : (rtype : RecordType) (octets : List ℕ) → IsNamed (untexted_form rtype octets)
form_is_named rtype octets =
    let address = address_form (slice_index octets 0) in
    let of_address : NamePlaces = if rtype == Rtype.a6 then address else names_after_octets 0 0 in
    let of_map : NamePlaces = if rtype == Rtype.px then names_after_octets 2 2 else of_address in
    let of_signature : NamePlaces = if rtype == Rtype.sig then names_after_octets 18 1 else of_map in
    named_if (rtype == Rtype.md || rtype == Rtype.mf || rtype == Rtype.nxt) (names_after_octets 0 1) of_signature (some_names 0 1 (omega arith))
    (named_if (rtype == Rtype.sig) (names_after_octets 18 1) of_map (some_names 18 1 (omega arith))
    (named_if (rtype == Rtype.px) (names_after_octets 2 2) of_address (some_names 2 2 (omega arith)) (named_if (rtype == Rtype.a6) address (names_after_octets 0 0) (address_is_named (slice_index octets 0)) no_names)))

-- RDATA begins with its untexted fields
pub untexted_starts : (rtype : RecordType) (octets : List ℕ) → StartsWithFields (fields_to_last_name rtype octets) octets
untexted_starts rtype octets = form_starts (untexted_form rtype octets) octets (form_is_named rtype octets)

-- ---- the fields in a table

drop_copies : (count copies : ℕ) (more : List Field) → count ≤ copies → drop count (replicate copies Number8 ++ more) ≡ replicate (copies - count) Number8 ++ more
drop_copies zero copies more le = let none : copies ≡ copies - 0 = omega arith in ap (λ n. replicate n Number8 ++ more) none
drop_copies (suc count) zero more le = absurd (omega arith)
drop_copies (suc count) (suc copies) more le = let one : copies - count ≡ suc copies - suc count = omega arith in drop_copies count copies more (omega arith) ∙ ap (λ n. replicate n Number8 ++ more) one

two_names : (names : ℕ) → names ≤ 2 → take names (OfName ∷ OfName ∷ []) ≡ replicate names OfName
two_names zero le = refl
two_names (suc zero) le = refl
two_names (suc (suc zero)) le = refl
two_names (suc (suc (suc n))) le = absurd (omega arith)

pub table_part : (front names count : ℕ) → front ≤ 18 → names ≤ 2 → count ≡ 18 + names - (18 - front) → take count (drop (18 - front) (replicate 18 Number8 ++ (OfName ∷ OfName ∷ []))) ≡ replicate front Number8 ++ replicate names OfName
table_part front names count few two is =
    let whole : 18 - (18 - front) ≡ front = omega arith in
    let long : length (replicate front Number8) ≡ front = length-replicate front Number8 in
    let many : count ≡ length (replicate front Number8) + names = omega arith in
    ap (take count) (drop_copies (18 - front) 18 (OfName ∷ OfName ∷ []) (omega arith) ∙ ap (λ n. replicate n Number8 ++ (OfName ∷ OfName ∷ [])) whole)
    ∙ ap (λ n. take n (replicate front Number8 ++ (OfName ∷ OfName ∷ []))) many ∙ take-append-add (replicate front Number8) (OfName ∷ OfName ∷ []) names
    ∙ ap (λ o. replicate front Number8 ++ o) (two_names names two)

pub some_of : (o : Option ℕ) → is_some o ≡ true → (width : ℕ) × (o ≡ Some width)
some_of None h = absurd cc
some_of (Some width) h = (width, refl)
