-- Laws of names.
use Rattle.std.proofs.Common.{ℕ, suc, ◌≡◌, ◌<◌, ◌≤◌, Bool, true, false, List, [], ◌∷◌, ◌++◌, length, map, take, drop, refl, sym, ap, subst, ◌∙◌, arith, append_assoc, append-nil, length-append, Option}
use Rattle.std.specs.Prelude.{All, if◌then◌else◌, ◌&&◌, nat_lt, nat_le}
use Rattle.std.specs.List.{flat_map}
use Rattle.std.proofs.lemmas.Bool.Decides.{nat_tests}
use Rattle.std.proofs.lemmas.List.Elements.{All-cons, All-head, All-tail, All-append}
use Rattle.dns_symbol.specs.Symbol.{spell}
use Rattle.dns_symbol.specs.declared.symbol.Symbol.{Symbol}
use Rattle.dns_symbol.specs.declared.symbol.Symbol.TheVariants.{Char, SimpleEscape, DecimalEscape}
use Rattle.dns_wire.specs.Building.{closed}
use Rattle.dns_wire.specs.Printed.{joined_by, dotted_by}
use Rattle.dns_wire.specs.Wire.{wire, wire_label, IsPlain, IsName}
use Rattle.dns_wire.specs.ZoneText.{is_zone_escape, zone_symbol, zone_label}
use Rattle.dns_wire.proofs.Texts.{dotted_joined}
use Rattle.dns_wire.proofs.Wires.{wire_append, labels_bytes}
use Rattle.dns_symbol.specs.Escape.{octet_for}
use Rattle.rdata_tokens.specs.Spelling.{AreOctetValues}
use Rattle.rdata_tokens.specs.Forms.{AreSpelled}
use Rattle.rdata_tokens.specs.NameSpelling.{is_label_spelling, AreLabelSpellings, IsLabelPart, dotted_parts, part_labels, SpellsParts, SpellsLabels, root_alone, origin_alone, absolute, relative, SpellsName, IsWireName, IsOrigin}
use Rattle.rdata_tokens.specs.PrintedNames.{labels_in_octets, wire_name_text}
use Rattle.rdata_tokens.proofs.FormLaws.{values_front, values_back, symbols_values}
use Rattle.rdata_tokens.proofs.LabelParts.{labels_are_spellings, labels_nil, dotted_cons}
use Rattle.rdata_tokens.proofs.NameFronts.{name_front_plain}
use Rattle.rdata_tokens.proofs.NameReadings.{name_once}
use Rattle.rdata_tokens.proofs.PrintedLabels.{octets_no_labels, octets_labels}

abbrev IsOctet : ℕ → Type 0
IsOctet o = o < 256

no_values : AreOctetValues []
no_values = λ k d lt. absurd (omega arith)

-- ---- what is spelled are octets

part_values : (part : List Symbol) (rest : List ℕ) → IsLabelPart part → AreOctetValues (flat_map spell part ++ rest) → AreOctetValues (wire_label (map octet_for part))
part_values part rest own h =
    All-cons IsOctet (length (map octet_for part)) (map octet_for part) (omega (arith, own.short, same part)) (symbols_values part rest (labels_are_spellings part own.each) h)
  where
    same : (ss : List Symbol) → length (map octet_for ss) ≡ length ss
    same [] = refl
    same (s ∷ ss) = ap suc (same ss)

parts_values : (parts : List (List Symbol)) (rest : List ℕ) → All IsLabelPart parts → AreOctetValues (dotted_parts parts ++ rest)
    → AreOctetValues (wire (map (map octet_for) parts)) × AreOctetValues rest
parts_values [] rest own h = (no_values, h)
parts_values (part ∷ parts) rest own h =
    let split : AreOctetValues (flat_map spell part ++ 46 ∷ (dotted_parts parts ++ rest)) = subst AreOctetValues (dotted_cons part parts rest) h in
    let behind = values_back (flat_map spell part) (46 ∷ (dotted_parts parts ++ rest)) split in
    let more = parts_values parts rest (All-tail IsLabelPart part parts own) (All-tail IsOctet 46 (dotted_parts parts ++ rest) behind) in (
      All-append IsOctet (wire_label (map octet_for part)) (wire (map (map octet_for) parts))
          (part_values part (46 ∷ (dotted_parts parts ++ rest)) (All-head IsLabelPart part parts own) split) more.0,
      more.1,
    )

closed_values : (last : List Symbol) → AreLabelSpellings last → length last ≤ 63 → AreOctetValues (flat_map spell last) → AreOctetValues (wire (closed (map octet_for last)))
closed_values [] own short h = no_values
closed_values (s ∷ ss) own short h =
    subst AreOctetValues (sym (append-nil (wire_label (map octet_for (s ∷ ss)))))
    (part_values (s ∷ ss) [] (record { each = own; some = omega arith; short = short }) (subst AreOctetValues (sym (append-nil (flat_map spell (s ∷ ss)))) h))

labels_values : (text : List ℕ) (parts : List (List Symbol)) (last : List Symbol) → AreOctetValues text → SpellsParts text parts last → AreOctetValues (wire (part_labels parts last))
labels_values text parts last h k =
    let both = parts_values parts (flat_map spell last) k.front.each (subst AreOctetValues k.front.whole h) in
    subst AreOctetValues (sym (wire_append (map (map octet_for) parts) (closed (map octet_for last))))
    (All-append IsOctet (wire (map (map octet_for) parts)) (wire (closed (map octet_for last))) both.0 (closed_values last k.last_each k.last_short both.1))

root_values : AreOctetValues (0 ∷ [])
root_values = All-cons IsOctet 0 [] (omega arith) no_values

spelled_labels_values : (origin : Option (List (List ℕ))) (text : List ℕ) (labels : List (List ℕ)) → IsOrigin origin → AreOctetValues text → SpellsLabels origin text labels → AreOctetValues (wire labels)
spelled_labels_values origin text labels o h (root_alone e f) = subst (λ l. AreOctetValues (wire l)) (sym f) root_values
spelled_labels_values origin text labels o h (origin_alone e f) = subst IsOrigin f o
spelled_labels_values origin text labels o h (absolute parts some k is) =
    subst (λ l. AreOctetValues (wire l)) (sym is) (subst AreOctetValues (sym (wire_append (part_labels parts []) ([] ∷ [])))
    (All-append IsOctet (wire (part_labels parts [])) (0 ∷ []) (labels_values text parts [] h k) root_values))
spelled_labels_values origin text labels o h (relative parts last others some k no_at p is) =
    subst (λ l. AreOctetValues (wire l)) (sym is) (subst AreOctetValues (sym (wire_append (part_labels parts last) others))
    (All-append IsOctet (wire (part_labels parts last)) (wire others) (labels_values text parts last h k) (subst IsOrigin p o)))

-- ---- what is printed is spelled

take_own : (xs ys : List ℕ) → take (length xs) (xs ++ ys) ≡ xs
take_own [] ys = refl
take_own (x ∷ xs) ys = ap (λ r. x ∷ r) (take_own xs ys)

drop_own : (xs ys : List ℕ) → drop (length xs) (xs ++ ys) ≡ ys
drop_own [] ys = refl
drop_own (x ∷ xs) ys = drop_own xs ys

pub wire_labels : (labels : List (List ℕ)) → labels_in_octets (wire labels) ≡ labels
wire_labels [] = octets_no_labels
wire_labels (l ∷ ls) =
    octets_labels (length l) (l ++ wire ls) ∙ ap (λ t. t ∷ labels_in_octets (drop (length l) (l ++ wire ls))) (take_own l (wire ls))
    ∙ ap (λ r. l ∷ labels_in_octets r) (drop_own l (wire ls)) ∙ ap (λ r. l ∷ r) (wire_labels ls)

name_stands : (o : ℕ) → octet_for (zone_symbol o) ≡ o
name_stands o = by_tests (is_zone_escape o) (nat_lt 32 o && nat_le o 126)
  where
    by_tests : (e p : Bool) → octet_for (if e then SimpleEscape o else (if p then Char o else DecimalEscape o)) ≡ o
    by_tests true p = refl
    by_tests false true = refl
    by_tests false false = refl

name_own : (o : ℕ) → o < 256 → is_label_spelling (zone_symbol o) ≡ true
name_own o low = by_tests (is_zone_escape o) (nat_lt 32 o && nat_le o 126) refl refl
  where
    by_tests : (e p : Bool) → is_zone_escape o ≡ e → (nat_lt 32 o && nat_le o 126) ≡ p → is_label_spelling (if e then SimpleEscape o else (if p then Char o else DecimalEscape o)) ≡ true
    by_tests true p is shown = grind (arith, nat_tests)
    by_tests false true is shown = grind (arith, nat_tests)
    by_tests false false is shown = grind (arith, nat_tests)

pub label_own : (label : List ℕ) → AreOctetValues label → AreLabelSpellings (map zone_symbol label)
label_own [] h = refl
label_own (o ∷ os) h = rw (name_own o (All-head IsOctet o os h), label_own os (All-tail IsOctet o os h)) refl

pub symbols_length : (label : List ℕ) → length (map zone_symbol label) ≡ length label
symbols_length [] = refl
symbols_length (o ∷ os) = ap suc (symbols_length os)

pub label_whole : (label : List ℕ) → zone_label label ≡ flat_map spell (map zone_symbol label)
label_whole label = whole label
  where
    whole : (label : List ℕ) → flat_map (λ o. spell (zone_symbol o)) label ≡ flat_map spell (map zone_symbol label)
    whole [] = refl
    whole (o ∷ os) = ap (λ t. spell (zone_symbol o) ++ t) (whole os)

abbrev pub front_parts : List (List ℕ) → List (List Symbol)
front_parts labels = map (map zone_symbol) labels

pub parts_own : (front : List (List ℕ)) → All IsPlain front → All AreOctetValues front → All IsLabelPart (front_parts front)
parts_own [] p v = λ k d lt. absurd (omega arith)
parts_own (l ∷ ls) p v =
    let plain = All-head IsPlain l ls p in
    All-cons IsLabelPart (map zone_symbol l) (front_parts ls)
    (record { each = label_own l (All-head AreOctetValues l ls v); some = omega (arith, plain.0, symbols_length l); short = omega (arith, plain.1, symbols_length l) })
    (parts_own ls (All-tail IsPlain l ls p) (All-tail AreOctetValues l ls v))

pub label_octets_are : (label : List ℕ) → label ≡ map octet_for (map zone_symbol label)
label_octets_are [] = refl
label_octets_are (o ∷ os) = let e = name_stands o in let f = label_octets_are os in cc

pub parts_octets_are : (front : List (List ℕ)) → front ≡ map (map octet_for) (front_parts front)
parts_octets_are [] = refl
parts_octets_are (l ∷ ls) = let e = label_octets_are l in let f = parts_octets_are ls in cc

-- the text of labels and the root
joined_root : (x : List ℕ) (xs : List (List ℕ)) → joined_by zone_label ((x ∷ xs) ++ [] ∷ []) ≡ dotted_parts (front_parts (x ∷ xs))
joined_root x [] = ap (λ t. t ++ 46 ∷ []) (label_whole x) ∙ sym (append-nil (flat_map spell (map zone_symbol x) ++ 46 ∷ []))
joined_root x (y ∷ ys) =
    ap (λ t. zone_label x ++ 46 ∷ t) (joined_root y ys) ∙ sym (append_assoc (zone_label x) (46 ∷ []) (dotted_parts (front_parts (y ∷ ys))))
    ∙ ap (λ t. (t ++ 46 ∷ []) ++ dotted_parts (front_parts (y ∷ ys))) (label_whole x)

pub printed_parts : (x : List ℕ) (xs : List (List ℕ)) → dotted_by zone_label ((x ∷ xs) ++ [] ∷ []) ≡ dotted_parts (front_parts (x ∷ xs))
printed_parts x xs =
    dotted_joined zone_label ((x ∷ xs) ++ [] ∷ []) (λ e. let l = ap length e in omega (arith, l, length-append xs ([] ∷ []))) ∙ joined_root x xs

pub front_values : (front : List (List ℕ)) → AreOctetValues (wire (front ++ [] ∷ [])) → All AreOctetValues front
front_values front h =
    labels_bytes front (values_front (wire front) (wire ([] ∷ [])) (subst AreOctetValues (wire_append front ([] ∷ [])) h))

pub name_spells : (origin : Option (List (List ℕ))) (labels front : List (List ℕ)) → IsName labels → AreOctetValues (wire labels) → labels ≡ front ++ [] ∷ [] → SpellsLabels origin (dotted_by zone_label labels) labels
name_spells origin labels [] n v e = root_alone (ap (dotted_by zone_label) e) e
name_spells origin labels (x ∷ xs) n v e =
    absolute (front_parts (x ∷ xs)) (omega arith)
    (record {
      front = record {
        each = parts_own (x ∷ xs) (name_front_plain labels (x ∷ xs) n e) (front_values (x ∷ xs) (subst (λ l. AreOctetValues (wire l)) e v));
        whole = ap (dotted_by zone_label) e ∙ printed_parts x xs ∙ sym (append-nil (dotted_parts (front_parts (x ∷ xs))));
      };
      last_each = refl;
      last_short = omega arith;
    })
    (e ∙ ap (λ l. l ++ [] ∷ []) (parts_octets_are (x ∷ xs) ∙ sym (labels_nil (front_parts (x ∷ xs)))))

pub name_text_is : (form : List ℕ) (labels : List (List ℕ)) → form ≡ wire labels → wire_name_text form ≡ dotted_by zone_label labels
name_text_is form labels e = ap (λ f. dotted_by zone_label (labels_in_octets f)) e ∙ ap (dotted_by zone_label) (wire_labels labels)

pub names_spelled : (origin : Option (List (List ℕ))) → IsOrigin origin → AreSpelled IsWireName (SpellsName origin) wire_name_text
names_spelled origin o = record {
  spelled = λ text form h k. record {
    labels = k.labels;
    is_name = k.is_name;
    absolute = k.absolute;
    values = subst AreOctetValues (sym k.whole) (spelled_labels_values origin text k.labels o h k.spelled);
    whole = k.whole;
  };
  back = λ form h. record {
    labels = h.labels;
    spelled = subst (λ t. SpellsLabels origin t h.labels) (sym (name_text_is form h.labels h.whole))
        (name_spells origin h.labels h.absolute.0 h.is_name (subst AreOctetValues h.whole h.values) h.absolute.1);
    is_name = h.is_name;
    absolute = h.absolute;
    whole = h.whole;
  };
  once = name_once origin;
}
