-- The text of a name in a zone file: by its labels and by its octets alike, and parsed with an origin or without.
use Rattle.std.proofs.Common.{ℕ, ◌≡◌, ◌≢◌, Bool, true, false, true≢false, List, [], ◌∷◌, ◌++◌, length, map, refl, sym, ap, subst, ◌∙◌, arith, append_assoc, append-nil, Option, Some}
use Rattle.std.specs.Prelude.{All, if◌then◌else◌, ◌&&◌, nat_lt, nat_le, slice_index}
use Rattle.std.specs.List.{flat_map}
use Rattle.std.specs.Str.{IsAscii}
use Rattle.std.proofs.lemmas.List.Elements.{All-nil, All-cons, All-head, All-tail}
use Rattle.std.proofs.lemmas.Str.{IsAscii-append, encodes-IsAscii}
use Rattle.std.proofs.lemmas.Str.Ascii.{IsAscii-nil}
use Rattle.dns_symbol.specs.Symbol.{spell}
use Rattle.dns_symbol.specs.declared.symbol.Symbol.TheVariants.{Char, SimpleEscape, DecimalEscape}
use Rattle.dns_wire.specs.Building.{closed}
use Rattle.dns_wire.specs.Printed.{joined_by, dotted_by}
use Rattle.dns_wire.specs.Wire.{wire, IsPlain, IsName, EndsInRoot}
use Rattle.dns_wire.specs.ZoneText.{is_zone_escape, zone_symbol, zone_label, zone_text}
use Rattle.dns_wire.proofs.Chains.{chain_ends}
use Rattle.dns_wire.proofs.Texts.{dotted_joined}
use Rattle.dns_wire.proofs.Walks.{dot_ascii}
use Rattle.dns_wire.proofs.Wires.{labels_bytes}
use Rattle.dns_wire.proofs.ZoneLabels.{zone_ascii}
use Rattle.rdata_tokens.specs.Spelling.{AreOctetValues}
use Rattle.rdata_tokens.specs.NameSpelling.{dotted_parts, part_labels, SpellsLabels, SpellsName, relative}
use Rattle.rdata_tokens.specs.PrintedNames.{wire_name_text}
use Rattle.rdata_tokens.proofs.LabelParts.{dotted_cons}
use Rattle.rdata_tokens.proofs.NameLaws.{front_parts, label_own, label_octets_are, label_whole, name_spells, name_text_is, parts_octets_are, parts_own, symbols_length}

-- ---- one text

joined_ascii : (labels : List (List ℕ)) → All AreOctetValues labels → IsAscii (joined_by zone_label labels)
joined_ascii [] h = IsAscii-nil
joined_ascii (l ∷ []) h = zone_ascii l (All-head AreOctetValues l [] h)
joined_ascii (l ∷ m ∷ ls) h =
    IsAscii-append (zone_label l) (46 ∷ joined_by zone_label (m ∷ ls)) (zone_ascii l (All-head AreOctetValues l (m ∷ ls) h))
    (IsAscii-append (46 ∷ []) (joined_by zone_label (m ∷ ls)) dot_ascii (joined_ascii (m ∷ ls) (All-tail AreOctetValues l (m ∷ ls) h)))

dotted_ascii : (labels : List (List ℕ)) → All AreOctetValues labels → IsAscii (dotted_by zone_label labels)
dotted_ascii [] h = joined_ascii [] h
dotted_ascii ([] ∷ []) h = dot_ascii
dotted_ascii ((x ∷ xs) ∷ []) h = joined_ascii ((x ∷ xs) ∷ []) h
dotted_ascii ([] ∷ b ∷ c) h = joined_ascii ([] ∷ b ∷ c) h
dotted_ascii ((x ∷ xs) ∷ b ∷ c) h = joined_ascii ((x ∷ xs) ∷ b ∷ c) h

zone_text_is : (labels : List (List ℕ)) → AreOctetValues (wire labels) → zone_text labels ≡ dotted_by zone_label labels
zone_text_is labels v = encodes-IsAscii (dotted_by zone_label labels) (dotted_ascii labels (labels_bytes labels v))

pub one_text : (labels : List (List ℕ)) → AreOctetValues (wire labels) → wire_name_text (wire labels) ≡ zone_text labels
one_text labels v = name_text_is (wire labels) labels refl ∙ sym (zone_text_is labels v)

-- ---- absolute names

pub absolute_back : (origin : Option (List (List ℕ))) (name : List (List ℕ)) → IsName name → EndsInRoot name → AreOctetValues (wire name) → SpellsName origin (zone_text name) (wire name)
absolute_back origin name is ends v = record {
  labels = name;
  spelled = subst (λ t. SpellsLabels origin t name) (sym (zone_text_is name v)) (name_spells origin name ends.0 is v ends.1);
  is_name = is;
  absolute = ends;
  whole = refl;
}

-- ---- relative names

-- an octet is not printed as the sign of the origin
no_origin_sign : (o : ℕ) (rest : List ℕ) → spell (zone_symbol o) ++ rest ≡ 64 ∷ [] → ⊥
no_origin_sign o rest h = by (is_zone_escape o) (nat_lt 32 o && nat_le o 126) refl h
  where
    by : (e p : Bool) → is_zone_escape o ≡ e → spell (if e then SimpleEscape o else (if p then Char o else DecimalEscape o)) ++ rest ≡ 64 ∷ [] → ⊥
    by true p is k = omega (arith, ap (λ t. slice_index t 0) k)
    by false true is k =
        let z : o ≡ 64 = ap (λ t. slice_index t 0) k in
        true≢false (subst (λ x. is_zone_escape x ≡ false) z is)
    by false false is k = omega (arith, ap (λ t. slice_index t 0) k)

label_no_sign : (label rest : List ℕ) → IsPlain label → flat_map spell (map zone_symbol label) ++ rest ≡ 64 ∷ [] → ⊥
label_no_sign [] rest plain h = absurd (omega (arith, plain.0))
label_no_sign (o ∷ os) rest plain h =
    no_origin_sign o (flat_map spell (map zone_symbol os) ++ rest) (sym (append_assoc (spell (zone_symbol o)) (flat_map spell (map zone_symbol os)) rest) ∙ h)

-- the text of labels before a last one
abbrev text_of_labels : List (List ℕ) → List ℕ → List ℕ
text_of_labels front last = dotted_parts (front_parts front) ++ flat_map spell (map zone_symbol last)

labels_no_sign : (front : List (List ℕ)) (last : List ℕ) → All IsPlain front → IsPlain last → text_of_labels front last ≡ 64 ∷ [] → ⊥
labels_no_sign [] last p q h = label_no_sign last [] q (append-nil (flat_map spell (map zone_symbol last)) ∙ h)
labels_no_sign (x ∷ xs) last p q h =
    label_no_sign x (46 ∷ text_of_labels xs last) (All-head IsPlain x xs p) (sym (dotted_cons (map zone_symbol x) (front_parts xs) (flat_map spell (map zone_symbol last))) ∙ h)

joined_cons : (label : List ℕ) (labels : List (List ℕ)) (last : List ℕ) → joined_by zone_label (label ∷ (labels ++ last ∷ [])) ≡ zone_label label ++ 46 ∷ joined_by zone_label (labels ++ last ∷ [])
joined_cons label [] last = refl
joined_cons label (l ∷ ls) last = refl

joined_text : (front : List (List ℕ)) (last : List ℕ) → joined_by zone_label (front ++ last ∷ []) ≡ text_of_labels front last
joined_text [] last = label_whole last
joined_text (x ∷ xs) last =
    joined_cons x xs last ∙ ap (λ t. zone_label x ++ 46 ∷ t) (joined_text xs last) ∙ ap (λ t. t ++ 46 ∷ text_of_labels xs last) (label_whole x)
    ∙ sym (dotted_cons (map zone_symbol x) (front_parts xs) (flat_map spell (map zone_symbol last)))

-- a last label that is not the root prints without a dot after it
relative_text : (name front : List (List ℕ)) (last : List ℕ) → name ≡ front ++ last ∷ [] → IsPlain last → dotted_by zone_label name ≡ text_of_labels front last
relative_text name front last is plain = dotted_joined zone_label name no_root ∙ ap (joined_by zone_label) is ∙ joined_text front last
  where
    root_of : (front : List (List ℕ)) → front ++ last ∷ [] ≡ [] ∷ [] → last ≡ []
    root_of [] e = ap (λ l. slice_first l) e
      where
        slice_first : List (List ℕ) → List ℕ
        slice_first [] = []
        slice_first (l ∷ ls) = l
    root_of (x ∷ []) e = absurd (omega (arith, ap length e))
    root_of (x ∷ y ∷ ys) e = absurd (omega (arith, ap length e))

    no_root : name ≡ [] ∷ [] → ⊥
    no_root e = let z = root_of front (sym is ∙ e) in omega (arith, plain.0, ap length z)

closed_plain : (label : List ℕ) → IsPlain label → closed label ≡ label ∷ []
closed_plain [] plain = absurd (omega (arith, plain.0))
closed_plain (x ∷ xs) plain = refl

labels_are : (front : List (List ℕ)) (last : List ℕ) → IsPlain last → front ++ last ∷ [] ≡ part_labels (front_parts front) (map zone_symbol last)
labels_are front last plain = λ i. parts_octets_are front i ++ (sym (closed_plain last plain) ∙ ap closed (label_octets_are last)) i

record Last (name : List (List ℕ)) : Type 0 where
  front : List (List ℕ)
  last : List ℕ
  is : name ≡ front ++ last ∷ []
  front_plain : All IsPlain front
  last_plain : IsPlain last
  front_values : All AreOctetValues front
  last_values : AreOctetValues last

last_of : (x : List ℕ) (xs : List (List ℕ)) → All IsPlain (x ∷ xs) → All AreOctetValues (x ∷ xs) → Last (x ∷ xs)
last_of x [] h v = record {
  front = [];
  last = x;
  is = refl;
  front_plain = All-nil IsPlain;
  last_plain = All-head IsPlain x [] h;
  front_values = All-nil AreOctetValues;
  last_values = All-head AreOctetValues x [] v;
}
last_of x (y ∷ ys) h v =
    let more = last_of y ys (All-tail IsPlain x (y ∷ ys) h) (All-tail AreOctetValues x (y ∷ ys) v) in record {
      front = x ∷ more.front;
      last = more.last;
      is = ap (λ l. x ∷ l) more.is;
      front_plain = All-cons IsPlain x more.front (All-head IsPlain x (y ∷ ys) h) more.front_plain;
      last_plain = more.last_plain;
      front_values = All-cons AreOctetValues x more.front (All-head AreOctetValues x (y ∷ ys) v) more.front_values;
      last_values = more.last_values;
    }

pub relative_back : (others name : List (List ℕ)) → name ≢ [] → All IsPlain name → IsName (name ++ others) → EndsInRoot others → AreOctetValues (wire name)
    → SpellsName (Some others) (zone_text name) (wire (name ++ others))
relative_back others [] some plain is ends v = absurd (some refl)
relative_back others (x ∷ xs) some plain is ends v =
    let l = last_of x xs plain (labels_bytes (x ∷ xs) v) in
    let text = zone_text_is (x ∷ xs) v ∙ relative_text (x ∷ xs) l.front l.last l.is l.last_plain in record {
      labels = (x ∷ xs) ++ others;
      spelled = relative (front_parts l.front) (map zone_symbol l.last) others (omega (arith, l.last_plain.0, symbols_length l.last))
          (record {
            front = record { each = parts_own l.front l.front_plain l.front_values; whole = text };
            last_each = label_own l.last l.last_values;
            last_short = omega (arith, l.last_plain.1, symbols_length l.last);
          })
          (λ e. labels_no_sign l.front l.last l.front_plain l.last_plain (sym text ∙ e)) refl (ap (λ n. n ++ others) (l.is ∙ labels_are l.front l.last l.last_plain));
      is_name = is;
      absolute = chain_ends (x ∷ xs) others ends;
      whole = refl;
    }
