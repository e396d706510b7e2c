-- The labels of a text.
use Rattle.std.proofs.Common.{ℕ, zero, suc, ◌≡◌, ◌+◌, ◌-◌, ◌<◌, ◌≤◌, true, false, List, [], ◌∷◌, ◌++◌, length, map, take, drop, get_or, refl, sym, ap, subst, ◌∙◌, arith, append_assoc, append-nil, length-append, inl, inr}
use Rattle.std.specs.Prelude.{All, not}
use Rattle.std.specs.List.{flat_map, list_all}
use Rattle.std.proofs.lemmas.Bool.{and_parts}
use Rattle.std.proofs.lemmas.Bool.Decides.{nat_tests}
use Rattle.std.proofs.lemmas.List.{length-drop, map-append, take-append-drop, take_all, length-take-le}
use Rattle.std.proofs.lemmas.List.Folds.{list_all-append}
use Rattle.std.proofs.lemmas.List.Elements.{All-head, All-tail, All-push}
use Rattle.std.proofs.lemmas.Grind.{flat_map-append}
use Rattle.std.proofs.lemmas.List.Sums.{sum_by-cons}
use Rattle.dns_octets.specs.Room.{Room}
use Rattle.dns_octets.specs.Appending.{ExceedsRoom}
use Rattle.dns_lexer.specs.declared.runs.OctetClass.TheVariants.{Label}
use Rattle.dns_lexer.specs.Skip.{is_in}
use Rattle.dns_symbol.specs.Symbol.{spell}
use Rattle.dns_symbol.specs.declared.symbol.Symbol.{Symbol}
use Rattle.dns_symbol.specs.declared.symbol.Symbol.TheVariants.{Char, SimpleEscape, DecimalEscape}
use Rattle.dns_wire.specs.Building.{closed}
use Rattle.dns_wire.specs.Wire.{wire, wire_label, wire_length}
use Rattle.dns_wire.proofs.Wires.{wire_append, wire_length_append, length_wire}
use Rattle.dns_symbol.specs.Escape.{is_spelling, octet_for}
use Rattle.rdata_tokens.specs.Spelling.{SpellsBeginning, SpellsOctetList, SpellsAfterCount, BeginsAfterCount}
use Rattle.rdata_tokens.specs.NameSpelling.{is_plain_dot, is_label_spelling, AreLabelSpellings, IsLabelPart, dotted_parts, part_labels, HasParts, OpensLabel, EndsLabel, BeginsWithLabels, GainsLabels}
use Rattle.dns_symbol.proofs.Spelled.{spell_same, spell_some}
use Rattle.rdata_tokens.proofs.Fronts.{fewer_spelled}
use Rattle.rdata_tokens.proofs.Spellings.{AreSpellings, symbols_go_on, spelled_once}

-- ---- symbols of labels

pub label_is_spelling : (s : Symbol) → is_label_spelling s ≡ true → is_spelling s ≡ true
label_is_spelling s h = (and_parts (is_spelling s) (not (is_plain_dot s)) h).0

pub label_head : (s : Symbol) (ss : List Symbol) → AreLabelSpellings (s ∷ ss) → is_label_spelling s ≡ true
label_head s ss h = (and_parts (is_label_spelling s) (list_all is_label_spelling ss) h).0

pub label_tail : (s : Symbol) (ss : List Symbol) → AreLabelSpellings (s ∷ ss) → AreLabelSpellings ss
label_tail s ss h = (and_parts (is_label_spelling s) (list_all is_label_spelling ss) h).1

pub labels_are_spellings : (ss : List Symbol) → AreLabelSpellings ss → AreSpellings ss
labels_are_spellings [] h = refl
labels_are_spellings (s ∷ ss) h = rw (label_is_spelling s (label_head s ss h), labels_are_spellings ss (label_tail s ss h)) refl

-- what spells an octet of a label doesn't begin with a dot
pub no_dot : (s : Symbol) (rest more : List ℕ) → is_label_spelling s ≡ true → spell s ++ rest ≡ 46 ∷ more → ⊥
no_dot (Char o) rest more h e = let is : o ≡ 46 = cc in grind (arith, nat_tests)
no_dot (SimpleEscape o) rest more h e = absurd (omega (arith, ap (λ r. get_or r 0 0) e))
no_dot (DecimalEscape o) rest more h e = absurd (omega (arith, ap (λ r. get_or r 0 0) e))

-- no symbols of a label begin with a dot
pub no_dots : (ss : List Symbol) (rest more : List ℕ) → AreLabelSpellings ss → flat_map spell ss ++ rest ≡ 46 ∷ more → 0 < length ss → ⊥
no_dots [] rest more h e some = omega arith
no_dots (s ∷ ss) rest more h e some = no_dot s (flat_map spell ss ++ rest) more (label_head s ss h) (sym (append_assoc (spell s) (flat_map spell ss) rest) ∙ e)

pub empty_symbols : (ss : List Symbol) (rest : List ℕ) → [] ≡ flat_map spell ss ++ rest → (ss ≡ []) × (rest ≡ [])
empty_symbols [] rest h = (refl, sym h)
empty_symbols (s ∷ ss) rest h =
    absurd (omega (arith, spell_some s, ap length h, length-append (spell s ++ flat_map spell ss) rest, length-append (spell s) (flat_map spell ss)))

-- a beginning of a label that a dot follows
pub open_within : (part label : List Symbol) (rest after : List ℕ) → AreLabelSpellings part → AreLabelSpellings label
    → flat_map spell part ++ rest ≡ flat_map spell label ++ 46 ∷ after
    → (more : List Symbol) × (label ≡ part ++ more) × AreLabelSpellings more × (rest ≡ flat_map spell more ++ 46 ∷ after)
open_within [] label rest after p q h = (label, refl, q, h)
open_within (s ∷ ss) [] rest after p q h = absurd (no_dots (s ∷ ss) rest after p h (omega arith))
open_within (s ∷ ss) (t ∷ ts) rest after p q h =
    let e = spell_same s t (flat_map spell ss ++ rest) (flat_map spell ts ++ 46 ∷ after) (label_is_spelling s (label_head s ss p)) (label_is_spelling t (label_head t ts q))
    (sym (append_assoc (spell s) (flat_map spell ss) rest) ∙ h ∙ append_assoc (spell t) (flat_map spell ts) (46 ∷ after)) in
    let more = open_within ss ts rest after (label_tail s ss p) (label_tail t ts q) e.1 in
    (more.0, (let f = e.0 in let g = more.1 in cc), more.2, more.3)

-- a label with its dot is that of another, and the rest too
pub dotted_same : (part label : List Symbol) (rest after : List ℕ) → AreLabelSpellings part → AreLabelSpellings label
    → flat_map spell part ++ 46 ∷ rest ≡ flat_map spell label ++ 46 ∷ after → (label ≡ part) × (rest ≡ after)
dotted_same part label rest after p q h =
    let w = open_within part label (46 ∷ rest) after p q h in same w.0 w.1 w.2 w.3
  where
    same : (more : List Symbol) → label ≡ part ++ more → AreLabelSpellings more → 46 ∷ rest ≡ flat_map spell more ++ 46 ∷ after → (label ≡ part) × (rest ≡ after)
    same [] e g f = (e ∙ append-nil part, cc)
    same (s ∷ ss) e g f = absurd (no_dots (s ∷ ss) (46 ∷ after) rest g (sym f) (omega arith))

-- a label without a dot does not begin with a label and its dot
no_dot_behind : (part last : List Symbol) (rest : List ℕ) → AreLabelSpellings part → AreLabelSpellings last → flat_map spell part ++ 46 ∷ rest ≡ flat_map spell last → ⊥
no_dot_behind [] last rest p q h = begins last q h
  where
    begins : (last : List Symbol) → AreLabelSpellings last → 46 ∷ rest ≡ flat_map spell last → ⊥
    begins [] q h = let l : suc (length rest) ≡ 0 = ap length h in omega arith
    begins (s ∷ ss) q h = no_dot s (flat_map spell ss) rest (label_head s ss q) (sym h)
no_dot_behind (s ∷ ss) [] rest p q h =
    omega (arith, ap length h, length-append (spell s ++ flat_map spell ss) (46 ∷ rest))
no_dot_behind (s ∷ ss) (t ∷ ts) rest p q h =
    let e = spell_same s t (flat_map spell ss ++ 46 ∷ rest) (flat_map spell ts) (label_is_spelling s (label_head s ss p)) (label_is_spelling t (label_head t ts q))
    (sym (append_assoc (spell s) (flat_map spell ss) (46 ∷ rest)) ∙ h) in
    no_dot_behind ss ts rest (label_tail s ss p) (label_tail t ts q) e.1

-- ---- the labels of a text are those of another reading of it

-- what a beginning of labels is within whole labels: the open one is one of them, or a beginning of the last
pub data Within (parts : List (List Symbol)) (part : List Symbol) (rest : List ℕ) (all : List (List Symbol)) (last : List Symbol) : Type 0 where
  in_part : (more : List Symbol) (others : List (List Symbol)) → all ≡ parts ++ (part ++ more) ∷ others → AreLabelSpellings more
      → rest ≡ flat_map spell more ++ 46 ∷ (dotted_parts others ++ flat_map spell last) → Within parts part rest all last
  in_last : (more : List Symbol) → all ≡ parts → last ≡ part ++ more → AreLabelSpellings more → rest ≡ flat_map spell more → Within parts part rest all last

part_each : (part : List Symbol) (parts : List (List Symbol)) → All IsLabelPart (part ∷ parts) → AreLabelSpellings part
part_each part parts h = let one = All-head IsLabelPart part parts h in one.each

pub dotted_cons : (part : List Symbol) (parts : List (List Symbol)) (rest : List ℕ)
    → dotted_parts (part ∷ parts) ++ rest ≡ flat_map spell part ++ 46 ∷ (dotted_parts parts ++ rest)
dotted_cons part parts rest =
    append_assoc (flat_map spell part ++ 46 ∷ []) (dotted_parts parts) rest ∙ append_assoc (flat_map spell part) (46 ∷ []) (dotted_parts parts ++ rest)

label_append : (xs ys : List Symbol) → AreLabelSpellings (xs ++ ys) → AreLabelSpellings xs × AreLabelSpellings ys
label_append [] ys h = (refl, h)
label_append (s ∷ ss) ys h =
    let both = label_append ss ys (label_tail s (ss ++ ys) h) in (rw (label_head s (ss ++ ys) h, both.0) refl, both.1)

pub within : (parts : List (List Symbol)) (part : List Symbol) (rest : List ℕ) (all : List (List Symbol)) (last : List Symbol)
    → All IsLabelPart parts → AreLabelSpellings part → All IsLabelPart all → AreLabelSpellings last
    → dotted_parts parts ++ (flat_map spell part ++ rest) ≡ dotted_parts all ++ flat_map spell last → Within parts part rest all last
within [] part rest [] last p q r s h =
    let on = symbols_go_on part last rest (labels_are_spellings part q) (labels_are_spellings last s) h in
    in_last on.0 refl on.2 (label_append part on.0 (subst AreLabelSpellings on.2 s)).1 on.3
within [] part rest (label ∷ all) last p q r s h =
    let w = open_within part label rest (dotted_parts all ++ flat_map spell last) q (part_each label all r) (h ∙ dotted_cons label all (flat_map spell last)) in
    in_part w.0 all (ap (λ l. l ∷ all) w.1) w.2 w.3
within (first ∷ parts) part rest [] last p q r s h =
    absurd (no_dot_behind first last (dotted_parts parts ++ (flat_map spell part ++ rest)) (part_each first parts p) s (sym (dotted_cons first parts (flat_map spell part ++ rest)) ∙ h))
within (first ∷ parts) part rest (label ∷ all) last p q r s h =
    let e = dotted_same first label (dotted_parts parts ++ (flat_map spell part ++ rest)) (dotted_parts all ++ flat_map spell last) (part_each first parts p) (part_each label all r)
    (sym (dotted_cons first parts (flat_map spell part ++ rest)) ∙ h ∙ dotted_cons label all (flat_map spell last)) in
    also e.0 (within parts part rest all last (All-tail IsLabelPart first parts p) q (All-tail IsLabelPart label all r) s e.1)
  where
    also : label ≡ first → Within parts part rest all last → Within (first ∷ parts) part rest (label ∷ all) last
    also e (in_part more others is own after) = in_part more others (cc) own after
    also e (in_last more is end own after) = in_last more (cc) end own after

-- ---- labels that are appended one after another

-- some labels of a text were appended, and then comes the rest
pub record Appended (text old rest new : List ℕ) (count : ℕ) : Type 0 where
  pub parts : List (List Symbol)
  pub front : HasParts text parts rest
  pub no_end : rest ≡ [] → parts ≡ []
  pub gained : new ≡ old ++ wire (part_labels parts [])
  pub count_is : count ≡ wire_length (part_labels parts [])
  pub fits : count ≤ 254

pub appended_none : (text old : List ℕ) → Appended text old text old 0
appended_none text old = record {
  parts = [];
  front = record { each = λ k d lt. absurd (omega arith); whole = refl };
  no_end = λ e. refl;
  gained = sym (append-nil old);
  count_is = refl;
  fits = omega arith;
}

-- the symbol that a text begins with, if it is not a dot
pub label_octet : (rest after : List ℕ) (o : ℕ) → SpellsBeginning rest (o ∷ []) after → (get_or rest 0 0 ≡ 46 → ⊥)
    → (s : Symbol) × (is_label_spelling s ≡ true) × (rest ≡ spell s ++ after)
label_octet rest after o h n = one h.symbols h.each h.whole h.octets_are
  where
    not_dot : (s : Symbol) → is_spelling s ≡ true → rest ≡ spell s ++ after → is_label_spelling s ≡ true
    not_dot (Char c) own e = let d : c ≡ 46 → ⊥ = (λ is. n (ap (λ r. get_or r 0 0) e ∙ is)) in grind (arith, nat_tests)
    not_dot (SimpleEscape c) own e = rw own refl
    not_dot (DecimalEscape c) own e = rw own refl

    one : (symbols : List Symbol) → AreSpellings symbols → rest ≡ flat_map spell symbols ++ after → o ∷ [] ≡ map octet_for symbols
        → (s : Symbol) × (is_label_spelling s ≡ true) × (rest ≡ spell s ++ after)
    one [] own e f = absurd (let l : 1 ≡ 0 = ap length f in omega (arith, l))
    one (s ∷ []) own e f =
        let is = e ∙ ap (λ t. t ++ after) (append-nil (spell s)) in (s, not_dot s (and_parts (is_spelling s) true own).0 is, is)
    one (s ∷ t ∷ ts) own e f = absurd (let l : 1 ≡ suc (suc (length (map octet_for ts))) = ap length f in omega (arith, l))

pub open_more : (text rest after : List ℕ) (room count o : ℕ) → (part : List Symbol) × OpensLabel text room part rest × (count ≡ length part)
    → SpellsBeginning rest (o ∷ []) after → (get_or rest 0 0 ≡ 46 → ⊥) → (count ≡ 63 → ⊥) → count + 2 ≤ room
    → (part : List Symbol) × OpensLabel text room part after × (count + 1 ≡ length part)
open_more text rest after room count o i h n short fits =
    let s = label_octet rest after o h n in
    let part = i.0 in
    let opens = i.1 in
    let long : length (part ++ s.0 ∷ []) ≡ length part + 1 = length-append part (s.0 ∷ []) in (
      part ++ s.0 ∷ [],
      record {
        each = rw (list_all-append, opens.each, s.1) refl;
        whole = opens.whole ∙ ap (λ r. flat_map spell part ++ r) s.2 ∙ sym (append_assoc (flat_map spell part) (spell s.0) after)
            ∙ ap (λ t. t ++ after) (ap (λ t. flat_map spell part ++ t) (sym (append-nil (spell s.0))) ∙ sym (flat_map-append spell part (s.0 ∷ [])));
        short = omega (arith, opens.short, long, i.2);
        fits = λ some. omega (arith, long, i.2);
      },
      omega (arith, long, i.2),
    )

-- ---- counts of octets

labels_of : List (List Symbol) → List (List ℕ)
labels_of parts = map (map octet_for) parts

pub labels_nil : (parts : List (List Symbol)) → part_labels parts [] ≡ map (map octet_for) parts
labels_nil parts = append-nil (map (map octet_for) parts)

pub labels_last : (parts : List (List Symbol)) (part : List Symbol) → 0 < length part → part_labels parts part ≡ map (map octet_for) parts ++ map octet_for part ∷ []
labels_last parts [] some = absurd (omega arith)
labels_last parts (s ∷ ss) some = refl

pub labels_push : (parts : List (List Symbol)) (part : List Symbol) → part_labels (parts ++ part ∷ []) [] ≡ map (map octet_for) parts ++ map octet_for part ∷ []
labels_push parts part = labels_nil (parts ++ part ∷ []) ∙ map-append (map octet_for) parts (part ∷ [])

pub wire_push : (labels : List (List ℕ)) (label : List ℕ) → wire (labels ++ label ∷ []) ≡ wire labels ++ wire_label label
wire_push labels label = wire_append labels (label ∷ []) ∙ ap (λ t. wire labels ++ t) (append-nil (wire_label label))

pub wire_length_cons : (label : List ℕ) (labels : List (List ℕ)) → wire_length (label ∷ labels) ≡ length label + 1 + wire_length labels
wire_length_cons label labels = omega (arith, sum_by-cons (λ l. length l + 1) label labels)

pub wire_length_push : (labels : List (List ℕ)) (label : List ℕ) → wire_length (labels ++ label ∷ []) ≡ wire_length labels + (length label + 1)
wire_length_push labels label = omega (arith, wire_length_append labels (label ∷ []), wire_length_cons label [])

pub part_length : (part : List Symbol) → length (map octet_for part) ≡ length part
part_length [] = refl
part_length (s ∷ ss) = ap suc (part_length ss)

-- the labels with one more
pub push_length : (parts : List (List Symbol)) (part : List Symbol)
    → wire_length (map (map octet_for) parts ++ map octet_for part ∷ []) ≡ wire_length (part_labels parts []) + (length part + 1)
push_length parts part =
    omega (arith, wire_length_push (map (map octet_for) parts) (map octet_for part), ap wire_length (labels_nil parts), part_length part)

pub within_long : (parts : List (List Symbol)) (part : List Symbol) (rest : List ℕ) (all : List (List Symbol)) (last : List Symbol) → Within parts part rest all last
    → 0 < length part → wire_length (part_labels parts []) + (length part + 1) ≤ wire_length (part_labels all last)
within_long parts part rest all last (in_part more others is own after) some =
    let front = map (map octet_for) parts in
    let label = map octet_for (part ++ more) in
    let behind = map (map octet_for) others in
    let all_are : map (map octet_for) all ≡ front ++ label ∷ behind = ap (map (map octet_for)) is ∙ map-append (map octet_for) parts ((part ++ more) ∷ others) in
    let count : wire_length (part_labels all last) ≡ wire_length (front ++ label ∷ behind) + wire_length (closed (map octet_for last)) =
    wire_length_append (map (map octet_for) all) (closed (map octet_for last)) ∙ ap (λ n. wire_length n + wire_length (closed (map octet_for last))) all_are in
    omega (arith, count, wire_length_append front (label ∷ behind), wire_length_cons label behind, ap wire_length (labels_nil parts), part_length (part ++ more), length-append part more)
within_long parts part rest all last (in_last more is end own after) some =
    let long : length last ≡ length part + length more = ap length end ∙ length-append part more in
    omega (arith, ap wire_length (labels_last all last (omega arith)), push_length all last, ap (λ p. wire_length (part_labels p [])) is, long)

-- ---- the next label

-- a label after those that were appended, with its octets
pub record NextLabel (text old new after : List ℕ) (count : ℕ) : Type 0 where
  pub parts : List (List Symbol)
  pub part : List Symbol
  pub each : All IsLabelPart parts
  pub part_is : IsLabelPart part
  pub whole : text ≡ dotted_parts parts ++ (flat_map spell part ++ after)
  pub gained : new ≡ old ++ (wire (part_labels parts []) ++ wire_label (map octet_for part))
  pub count_is : count ≡ wire_length (part_labels parts []) + (length part + 1)
  pub fits : count ≤ 254

pub part_spells : (text : List ℕ) (part : List Symbol) → AreLabelSpellings part → text ≡ flat_map spell part → SpellsOctetList text (map octet_for part)
part_spells text part own e = record {
  symbols = part;
  each = labels_are_spellings part own;
  whole = e ∙ sym (append-nil (flat_map spell part));
  octets_are = refl;
}

pub next_label : (text old rest middle new own_text after : List ℕ) (count own_count : ℕ) (part : List Symbol) → Appended text old rest middle count
    → OpensLabel rest (254 - count) part after → own_text ≡ flat_map spell part → own_count ≡ length part → 0 < own_count
    → (form : List ℕ) × SpellsAfterCount own_count own_text form × (new ≡ middle ++ form) → NextLabel text old new after (count + (1 + own_count))
next_label text old rest middle new own_text after count own_count part i opens e n some gained =
    let behind = gained.1 in
    let octets = spelled_once own_text behind.octets (map octet_for part) behind.spelled (part_spells own_text part opens.each e) in
    let form_is : gained.0 ≡ wire_label (map octet_for part) = behind.whole ∙ ap (λ o. own_count ∷ o) octets ∙ ap (λ m. m ∷ map octet_for part) (n ∙ sym (part_length part)) in
    let fits = opens.fits (omega (arith, n, some)) in record {
      parts = i.parts;
      part = part;
      each = i.front.each;
      part_is = record { each = opens.each; some = omega (arith, n, some); short = opens.short };
      whole = i.front.whole ∙ ap (λ r. dotted_parts i.parts ++ r) opens.whole;
      gained = gained.2 ∙ ap (λ f. middle ++ f) form_is ∙ ap (λ m. m ++ wire_label (map octet_for part)) i.gained
          ∙ append_assoc old (wire (part_labels i.parts [])) (wire_label (map octet_for part));
      count_is = omega (arith, i.count_is, n);
      fits = omega (arith, n, fits, i.fits);
    }

-- the octets of the label after the others
next_wire : (parts : List (List Symbol)) (part : List Symbol)
    → wire (part_labels parts []) ++ wire_label (map octet_for part) ≡ wire (map (map octet_for) parts ++ map octet_for part ∷ [])
next_wire parts part = ap (λ l. wire l ++ wire_label (map octet_for part)) (labels_nil parts) ∙ sym (wire_push (map (map octet_for) parts) (map octet_for part))

-- it is the last without a dot
pub ends_open : (text old new after : List ℕ) (count : ℕ) → NextLabel text old new after count → after ≡ [] → GainsLabels text old new count false
ends_open text old new after count n e =
    let last = labels_last n.parts n.part n.part_is.some in record {
      parts = n.parts;
      last = n.part;
      spelled = record {
        front = record { each = n.each; whole = n.whole ∙ ap (λ r. dotted_parts n.parts ++ (flat_map spell n.part ++ r)) e ∙ ap (λ r. dotted_parts n.parts ++ r) (append-nil (flat_map spell n.part)) };
        last_each = n.part_is.each;
        last_short = n.part_is.short;
      };
      some = omega (arith, ap length last, length-append (map (map octet_for) n.parts) (map octet_for n.part ∷ []));
      gained = n.gained ∙ ap (λ w. old ++ w) (next_wire n.parts n.part ∙ ap wire (sym last));
      count_is = n.count_is ∙ sym (push_length n.parts n.part) ∙ ap wire_length (sym last);
      fits = n.fits;
      ends = let some = n.part_is.some in grind (arith, nat_tests);
    }

-- a dot follows the label
dot_behind : (text old new after more : List ℕ) (count : ℕ) (n : NextLabel text old new after count) → after ≡ 46 ∷ more
    → HasParts text (n.parts ++ n.part ∷ []) more
dot_behind text old new after more count n e = record {
  each = All-push IsLabelPart n.parts n.part n.each n.part_is;
  whole = n.whole ∙ ap (λ r. dotted_parts n.parts ++ (flat_map spell n.part ++ r)) e ∙ ap (λ r. dotted_parts n.parts ++ r) (sym (dotted_cons n.part [] more))
      ∙ sym (append_assoc (dotted_parts n.parts) (dotted_parts (n.part ∷ [])) more)
      ∙ ap (λ t. t ++ more) (sym (flat_map-append (λ part. flat_map spell part ++ 46 ∷ []) n.parts (n.part ∷ [])));
}

pub ends_dotted : (text old new after : List ℕ) (count : ℕ) → NextLabel text old new after count → after ≡ 46 ∷ [] → GainsLabels text old new count true
ends_dotted text old new after count n e =
    let push = labels_push n.parts n.part in record {
      parts = n.parts ++ n.part ∷ [];
      last = [];
      spelled = record { front = dot_behind text old new after [] count n e; last_each = refl; last_short = omega arith };
      some = omega (arith, ap length push, length-append (map (map octet_for) n.parts) (map octet_for n.part ∷ []));
      gained = n.gained ∙ ap (λ w. old ++ w) (next_wire n.parts n.part ∙ ap wire (sym push));
      count_is = n.count_is ∙ sym (push_length n.parts n.part) ∙ ap wire_length (sym push);
      fits = n.fits;
      ends = refl;
    }

pub goes_on_dotted : (text old new after more : List ℕ) (count : ℕ) → NextLabel text old new after count → after ≡ 46 ∷ more → 0 < length more → Appended text old more new count
goes_on_dotted text old new after more count n e some =
    let push = labels_push n.parts n.part in record {
      parts = n.parts ++ n.part ∷ [];
      front = dot_behind text old new after more count n e;
      no_end = λ none. absurd (omega (arith, ap length none));
      gained = n.gained ∙ ap (λ w. old ++ w) (next_wire n.parts n.part ∙ ap wire (sym push));
      count_is = n.count_is ∙ sym (push_length n.parts n.part) ∙ ap wire_length (sym push);
      fits = n.fits;
    }

-- what follows a label, if it is not the end
pub behind_dot : (after : List ℕ) → EndsLabel after → 0 < length after → after ≡ 46 ∷ take (length after - 1) (drop 1 after)
behind_dot after (inl none) some = absurd (omega (arith, ap length none))
behind_dot [] (inr dotted) some = absurd (omega arith)
behind_dot (x ∷ xs) (inr dotted) some =
    let whole : take (length (x ∷ xs) - 1) xs ≡ xs = take_all _ xs (omega arith) in
    let e = dotted.1 in rw whole (cc)

pub lone_dot : (after : List ℕ) → EndsLabel after → length after ≡ 1 → after ≡ 46 ∷ []
lone_dot after (inl none) one = absurd (omega (arith, ap length none))
lone_dot [] (inr dotted) one = absurd (omega arith)
lone_dot (x ∷ []) (inr dotted) one = let e = dotted.1 in cc
lone_dot (x ∷ y ∷ ys) (inr dotted) one = absurd (omega arith)

pub some_behind : (after : List ℕ) → 0 < length after → (length after ≡ 1 → ⊥) → 0 < length (take (length after - 1) (drop 1 after))
some_behind [] some more = absurd (omega arith)
some_behind (x ∷ xs) some more =
    let off : length (x ∷ xs) - 1 ≡ length xs = omega arith in
    let long : length (take (length (x ∷ xs) - 1) xs) ≡ length (x ∷ xs) - 1 = length-take-le (length (x ∷ xs) - 1) xs (omega arith) in omega (arith, long, off)

-- labels of a text, up to a label that ends
pub begins_up_to : (text after : List ℕ) (parts : List (List Symbol)) (part : List Symbol) → All IsLabelPart parts → IsLabelPart part → text ≡ dotted_parts parts ++ (flat_map spell part ++ after) → EndsLabel after
    → wire_length (part_labels parts []) + (length part + 1) ≤ 254 → BeginsWithLabels text (wire (part_labels parts part))
begins_up_to text after parts part each is whole ends fits =
    let last = labels_last parts part is.some in record {
      front = dotted_parts parts ++ flat_map spell part;
      rest = after;
      whole = whole ∙ sym (append_assoc (dotted_parts parts) (flat_map spell part) after);
      ends = ends;
      parts = parts;
      last = part;
      spelled = record { front = record { each = each; whole = refl }; last_each = is.each; last_short = is.short };
      some = omega (arith, ap length last, length-append (map (map octet_for) parts) (map octet_for part ∷ []));
      fits = omega (arith, fits, push_length parts part, ap wire_length last);
      octets_are = refl;
    }

-- if a beginning of a label doesn't fit, the labels up to its end don't
pub labels_exceed : (room : Room) (text old rest middle own_text after : List ℕ) (count own_count : ℕ) (part : List Symbol) → Appended text old rest middle count
    → OpensLabel rest (254 - count) part after → EndsLabel after → own_text ≡ flat_map spell part → own_count ≡ length part → 0 < own_count
    → ExceedsRoom room (BeginsAfterCount own_count own_text) middle → ExceedsRoom room (BeginsWithLabels text) old
labels_exceed room text old rest middle own_text after count own_count part i opens ends e n some x =
    let b : BeginsAfterCount own_count own_text x.0 = x.1 in
    let few = fewer_spelled own_text b.octets b.rest (map octet_for part) b.spelled (part_spells own_text part opens.each e) in
    let own : IsLabelPart part = record { each = opens.each; some = omega (arith, n, some); short = opens.short } in
    let fits = opens.fits (omega (arith, n, some)) in
    let all : wire_length (part_labels i.parts []) + (length part + 1) ≤ 254 = omega (arith, n, fits, i.fits, i.count_is) in
    let last = labels_last i.parts part own.some in
    let long = length_wire (part_labels i.parts part) ∙ ap wire_length last ∙ push_length i.parts part in
    let before = ap length i.gained ∙ length-append old (wire (part_labels i.parts [])) in (
      wire (part_labels i.parts part),
      begins_up_to text after i.parts part i.front.each own (i.front.whole ∙ ap (λ r. dotted_parts i.parts ++ r) opens.whole) ends all,
      omega (arith, x.2, ap length b.whole, few, part_length part, long, before, length_wire (part_labels i.parts [])),
    )

-- a beginning of labels has no more octets than the labels
pub within_fewer : (parts : List (List Symbol)) (part : List Symbol) (rest : List ℕ) (all : List (List Symbol)) (last : List Symbol) → Within parts part rest all last
    → wire_length (part_labels parts part) ≤ wire_length (part_labels all last)
within_fewer parts (s ∷ ss) rest all last h =
    omega (arith, within_long parts (s ∷ ss) rest all last h (omega arith), ap wire_length (labels_last parts (s ∷ ss) (omega arith)), push_length parts (s ∷ ss))
within_fewer parts [] rest all last (in_part more others is own after) =
    let front = map (map octet_for) parts in
    let behind = map octet_for more ∷ map (map octet_for) others in
    let all_are : map (map octet_for) all ≡ front ++ behind = ap (map (map octet_for)) is ∙ map-append (map octet_for) parts (more ∷ others) in
    let count : wire_length (part_labels all last) ≡ wire_length (front ++ behind) + wire_length (closed (map octet_for last)) =
    wire_length_append (map (map octet_for) all) (closed (map octet_for last)) ∙ ap (λ n. wire_length n + wire_length (closed (map octet_for last))) all_are in
    omega (arith, count, wire_length_append front behind, ap wire_length (labels_nil parts))
within_fewer parts [] rest all last (in_last more is end own after) =
    let count = wire_length_append (map (map octet_for) all) (closed (map octet_for last)) in
    omega (arith, count, ap (λ p. wire_length (map (map octet_for) p)) is, ap wire_length (labels_nil parts))

-- octets that are no dots and no backslashes spell a label each by itself
pub label_plain : (c : ℕ) → is_in Label c ≡ true → (c ≡ 46 → ⊥) × (c ≡ 92 → ⊥)
label_plain c h = (λ is. grind (arith, nat_tests), λ is. grind (arith, nat_tests))

plain_octet : (c : ℕ) → (c ≡ 46 → ⊥) → (c ≡ 92 → ⊥) → is_label_spelling (Char c) ≡ true
plain_octet c n m = grind (arith, nat_tests)

pub plain_part : (text : List ℕ) (n : ℕ) → n ≤ length text → ((k : ℕ) → k < n → (get_or text k 0 ≡ 46 → ⊥) × (get_or text k 0 ≡ 92 → ⊥))
    → (part : List Symbol) × (list_all is_label_spelling part ≡ true) × (flat_map spell part ≡ take n text) × (length part ≡ n) × (map octet_for part ≡ take n text)
plain_part text zero w each = ([], refl, refl, refl, refl)
plain_part [] (suc n) w each = absurd (omega (arith, w))
plain_part (c ∷ cs) (suc n) w each =
    let x = plain_part cs n (omega (arith, w)) (λ k less. each (suc k) (omega (arith, less))) in
    let own = each 0 (omega arith) in
    let first = plain_octet c own.0 own.1 in (Char c ∷ x.0, rw (first, x.1) refl, ap (λ t. c ∷ t) x.2, ap suc x.3, ap (λ t. c ∷ t) x.4)

pub rest_is : (text : List ℕ) (n : ℕ) → take (length text - n) (drop n text) ≡ drop n text
rest_is text n = take_all (length text - n) (drop n text) (omega (arith, length-drop n text))

-- and open it
pub plain_opens : (text : List ℕ) (room n : ℕ) → n ≤ length text → ((k : ℕ) → k < n → (get_or text k 0 ≡ 46 → ⊥) × (get_or text k 0 ≡ 92 → ⊥)) → n ≤ 63 → n < room
    → (part : List Symbol) × OpensLabel text room part (take (length text - n) (drop n text)) × (take n text ≡ flat_map spell part) × (n ≡ length part) × (map octet_for part ≡ take n text)
plain_opens text room n w each short fits =
    let x = plain_part text n w each in (
      x.0,
      record {
        each = x.1;
        whole = sym (take-append-drop n text) ∙ ap (λ t. t ++ drop n text) (sym x.2) ∙ ap (λ t. flat_map spell x.0 ++ t) (sym (rest_is text n));
        short = omega (arith, x.3, short);
        fits = λ some. omega (arith, x.3, fits);
      },
      sym x.2,
      sym x.3,
      x.4,
    )
