-- A text spells one name, and none if a label of it is rejected.
use Rattle.std.proofs.Common.{ℕ, ◌≡◌, ◌+◌, ◌<◌, ◌≤◌, List, [], ◌∷◌, ◌++◌, length, get_or, refl, sym, ap, subst, ◌∙◌, arith, append_assoc, append-nil, length-append, inl, inr, Option, Some}
use Rattle.std.specs.Prelude.{All}
use Rattle.std.specs.List.{flat_map}
use Rattle.std.proofs.lemmas.List.Elements.{All-head, All-tail}
use Rattle.dns_symbol.specs.Symbol.{spell}
use Rattle.dns_symbol.specs.declared.symbol.Symbol.{Symbol}
use Rattle.dns_symbol.specs.declared.symbol.Symbol.TheVariants.{Char}
use Rattle.dns_wire.specs.Wire.{wire, wire_length}
use Rattle.rdata_values.specs.declared.error.ErrorKind.{ErrorKind}
use Rattle.rdata_values.specs.declared.error.ErrorKind.TheVariants.{BadEscape, EmptyLabel, LongLabel, LongName}
use Rattle.rdata_tokens.specs.Spelling.{BeginsBadEscape}
use Rattle.rdata_tokens.specs.NameSpelling.{IsLabelPart, dotted_parts, part_labels, HasParts, SpellsParts, SpellsLabels, root_alone, origin_alone, absolute, relative, SpellsName, OpensLabel, NextOctetIs, EndsLabel, HasBadLabel}
use Rattle.dns_symbol.proofs.Spelled.{spell_some}
use Rattle.rdata_tokens.proofs.LabelParts.{label_is_spelling, label_head, label_tail, no_dot, empty_symbols, Within, in_part, in_last, within, within_long}

-- ---- one reading of a text as labels

nothing_follows : (more : List Symbol) (after : List ℕ) → [] ≡ flat_map spell more ++ 46 ∷ after → ⊥
nothing_follows more after h = let e = (empty_symbols more (46 ∷ after) h).1 in omega (arith, ap length e)

pub parts_once : (text : List ℕ) (parts all : List (List Symbol)) (part last : List Symbol) → SpellsParts text parts part → SpellsParts text all last → (all ≡ parts) × (last ≡ part)
parts_once text parts all part last h k =
    let same : dotted_parts parts ++ (flat_map spell part ++ []) ≡ dotted_parts all ++ flat_map spell last =
    ap (λ t. dotted_parts parts ++ t) (append-nil (flat_map spell part)) ∙ sym h.front.whole ∙ k.front.whole in
    end (within parts part [] all last h.front.each h.last_each k.front.each k.last_each same)
  where
    end : Within parts part [] all last → (all ≡ parts) × (last ≡ part)
    end (in_part more others is own after) = absurd (nothing_follows more (dotted_parts others ++ flat_map spell last) after)
    end (in_last more is whole own after) =
        let none = (empty_symbols more [] (after ∙ sym (append-nil (flat_map spell more)))).0 in
        (is, whole ∙ ap (λ m. part ++ m) none ∙ append-nil part)

-- a label and its dot are two octets at least
part_long : (part : List Symbol) (parts : List (List Symbol)) (rest : List ℕ) → All IsLabelPart (part ∷ parts) → 2 ≤ length (dotted_parts (part ∷ parts) ++ rest)
part_long [] parts rest h = let one = All-head IsLabelPart [] parts h in absurd (omega (arith, one.some))
part_long (s ∷ ss) parts rest h =
    omega (
      arith,
      spell_some s,
      length-append (dotted_parts ((s ∷ ss) ∷ parts)) rest,
      length-append (flat_map spell (s ∷ ss) ++ 46 ∷ []) (dotted_parts parts),
      length-append (flat_map spell (s ∷ ss)) (46 ∷ []),
      length-append (spell s) (flat_map spell ss),
    )

-- the root's dot is not a label
pub root_no_parts : (text : List ℕ) (parts : List (List Symbol)) (last : List Symbol) → text ≡ 46 ∷ [] → SpellsParts text parts last → 0 < length parts + length last → ⊥
root_no_parts text [] [] e h some = omega arith
root_no_parts text [] (s ∷ ss) e h some = no_dot s (flat_map spell ss) [] (label_head s ss h.last_each) (sym h.front.whole ∙ e)
root_no_parts text (part ∷ parts) last e h some =
    omega (arith, part_long part parts (flat_map spell last) h.front.each, ap length h.front.whole, ap length e)

pub origin_no_dot : (text : List ℕ) (parts : List (List Symbol)) (last : List Symbol) → text ≡ 64 ∷ [] → SpellsParts text parts last → 0 < length parts → ⊥
origin_no_dot text [] last e h some = omega arith
origin_no_dot text (part ∷ parts) last e h some =
    omega (arith, part_long part parts (flat_map spell last) h.front.each, ap length h.front.whole, ap length e)

pub same_some : {A : Type 0} (a b : A) (o : Option A) → o ≡ Some a → o ≡ Some b → a ≡ b
same_some a b o h k = let e : Some a ≡ Some b = sym h ∙ k in cc

pub not_both : (text : List ℕ) → text ≡ 46 ∷ [] → text ≡ 64 ∷ [] → ⊥
not_both text e f = omega (arith, ap (λ t. get_or t 0 0) e, ap (λ t. get_or t 0 0) f)

pub labels_once : (origin : Option (List (List ℕ))) (text : List ℕ) (a b : List (List ℕ)) → SpellsLabels origin text a → SpellsLabels origin text b → a ≡ b
labels_once origin text a b (root_alone e f) (root_alone g h) = f ∙ sym h
labels_once origin text a b (root_alone e f) (origin_alone g h) = absurd (not_both text e g)
labels_once origin text a b (root_alone e f) (absolute parts some h is) = absurd (root_no_parts text parts [] e h (omega arith))
labels_once origin text a b (root_alone e f) (relative parts last others some h no_at o is) = absurd (root_no_parts text parts last e h (omega arith))
labels_once origin text a b (origin_alone e f) (root_alone g h) = absurd (not_both text g e)
labels_once origin text a b (origin_alone e f) (origin_alone g h) = same_some a b origin f h
labels_once origin text a b (origin_alone e f) (absolute parts some h is) = absurd (origin_no_dot text parts [] e h some)
labels_once origin text a b (origin_alone e f) (relative parts last others some h no_at o is) = absurd (no_at e)
labels_once origin text a b (absolute parts some h is) (root_alone e f) = absurd (root_no_parts text parts [] e h (omega arith))
labels_once origin text a b (absolute parts some h is) (origin_alone e f) = absurd (origin_no_dot text parts [] e h some)
labels_once origin text a b (absolute parts some h is) (absolute all more k are) =
    let same = parts_once text parts all [] [] h k in is ∙ ap (λ p. part_labels p [] ++ [] ∷ []) (sym same.0) ∙ sym are
labels_once origin text a b (absolute parts some h is) (relative all last others more k no_at o are) =
    let same = parts_once text parts all [] last h k in absurd (omega (arith, ap length same.1))
labels_once origin text a b (relative parts last others some h no_at o is) (root_alone e f) = absurd (root_no_parts text parts last e h (omega arith))
labels_once origin text a b (relative parts last others some h no_at o is) (origin_alone e f) = absurd (no_at e)
labels_once origin text a b (relative parts last others some h no_at o is) (absolute all more k are) =
    let same = parts_once text all parts [] last k h in absurd (omega (arith, ap length same.1))
labels_once origin text a b (relative parts part others some h no_at o is) (relative all last those more k none p are) =
    let same = parts_once text parts all part last h k in
    let own = same_some others those origin o p in
    is ∙ ap (λ q. part_labels q part ++ others) (sym same.0) ∙ ap (λ q. part_labels all q ++ others) (sym same.1) ∙ ap (λ q. part_labels all last ++ q) own ∙ sym are

pub name_once : (origin : Option (List (List ℕ))) (text a b : List ℕ) → SpellsName origin text a → SpellsName origin text b → a ≡ b
name_once origin text a b h k = h.whole ∙ ap wire (labels_once origin text h.labels k.labels h.spelled k.spelled) ∙ sym k.whole

-- nor does the root's text begin with labels
pub begins_no_root : (text front rest : List ℕ) (parts : List (List Symbol)) (last : List Symbol) → text ≡ 46 ∷ [] → text ≡ front ++ rest → SpellsParts front parts last → 0 < length (part_labels parts last) → ⊥
begins_no_root text front rest [] [] e w h some = absurd (omega (arith, some))
begins_no_root text front rest [] (s ∷ ss) e w h some =
    no_dot s (flat_map spell ss ++ rest) [] (label_head s ss h.last_each) (sym (append_assoc (spell s) (flat_map spell ss) rest) ∙ ap (λ f. f ++ rest) (sym h.front.whole) ∙ sym w ∙ e)
begins_no_root text front rest (part ∷ parts) last e w h some =
    omega (arith, part_long part parts (flat_map spell last) h.front.each, ap length h.front.whole, length-append front rest, ap length w, ap length e)

-- ---- labels that are rejected

-- a text that is labels with room for the root, at least one
pub record Fitting (text : List ℕ) : Type 0 where
  pub all : List (List Symbol)
  pub last : List Symbol
  pub spelled : SpellsParts text all last
  pub some : 0 < length all + length last
  pub fits : wire_length (part_labels all last) ≤ 254

-- no labels follow a bad escape
pub bad_within : (parts : List (List Symbol)) (part : List Symbol) (rest : List ℕ) (all : List (List Symbol)) (last : List Symbol) → BeginsBadEscape rest → Within parts part rest all last → ⊥
bad_within parts part rest all last bad (in_part [] others is own after) = bad.none (Char 46) (dotted_parts others ++ flat_map spell last) refl after
bad_within parts part rest all last bad (in_part (s ∷ ss) others is own after) =
    bad.none s (flat_map spell ss ++ 46 ∷ (dotted_parts others ++ flat_map spell last)) (label_is_spelling s (label_head s ss own)) (after ∙ append_assoc (spell s) (flat_map spell ss) _)
bad_within parts part rest all last bad (in_last [] is whole own after) = omega (arith, bad.some, ap length after)
bad_within parts part rest all last bad (in_last (s ∷ ss) is whole own after) = bad.none s (flat_map spell ss) (label_is_spelling s (label_head s ss own)) after

-- nor if a label has no octets
pub empty_within : (parts : List (List Symbol)) (rest : List ℕ) (all : List (List Symbol)) (last : List Symbol) → EndsLabel rest → (rest ≡ [] → parts ≡ []) → All IsLabelPart all
    → 0 < length all + length last → Within parts [] rest all last → ⊥
empty_within parts rest all last (inl none) no_end each some (in_part more others is own after) = nothing_follows more (dotted_parts others ++ flat_map spell last) (sym none ∙ after)
empty_within parts rest all last (inl none) no_end each some (in_last more is whole own after) =
    let e = (empty_symbols more [] (sym none ∙ after ∙ sym (append-nil (flat_map spell more)))).0 in
    omega (arith, ap length is, ap length (no_end none), ap length (whole ∙ e))
empty_within parts rest all last (inr dotted) no_end each some (in_part [] others is own after) =
    empty_part parts others (subst (All IsLabelPart) is each)
  where
    empty_part : (parts others : List (List Symbol)) → All IsLabelPart (parts ++ [] ∷ others) → ⊥
    empty_part [] others h = let one = All-head IsLabelPart [] others h in omega (arith, one.some)
    empty_part (part ∷ parts) others h = empty_part parts others (All-tail IsLabelPart part (parts ++ [] ∷ others) h)
empty_within parts rest all last (inr dotted) no_end each some (in_part (s ∷ ss) others is own after) =
    no_dot s (flat_map spell ss ++ 46 ∷ (dotted_parts others ++ flat_map spell last)) dotted.0 (label_head s ss own) (sym (append_assoc (spell s) (flat_map spell ss) _) ∙ sym after ∙ dotted.1)
empty_within parts rest all last (inr dotted) no_end each some (in_last [] is whole own after) = omega (arith, ap length after, ap length dotted.1)
empty_within parts rest all last (inr dotted) no_end each some (in_last (s ∷ ss) is whole own after) = no_dot s (flat_map spell ss) dotted.0 (label_head s ss own) (sym after ∙ dotted.1)

-- if an octet comes next, the label continues
pub record Longer (parts : List (List Symbol)) (part : List Symbol) (all : List (List Symbol)) (last : List Symbol) : Type 0 where
  pub octet : Symbol
  pub others : List Symbol
  pub rest : List ℕ
  pub is : Within parts (part ++ octet ∷ []) rest all last

pub longer : (parts : List (List Symbol)) (part : List Symbol) (rest : List ℕ) (all : List (List Symbol)) (last : List Symbol) → NextOctetIs rest → Within parts part rest all last
    → Longer parts part all last
longer parts part rest all last next (in_part [] others is own after) = absurd (no_dot next.0 next.1 (dotted_parts others ++ flat_map spell last) next.2 (sym next.3 ∙ after))
longer parts part rest all last next (in_part (s ∷ ss) others is own after) = record {
  octet = s;
  others = ss;
  rest = flat_map spell ss ++ 46 ∷ (dotted_parts others ++ flat_map spell last);
  is = in_part ss others (is ∙ ap (λ p. parts ++ p ∷ others) (sym (append_assoc part (s ∷ []) ss))) (label_tail s ss own) refl;
}
longer parts part rest all last next (in_last [] is whole own after) = absurd (omega (arith, spell_some next.0, ap length next.3, ap length after, length-append (spell next.0) next.1))
longer parts part rest all last next (in_last (s ∷ ss) is whole own after) = record {
  octet = s;
  others = ss;
  rest = flat_map spell ss;
  is = in_last ss is (whole ∙ sym (append_assoc part (s ∷ []) ss)) (label_tail s ss own) refl;
}

-- a label within labels of at most 63 octets has at most 63 octets
pub within_short : (parts : List (List Symbol)) (part : List Symbol) (rest : List ℕ) (all : List (List Symbol)) (last : List Symbol) → All IsLabelPart all → length last ≤ 63
    → Within parts part rest all last → length part ≤ 63
within_short parts part rest all last each short (in_part more others is own after) = below parts (subst (All IsLabelPart) is each)
  where
    below : (parts : List (List Symbol)) → All IsLabelPart (parts ++ (part ++ more) ∷ others) → length part ≤ 63
    below [] h = let one = All-head IsLabelPart (part ++ more) others h in omega (arith, one.short, length-append part more)
    below (first ∷ parts) h = below parts (All-tail IsLabelPart first (parts ++ (part ++ more) ∷ others) h)
within_short parts part rest all last each short (in_last more is whole own after) = omega (arith, short, ap length whole, length-append part more)

begins : (text : List ℕ) (parts : List (List Symbol)) (part : List Symbol) (rest after : List ℕ) (room : ℕ) → HasParts text parts rest → OpensLabel rest room part after
    → (f : Fitting text) → Within parts part after f.all f.last
begins text parts part rest after room h opens f =
    within parts part after f.all f.last h.each opens.each f.spelled.front.each f.spelled.last_each
    (ap (λ r. dotted_parts parts ++ r) (sym opens.whole) ∙ sym h.whole ∙ f.spelled.front.whole)

pub none_fitting : (text : List ℕ) (why : ErrorKind) → HasBadLabel text why → Fitting text → ⊥
none_fitting text BadEscape h f = let r = h.refused in
    bad_within h.parts r.0 r.1 f.all f.last r.3 (begins text h.parts r.0 h.rest r.1 _ h.front r.2 f)
none_fitting text EmptyLabel h f =
    empty_within h.parts h.rest f.all f.last h.refused h.no_end f.spelled.front.each f.some
    (within h.parts [] h.rest f.all f.last h.front.each refl f.spelled.front.each f.spelled.last_each (sym h.front.whole ∙ f.spelled.front.whole))
none_fitting text LongLabel h f = let r = h.refused in
    let more = longer h.parts r.0 r.1 f.all f.last r.4 (begins text h.parts r.0 h.rest r.1 _ h.front r.2 f) in
    let short = within_short h.parts (r.0 ++ more.octet ∷ []) more.rest f.all f.last f.spelled.front.each f.spelled.last_short more.is in
    omega (arith, short, r.3, length-append r.0 (more.octet ∷ []))
none_fitting text LongName h f = let r = h.refused in
    let more = longer h.parts r.0 r.1 f.all f.last r.5 (begins text h.parts r.0 h.rest r.1 _ h.front r.2 f) in
    let plus = length-append r.0 (more.octet ∷ []) in
    let long = within_long h.parts (r.0 ++ more.octet ∷ []) more.rest f.all f.last more.is (omega (arith, plus)) in
    omega (arith, long, r.4, plus, f.fits)
none_fitting text other h f = h.refused
