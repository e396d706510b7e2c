-- A text that spells no name has one reason, the first in the text.
use Rattle.std.proofs.Common.{ℕ, suc, ◌≡◌, ◌≢◌, ◌+◌, ◌-◌, ◌<◌, ◌≤◌, List, [], ◌∷◌, ◌++◌, length, map, get_or, refl, sym, ap, subst, ◌∙◌, arith, append_assoc, append-nil, length-append, inl, inr, Option, Some, None}
use Rattle.std.specs.Prelude.{All, ◌⊎◌}
use Rattle.std.specs.List.{flat_map}
use Rattle.std.proofs.lemmas.List.Elements.{All-head, All-tail}
use Rattle.std.proofs.lemmas.List.Folds.{list_all-append}
use Rattle.dns_symbol.specs.Symbol.{spell}
use Rattle.dns_symbol.specs.declared.symbol.Symbol.{Symbol}
use Rattle.dns_symbol.specs.declared.symbol.Symbol.TheVariants.{Char}
use Rattle.dns_symbol.specs.Escape.{octet_for}
use Rattle.dns_symbol.proofs.Spelled.{spell_same, spell_some}
use Rattle.dns_wire.specs.Wire.{wire_length}
use Rattle.rdata_values.specs.declared.error.ErrorKind.{ErrorKind}
use Rattle.rdata_values.specs.declared.error.ErrorKind.TheVariants.{BadEscape, EmptyLabel, LongLabel, LongName, NoOrigin}
use Rattle.rdata_tokens.specs.Spelling.{BeginsBadEscape}
use Rattle.rdata_tokens.specs.NameSpelling.{AreLabelSpellings, IsLabelPart, dotted_parts, part_labels, HasParts, SpellsParts, SpellsName, OpensLabel, NextOctetIs, EndsLabel, RefusesFirstLabel, HasBadLabel, IsRelative, IsLongWithOrigin, WhyNoName}
use Rattle.rdata_tokens.proofs.LabelParts.{label_is_spelling, label_head, label_tail, no_dot, no_dots, open_within, dotted_same, dotted_cons, empty_symbols, labels_nil, part_length, wire_length_cons, within, Within}
use Rattle.rdata_tokens.proofs.NameReadings.{bad_within, empty_within, longer, within_short, none_fitting, not_both, Fitting}
use Rattle.rdata_tokens.proofs.NameAnswers.{fitting_name, no_relative, no_long, none_some}

-- ---- the first label of a text

-- a text begins with octets of a label, of which there are some
record HasOctets (text : List ℕ) (count : ℕ) : Type 0 where
  pub front : List Symbol
  pub rest : List ℕ
  pub each : AreLabelSpellings front
  pub whole : text ≡ flat_map spell front ++ rest
  pub many : length front ≡ count

-- the octet that comes after others of a label
next_octet : (text : List ℕ) (room : ℕ) (part : List Symbol) (rest : List ℕ) → OpensLabel text room part rest → NextOctetIs rest → HasOctets text (suc (length part))
next_octet text room part rest h next = record {
  front = part ++ next.0 ∷ [];
  rest = next.1;
  each = rw (list_all-append, h.each, next.2) refl;
  whole = h.whole ∙ whole part;
  many = omega (arith, length-append part (next.0 ∷ []));
}
  where
    whole : (part : List Symbol) → flat_map spell part ++ rest ≡ flat_map spell (part ++ next.0 ∷ []) ++ next.1
    whole [] = next.3 ∙ ap (λ x. x ++ next.1) (sym (append-nil (spell next.0)))
    whole (s ∷ ss) = append_assoc (spell s) (flat_map spell ss) rest ∙ ap (λ x. spell s ++ x) (whole ss) ∙ sym (append_assoc (spell s) (flat_map spell (ss ++ next.0 ∷ [])) next.1)

-- before a bad escape are all octets with which a label begins
bad_last : (part other : List Symbol) (rest after : List ℕ) → BeginsBadEscape rest → AreLabelSpellings part → AreLabelSpellings other → flat_map spell part ++ rest ≡ flat_map spell other ++ after → length other ≤ length part
bad_last [] [] rest after bad p q h = omega arith
bad_last [] (t ∷ ts) rest after bad p q h =
    absurd (bad.none t (flat_map spell ts ++ after) (label_is_spelling t (label_head t ts q)) (h ∙ append_assoc (spell t) (flat_map spell ts) after))
bad_last (s ∷ ss) [] rest after bad p q h = omega arith
bad_last (s ∷ ss) (t ∷ ts) rest after bad p q h =
    let e = spell_same s t (flat_map spell ss ++ rest) (flat_map spell ts ++ after) (label_is_spelling s (label_head s ss p)) (label_is_spelling t (label_head t ts q))
    (sym (append_assoc (spell s) (flat_map spell ss) rest) ∙ h ∙ append_assoc (spell t) (flat_map spell ts) after) in
    let less = bad_last ss ts rest after bad (label_tail s ss p) (label_tail t ts q) e.1 in omega (arith, less)

bad_after : (text : List ℕ) (room count : ℕ) (part : List Symbol) (rest : List ℕ) → OpensLabel text room part rest → BeginsBadEscape rest → HasOctets text count → count ≤ length part
bad_after text room count part rest h bad k =
    let less = bad_last part k.front rest k.rest bad h.each k.each (sym h.whole ∙ k.whole) in omega (arith, less, k.many)

-- a label without octets
ends_none : (text : List ℕ) (count : ℕ) → EndsLabel text → HasOctets text (suc count) → ⊥
ends_none text count ends k = none k.front k.each k.whole k.many ends
  where
    none : (front : List Symbol) → AreLabelSpellings front → text ≡ flat_map spell front ++ k.rest → length front ≡ suc count → EndsLabel text → ⊥
    none [] each whole many ends = omega (arith, many)
    none (s ∷ ss) each whole many (inl e) = let none = (empty_symbols (s ∷ ss) k.rest (sym e ∙ whole)).0 in omega (arith, ap length none)
    none (s ∷ ss) each whole many (inr e) = no_dots (s ∷ ss) k.rest e.0 each (sym whole ∙ e.1) (omega arith)

-- a bad escape is neither a dot nor the end
bad_end : (text : List ℕ) (room : ℕ) (part : List Symbol) (rest : List ℕ) → EndsLabel text → OpensLabel text room part rest → BeginsBadEscape rest → ⊥
bad_end text room [] rest (inl e) h bad = omega (arith, bad.some, ap length (sym h.whole ∙ e))
bad_end text room [] rest (inr e) h bad = bad.none (Char 46) e.0 refl (sym h.whole ∙ e.1)
bad_end text room (s ∷ ss) rest ends h bad =
    ends_none text (length ss) ends (record { front = s ∷ ss; rest = rest; each = h.each; whole = h.whole; many = refl })

module _ (room : ℕ) (text : List ℕ) where
  -- octets of a label before a bad escape are at most 63, and fit
  bad_long : RefusesFirstLabel room text BadEscape → RefusesFirstLabel room text LongLabel → ⊥
  bad_long h k =
      let few = bad_after text room (suc (length k.0)) h.0 h.1 h.2 h.3 (next_octet text room k.0 k.1 k.2 k.4) in
      let o = h.2 in omega (arith, few, k.3, o.short)

  bad_wide : RefusesFirstLabel room text BadEscape → RefusesFirstLabel room text LongName → ⊥
  bad_wide h k =
      let few = bad_after text room (suc (length k.0)) h.0 h.1 h.2 h.3 (next_octet text room k.0 k.1 k.2 k.5) in
      let o = h.2 in
      let fits = o.fits (omega (arith, few)) in omega (arith, few, k.4, fits)

  long_wide : RefusesFirstLabel room text LongLabel → RefusesFirstLabel room text LongName → ⊥
  long_wide h k =
      let o = h.2 in
      let fits = o.fits (omega (arith, h.3)) in omega (arith, h.3, fits, k.3, k.4)

  none_long : RefusesFirstLabel room text EmptyLabel → RefusesFirstLabel room text LongLabel → ⊥
  none_long h k = ends_none text (length k.0) h (next_octet text room k.0 k.1 k.2 k.4)

  none_wide : RefusesFirstLabel room text EmptyLabel → RefusesFirstLabel room text LongName → ⊥
  none_wide h k = ends_none text (length k.0) h (next_octet text room k.0 k.1 k.2 k.5)

  -- the first label of a text is rejected for one reason
  first_once : (a b : ErrorKind) → RefusesFirstLabel room text a → RefusesFirstLabel room text b → a ≡ b
  first_once BadEscape BadEscape h k = refl
  first_once BadEscape EmptyLabel h k = absurd (bad_end text room h.0 h.1 k h.2 h.3)
  first_once BadEscape LongLabel h k = absurd (bad_long h k)
  first_once BadEscape LongName h k = absurd (bad_wide h k)
  first_once BadEscape other h k = absurd k
  first_once EmptyLabel BadEscape h k = absurd (bad_end text room k.0 k.1 h k.2 k.3)
  first_once EmptyLabel EmptyLabel h k = refl
  first_once EmptyLabel LongLabel h k = absurd (none_long h k)
  first_once EmptyLabel LongName h k = absurd (none_wide h k)
  first_once EmptyLabel other h k = absurd k
  first_once LongLabel BadEscape h k = absurd (bad_long k h)
  first_once LongLabel EmptyLabel h k = absurd (none_long k h)
  first_once LongLabel LongLabel h k = refl
  first_once LongLabel LongName h k = absurd (long_wide h k)
  first_once LongLabel other h k = absurd k
  first_once LongName BadEscape h k = absurd (bad_wide k h)
  first_once LongName EmptyLabel h k = absurd (none_wide k h)
  first_once LongName LongLabel h k = absurd (long_wide k h)
  first_once LongName LongName h k = refl
  first_once LongName other h k = absurd k
  first_once other b h k = absurd h

  -- a label that fits, and a dot after it, are not rejected
  label_fits : (label : List Symbol) (more : List ℕ) (e : ErrorKind) → IsLabelPart label → length label + 1 ≤ room → text ≡ flat_map spell label ++ 46 ∷ more → RefusesFirstLabel room text e → ⊥
  label_fits label more BadEscape is fits whole h =
      let o = h.2 in
      let w = open_within h.0 label h.1 more o.each is.each (sym o.whole ∙ whole) in no_bad w.0 w.2 w.3
    where
      no_bad : (others : List Symbol) → AreLabelSpellings others → h.1 ≡ flat_map spell others ++ 46 ∷ more → ⊥
      no_bad [] each e = let bad = h.3 in bad.none (Char 46) more refl e
      no_bad (s ∷ ss) each e = let bad = h.3 in bad.none s (flat_map spell ss ++ 46 ∷ more) (label_is_spelling s (label_head s ss each)) (e ∙ append_assoc (spell s) (flat_map spell ss) (46 ∷ more))
  label_fits [] more EmptyLabel is fits whole h = omega (arith, is.some)
  label_fits (s ∷ ss) more EmptyLabel is fits whole h =
      ends_none text (length ss) h (record { front = s ∷ ss; rest = 46 ∷ more; each = is.each; whole = whole; many = refl })
  label_fits label more LongLabel is fits whole h =
      let k = next_octet text room h.0 h.1 h.2 h.4 in
      let w = open_within k.front label k.rest more k.each is.each (sym k.whole ∙ whole) in
      omega (arith, is.short, h.3, k.many, ap length w.1, length-append k.front w.0)
  label_fits label more LongName is fits whole h =
      let k = next_octet text room h.0 h.1 h.2 h.5 in
      let w = open_within k.front label k.rest more k.each is.each (sym k.whole ∙ whole) in
      omega (arith, fits, h.4, k.many, ap length w.1, length-append k.front w.0)
  label_fits label more other is fits whole h = h

-- ---- a label of a text

-- the octets of labels and their lengths
abbrev labels_size : List (List Symbol) → ℕ
labels_size [] = 0
labels_size (part ∷ parts) = length part + 1 + labels_size parts

size_is : (parts : List (List Symbol)) → wire_length (part_labels parts []) ≡ labels_size parts
size_is parts = ap wire_length (labels_nil parts) ∙ of parts
  where
    of : (parts : List (List Symbol)) → wire_length (map (map octet_for) parts) ≡ labels_size parts
    of [] = refl
    of (part ∷ parts) = omega (arith, wire_length_cons (map octet_for part) (map (map octet_for) parts), part_length part, of parts)

parts_refused_once : (room used left : ℕ) (parts all : List (List Symbol)) (rest after : List ℕ) (a b : ErrorKind) → All IsLabelPart parts → All IsLabelPart all → dotted_parts parts ++ rest ≡ dotted_parts all ++ after
    → labels_size parts ≤ room → labels_size all ≤ room → used ≡ room - labels_size parts → left ≡ room - labels_size all → RefusesFirstLabel used rest a → RefusesFirstLabel left after b → a ≡ b
parts_refused_once room used left [] [] rest after a b p q whole fits fit u l h k =
    let same : used ≡ left = omega (arith, u, l) in
    first_once left after a b (subst (λ n. RefusesFirstLabel n after a) same (subst (λ t. RefusesFirstLabel used t a) whole h)) k
parts_refused_once room used left [] (label ∷ all) rest after a b p q whole fits fit u l h k =
    let is = All-head IsLabelPart label all q in
    absurd (label_fits used rest label (dotted_parts all ++ after) a is (omega (arith, u, fit)) (whole ∙ dotted_cons label all after) h)
parts_refused_once room used left (label ∷ parts) [] rest after a b p q whole fits fit u l h k =
    let is = All-head IsLabelPart label parts p in
    absurd (label_fits left after label (dotted_parts parts ++ rest) b is (omega (arith, l, fits)) (sym whole ∙ dotted_cons label parts rest) k)
parts_refused_once room used left (label ∷ parts) (other ∷ all) rest after a b p q whole fits fit u l h k =
    let one = All-head IsLabelPart label parts p in
    let two = All-head IsLabelPart other all q in
    let e = dotted_same label other (dotted_parts parts ++ rest) (dotted_parts all ++ after) one.each two.each (sym (dotted_cons label parts rest) ∙ whole ∙ dotted_cons other all after) in
    let many = ap length e.0 in
    parts_refused_once (room - (length label + 1)) used left parts all rest after a b (All-tail IsLabelPart label parts p) (All-tail IsLabelPart other all q) e.1
    (omega (arith, fits)) (omega (arith, fit, many)) (omega (arith, u, fits)) (omega (arith, l, fit, many)) h k

pub bad_label_once : (text : List ℕ) (a b : ErrorKind) → HasBadLabel text a → HasBadLabel text b → a ≡ b
bad_label_once text a b h k =
    let one = h.front in
    let two = k.front in
    let size = size_is h.parts in
    let other = size_is k.parts in
    parts_refused_once 254 (254 - wire_length (part_labels h.parts [])) (254 - wire_length (part_labels k.parts [])) h.parts k.parts h.rest k.rest a b one.each two.each (sym one.whole ∙ two.whole)
    (omega (arith, h.fits, size)) (omega (arith, k.fits, other)) (omega (arith, size)) (omega (arith, other)) h.refused k.refused

-- ---- names

-- if a text is labels of at most 63 octets, a rejected one is too long for a name
parts_long : (text : List ℕ) (all : List (List Symbol)) (last : List Symbol) (why : ErrorKind) → SpellsParts text all last → 0 < length last → HasBadLabel text why → why ≡ LongName
parts_long text all last why s some h = of why h.refused
  where
    opened : (room : ℕ) (part : List Symbol) (after : List ℕ) → OpensLabel h.rest room part after → Within h.parts part after all last
    opened room part after opens =
        within h.parts part after all last h.front.each opens.each s.front.each s.last_each (ap (λ r. dotted_parts h.parts ++ r) (sym opens.whole) ∙ sym h.front.whole ∙ s.front.whole)

    of : (why : ErrorKind) → RefusesFirstLabel (254 - wire_length (part_labels h.parts [])) h.rest why → why ≡ LongName
    of BadEscape r = absurd (bad_within h.parts r.0 r.1 all last r.3 (opened _ r.0 r.1 r.2))
    of EmptyLabel r =
        absurd (empty_within h.parts h.rest all last r h.no_end s.front.each (omega (arith, some))
        (within h.parts [] h.rest all last h.front.each refl s.front.each s.last_each (sym h.front.whole ∙ s.front.whole)))
    of LongLabel r =
        let more = longer h.parts r.0 r.1 all last r.4 (opened _ r.0 r.1 r.2) in
        let short = within_short h.parts (r.0 ++ more.octet ∷ []) more.rest all last s.front.each s.last_short more.is in
        absurd (omega (arith, short, r.3, length-append r.0 (more.octet ∷ [])))
    of LongName r = refl
    of other r = absurd r

-- the sign of the origin is a label
at_parts : (text : List ℕ) → text ≡ 64 ∷ [] → SpellsParts text [] (Char 64 ∷ [])
at_parts text is = record { front = record { each = λ k d lt. absurd (omega arith); whole = is }; last_each = refl; last_short = omega arith }

at_fits : (text : List ℕ) → text ≡ 64 ∷ [] → Fitting text
at_fits text is = record { all = []; last = Char 64 ∷ []; spelled = at_parts text is; some = omega arith; fits = omega arith }

relative_fits : (text : List ℕ) → IsRelative text → Fitting text
relative_fits text (inl at) = at_fits text at
relative_fits text (inr h) = record { all = h.0; last = h.1; spelled = h.2; some = omega (arith, h.3); fits = h.4 }

-- of the root's text the label is empty
root_bad : (text : List ℕ) (why : ErrorKind) → text ≡ 46 ∷ [] → HasBadLabel text why → why ≡ EmptyLabel
root_bad text why is h =
    bad_label_once text why EmptyLabel h
    (record { parts = []; rest = text; front = record { each = λ k d lt. absurd (omega arith); whole = refl }; fits = omega arith; no_end = λ e. refl; refused = inr ([], is) })

bad_of : (origin : Option (List (List ℕ))) (text : List ℕ) (e : ErrorKind) → WhyNoName origin text e → (HasBadLabel text e × (e ≡ EmptyLabel → text ≢ 46 ∷ [])) ⊎ (((e ≡ LongName) × IsLongWithOrigin origin text) ⊎ ((e ≡ NoOrigin) × (origin ≡ None) × IsRelative text))
bad_of origin text BadEscape h = inl (h, λ is. absurd (cc is))
bad_of origin text EmptyLabel h = inl (h.0, λ is. h.1)
bad_of origin text LongLabel h = inl (h, λ is. absurd (cc is))
bad_of origin text LongName (inl h) = inl (h, λ is. absurd (cc is))
bad_of origin text LongName (inr h) = inr (inl (refl, h))
bad_of origin text NoOrigin h = inr (inr (refl, h.0, h.1))
bad_of origin text other h = absurd h

pub name_reason_once : (origin : Option (List (List ℕ))) (text : List ℕ) (a b : ErrorKind) → WhyNoName origin text a → WhyNoName origin text b → a ≡ b
name_reason_once origin text a b h k = of (bad_of origin text a h) (bad_of origin text b k)
  where
    Bad : ErrorKind → Type 0
    Bad e = (HasBadLabel text e × (e ≡ EmptyLabel → text ≢ 46 ∷ [])) ⊎ (((e ≡ LongName) × IsLongWithOrigin origin text) ⊎ ((e ≡ NoOrigin) × (origin ≡ None) × IsRelative text))

    of : Bad a → Bad b → a ≡ b
    of (inl x) (inl y) = bad_label_once text a b x.0 y.0
    of (inl x) (inr (inl y)) = let l = y.1 in parts_long text l.1 l.2 a l.4 l.5 x.0 ∙ sym y.0
    of (inl x) (inr (inr y)) = absurd (none_fitting text a x.0 (relative_fits text y.2))
    of (inr (inl x)) (inl y) = let l = x.1 in x.0 ∙ sym (parts_long text l.1 l.2 b l.4 l.5 y.0)
    of (inr (inl x)) (inr (inl y)) = x.0 ∙ sym y.0
    of (inr (inl x)) (inr (inr y)) = let l = x.1 in absurd (none_some l.3 origin y.1 l.6)
    of (inr (inr x)) (inl y) = absurd (none_fitting text b y.0 (relative_fits text x.2))
    of (inr (inr x)) (inr (inl y)) = let l = y.1 in absurd (none_some l.3 origin x.1 l.6)
    of (inr (inr x)) (inr (inr y)) = x.0 ∙ sym y.0

-- a text that spells a name has no reason
pub name_has_no_reason : (origin : Option (List (List ℕ))) (text form : List ℕ) (e : ErrorKind) → WhyNoName origin text e → SpellsName origin text form → ⊥
name_has_no_reason origin text form e h s = of (bad_of origin text e h)
  where
    by_text : HasBadLabel text e → (e ≡ EmptyLabel → text ≢ 46 ∷ []) → ⊥
    by_text h no_dot =
        let not_root : text ≢ 46 ∷ [] = (λ is. no_dot (root_bad text e is h) is) in
        let not_at : text ≢ 64 ∷ [] = (λ is. none_fitting text e h (at_fits text is)) in
        none_fitting text e h (fitting_name origin text form s not_root not_at).fitting

    of : (HasBadLabel text e × (e ≡ EmptyLabel → text ≢ 46 ∷ [])) ⊎ (((e ≡ LongName) × IsLongWithOrigin origin text) ⊎ ((e ≡ NoOrigin) × (origin ≡ None) × IsRelative text)) → ⊥
    of (inl x) = by_text x.0 x.1
    of (inr (inl x)) = no_long origin text form x.1 s
    of (inr (inr x)) = no_relative origin text s.labels x.1 x.2 s.spelled
