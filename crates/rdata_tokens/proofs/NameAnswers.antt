-- What appending a name answers.
use Rattle.std.proofs.Common.{ℕ, suc, ◌≡◌, ◌≢◌, ◌+◌, ◌-◌, ◌<◌, ◌≤◌, Bool, true, false, List, [], ◌∷◌, ◌++◌, length, map, refl, sym, ap, ◌∙◌, arith, append_assoc, append-nil, length-append, inl, inr, Option, Some, None}
use Rattle.std.specs.Prelude.{All, ◌⊎◌, IsTrue, ◌==◌}
use Rattle.std.specs.List.{flat_map}
use Rattle.dns_symbol.specs.Symbol.{spell}
use Rattle.std.proofs.lemmas.Bool.{eqb-true}
use Rattle.std.proofs.lemmas.List.Elements.{All-cons, All-head, All-tail, All-append}
use Rattle.dns_octets.specs.Room.{Room}
use Rattle.dns_octets.specs.Appending.{ExceedsRoom, Gains}
use Rattle.dns_symbol.specs.declared.symbol.Symbol.{Symbol}
use Rattle.dns_wire.specs.Building.{closed}
use Rattle.dns_wire.specs.Opened.{snoc_same}
use Rattle.dns_wire.specs.Wire.{wire, wire_length, IsPlain, IsName, EndsInRoot}
use Rattle.dns_wire.proofs.Wires.{wire_append, wire_length_append, length_wire, IsName-append, IsName-plain, IsName-absolute, is_root}
use Rattle.rdata_values.specs.declared.error.ErrorKind.{ErrorKind}
use Rattle.rdata_values.specs.declared.error.ErrorKind.TheVariants.{BadEscape, EmptyLabel, LongLabel, LongName, NoOrigin, ShortBuf}
use Rattle.dns_symbol.specs.Escape.{octet_for}
use Rattle.rdata_tokens.specs.NameSpelling.{IsLabelPart, dotted_parts, part_labels, SpellsParts, SpellsLabels, root_alone, origin_alone, absolute, relative, SpellsName, HasBadLabel, IsRelative, IsLongWithOrigin, WhyNoName, BeginsWithLabels, BeginsName, RefusesName, GainsLabels}
use Rattle.rdata_tokens.proofs.LabelParts.{labels_last, wire_length_cons, within, within_fewer}
use Rattle.rdata_tokens.proofs.NameReadings.{parts_once, begins_no_root, root_no_parts, origin_no_dot, same_some, not_both, name_once, Fitting, none_fitting}

-- ---- names that are spelled

part_plain : (part : List Symbol) → IsLabelPart part → IsPlain (map octet_for part)
part_plain [] h = absurd (omega (arith, h.some))
part_plain (s ∷ ss) h = (omega arith, omega (arith, h.short, same ss))
  where
    same : (ss : List Symbol) → length (map octet_for ss) ≡ length ss
    same [] = refl
    same (s ∷ ss) = ap suc (same ss)

parts_plain : (parts : List (List Symbol)) → All IsLabelPart parts → All IsPlain (map (map octet_for) parts)
parts_plain [] h = λ k d lt. absurd (omega arith)
parts_plain (part ∷ parts) h =
    All-cons IsPlain (map octet_for part) (map (map octet_for) parts) (part_plain part (All-head IsLabelPart part parts h)) (parts_plain parts (All-tail IsLabelPart part parts h))

closed_plain : (text : List ℕ) (parts : List (List Symbol)) (last : List Symbol) → SpellsParts text parts last → All IsPlain (closed (map octet_for last))
closed_plain text parts [] h = λ k d lt. absurd (omega arith)
closed_plain text parts (s ∷ ss) h =
    All-cons IsPlain (map octet_for (s ∷ ss)) [] (part_plain (s ∷ ss) (record { each = h.last_each; some = omega arith; short = h.last_short })) (λ k d lt. absurd (omega arith))

labels_plain : (text : List ℕ) (parts : List (List Symbol)) (last : List Symbol) → SpellsParts text parts last → All IsPlain (part_labels parts last)
labels_plain text parts last h =
    All-append IsPlain (map (map octet_for) parts) (closed (map octet_for last)) (parts_plain parts h.front.each) (closed_plain text parts last h)

pub root_spelled : (origin : Option (List (List ℕ))) (text : List ℕ) → text ≡ 46 ∷ [] → SpellsName origin text (0 ∷ [])
root_spelled origin text e = record { labels = [] ∷ []; spelled = root_alone e refl; is_name = is_root.0; absolute = is_root.1; whole = refl }

pub origin_spelled : (origin : Option (List (List ℕ))) (text slice : List ℕ) (labels : List (List ℕ)) → text ≡ 64 ∷ [] → origin ≡ Some labels → slice ≡ wire labels
    → IsName labels → EndsInRoot labels → SpellsName origin text slice
origin_spelled origin text slice labels e o w n r = record { labels = labels; spelled = origin_alone e o; is_name = n; absolute = r; whole = w }

last_of : (last : List Symbol) (is_absolute : Bool) → is_absolute ≡ (length last == 0) → is_absolute ≡ true → last ≡ []
last_of [] is_absolute e h = refl
last_of (s ∷ ss) is_absolute e h = absurd (let l = eqb-true (length (s ∷ ss)) 0 (sym e ∙ h) in omega (arith, l))

last_some : (last : List Symbol) (is_absolute : Bool) → is_absolute ≡ (length last == 0) → is_absolute ≡ false → 0 < length last
last_some [] is_absolute e h = absurd (let f : true ≡ false = sym e ∙ h in cc)
last_some (s ∷ ss) is_absolute e h = omega arith

-- what follows the labels that were appended
pub record Ended (origin : Option (List (List ℕ))) (text old middle end : List ℕ) : Type 0 where
  pub front : List ℕ
  pub is : middle ≡ old ++ front
  pub spelled : SpellsName origin text (front ++ end)

some_parts : (parts : List (List Symbol)) → 0 < length (part_labels parts []) → 0 < length parts
some_parts [] h = h
some_parts (p ∷ ps) h = omega arith

pub absolute_ended : (origin : Option (List (List ℕ))) (text old middle : List ℕ) (count : ℕ) (is_absolute : Bool) → GainsLabels text old middle count is_absolute
    → is_absolute ≡ true → Ended origin text old middle (0 ∷ [])
absolute_ended origin text old middle count is_absolute g e = ended g.parts g.last (last_of g.last is_absolute g.ends e) g.spelled g.some g.gained g.count_is
  where
    ended : (parts : List (List Symbol)) (last : List Symbol) → last ≡ [] → SpellsParts text parts last → 0 < length (part_labels parts last) → middle ≡ old ++ wire (part_labels parts last)
        → count ≡ wire_length (part_labels parts last) → Ended origin text old middle (0 ∷ [])
    ended parts [] none h some gained counted = record {
      front = wire (part_labels parts []);
      is = gained;
      spelled = record {
        labels = part_labels parts [] ++ [] ∷ [];
        spelled = absolute parts (some_parts parts some) h refl;
        is_name = IsName-absolute (part_labels parts []) (labels_plain text parts [] h) (omega (arith, g.fits, counted));
        absolute = (part_labels parts [], refl);
        whole = sym (wire_append (part_labels parts []) ([] ∷ []));
      };
    }
    ended parts (s ∷ ss) none h some gained counted = absurd (omega (arith, ap length none))

pub relative_ended : (origin : Option (List (List ℕ))) (text old middle slice : List ℕ) (others : List (List ℕ)) (count : ℕ) (is_absolute : Bool) → GainsLabels text old middle count is_absolute
    → is_absolute ≡ false → text ≢ 64 ∷ [] → origin ≡ Some others → slice ≡ wire others → IsName others → EndsInRoot others → count + wire_length others ≤ 255
    → Ended origin text old middle slice
relative_ended origin text old middle slice others count is_absolute g e no_at o w n r fits =
    let labels = part_labels g.parts g.last in
    let plain = labels_plain text g.parts g.last g.spelled in record {
      front = wire labels;
      is = g.gained;
      spelled = record {
        labels = labels ++ others;
        spelled = relative g.parts g.last others (last_some g.last is_absolute g.ends e) g.spelled no_at o refl;
        is_name = IsName-append labels others (IsName-plain labels plain (omega (arith, g.fits, g.count_is))) (λ k d lt. (plain k d lt).0) n (omega (arith, fits, g.count_is));
        absolute = (labels ++ r.0, ap (λ l. labels ++ l) r.1 ∙ sym (append_assoc labels r.0 ([] ∷ [])));
        whole = ap (λ t. wire labels ++ t) w ∙ sym (wire_append labels others);
      };
    }

pub ended_gained : (origin : Option (List (List ℕ))) (text old middle end new : List ℕ) → Ended origin text old middle end → new ≡ middle ++ end → Gains (SpellsName origin text) old new
ended_gained origin text old middle end new h e = (h.front ++ end, h.spelled, e ∙ ap (λ m. m ++ end) h.is ∙ append_assoc old h.front end)

pub ended_lacks : (room : Room) (origin : Option (List (List ℕ))) (text old middle end : List ℕ) → Ended origin text old middle end
    → (length end ≤ room.fits - length middle → IsTrue false) → RefusesName room origin text old ShortBuf
ended_lacks room origin text old middle end h short =
    let full : length end ≤ room.fits - length middle → ⊥ = (λ p. let q = short p in cc) in
    inl (refl, (h.front ++ end, inr h.spelled, omega (arith, full, ap length h.is, length-append old h.front, length-append h.front end)))

pub alone : (origin : Option (List (List ℕ))) (text old end : List ℕ) → SpellsName origin text end → Ended origin text old old end
alone origin text old end h = record { front = []; is = sym (append-nil old); spelled = h }

-- ---- texts that spell no name

-- labels and what follows them, of a name that is spelled
pub record FittingName (text form : List ℕ) : Type 0 where
  pub fitting : Fitting text
  pub long : wire_length (part_labels fitting.all fitting.last) ≤ length form

pub fitting_name : (origin : Option (List (List ℕ))) (text form : List ℕ) → SpellsName origin text form → text ≢ 46 ∷ [] → text ≢ 64 ∷ [] → FittingName text form
fitting_name origin text form s no_dot no_at = of s.spelled
  where
    length_form : (labels tail : List (List ℕ)) → s.labels ≡ labels ++ tail → (length form ≡ wire_length labels + wire_length tail) × (wire_length labels + wire_length tail ≤ 255)
    length_form labels tail e =
        let whole : length form ≡ wire_length s.labels = ap length s.whole ∙ length_wire s.labels in
        let both : wire_length s.labels ≡ wire_length labels + wire_length tail = ap wire_length e ∙ wire_length_append labels tail in
        let fits = s.is_name.fits in
        (omega (arith, whole, both), omega (arith, both, fits))

    with_others : (parts : List (List Symbol)) (last : List Symbol) (others : List (List ℕ)) → 0 < length last → SpellsParts text parts last → s.labels ≡ part_labels parts last ++ others → FittingName text form
    with_others parts last [] some h is =
        let r = s.absolute in
        let end = snoc_same (map (map octet_for) parts) r.0 (map octet_for last) []
        (sym (labels_last parts last some) ∙ sym (append-nil (part_labels parts last)) ∙ sym is ∙ r.1) in
        absurd (none last some end.1)
      where
        none : (last : List Symbol) → 0 < length last → map octet_for last ≡ [] → ⊥
        none [] some e = omega arith
        none (x ∷ xs) some e = omega (arith, ap length e)
    with_others parts last (label ∷ others) some h is =
        let l = length_form (part_labels parts last) (label ∷ others) is in
        let one = wire_length_cons label others in record {
          fitting = record { all = parts; last = last; spelled = h; some = omega arith; fits = omega (arith, l.1, one) };
          long = omega (arith, l.0);
        }

    of : SpellsLabels origin text s.labels → FittingName text form
    of (root_alone e f) = absurd (no_dot e)
    of (origin_alone e f) = absurd (no_at e)
    of (absolute parts some h is) =
        let l = length_form (part_labels parts []) ([] ∷ []) is in
        let one = wire_length_cons [] [] in record {
          fitting = record { all = parts; last = []; spelled = h; some = omega arith; fits = omega (arith, l.1, one) };
          long = omega (arith, l.0);
        }
    of (relative parts last others some h no_at o is) = with_others parts last others some h is

-- a beginning of a name has no more octets than the name
pub name_begun : (origin : Option (List (List ℕ))) (text front form : List ℕ) → BeginsName origin text front → SpellsName origin text form → length front ≤ length form
name_begun origin text front form (inr h) s = let same = ap length (name_once origin text front form h s) in omega (arith, same)
name_begun origin text front form (inl h) s =
    let no_at = h.0 in
    let b : BeginsWithLabels text front = h.1 in
    let no_dot : text ≢ 46 ∷ [] = (λ e. begins_no_root text b.front b.rest b.parts b.last e b.whole b.spelled b.some) in
    let f = fitting_name origin text form s no_dot no_at in
    let all = f.fitting in
    let same : dotted_parts b.parts ++ (flat_map spell b.last ++ b.rest) ≡ dotted_parts all.all ++ flat_map spell all.last =
    sym (append_assoc (dotted_parts b.parts) (flat_map spell b.last) b.rest) ∙ ap (λ t. t ++ b.rest) (sym b.spelled.front.whole) ∙ sym b.whole ∙ all.spelled.front.whole in
    let few = within_fewer b.parts b.last b.rest all.all all.last
    (within b.parts b.last b.rest all.all all.last b.spelled.front.each b.spelled.last_each all.spelled.front.each all.spelled.last_each same) in
    omega (arith, few, f.long, ap length b.octets_are, length_wire (part_labels b.parts b.last))

why_bad : (origin : Option (List (List ℕ))) (text : List ℕ) (why : ErrorKind) → text ≢ 46 ∷ [] → HasBadLabel text why → WhyNoName origin text why
why_bad origin text BadEscape no_dot h = h
why_bad origin text EmptyLabel no_dot h = (h, no_dot)
why_bad origin text LongLabel no_dot h = h
why_bad origin text LongName no_dot h = inl h
why_bad origin text other no_dot h = absurd h.refused

pub labels_refused : (room : Room) (origin : Option (List (List ℕ))) (text old : List ℕ) (why : ErrorKind) → text ≢ 46 ∷ [] → text ≢ 64 ∷ []
    → ((why ≡ ShortBuf) × ExceedsRoom room (BeginsWithLabels text) old) ⊎ HasBadLabel text why → RefusesName room origin text old why
labels_refused room origin text old why no_dot no_at (inl h) = inl (h.0, (h.1.0, inl (no_at, h.1.1), h.1.2))
labels_refused room origin text old why no_dot no_at (inr h) =
    inr (why_bad origin text why no_dot h, λ form s. none_fitting text why h (fitting_name origin text form s no_dot no_at).fitting)

pub none_some : {A : Type 0} (a : A) (o : Option A) → o ≡ None → o ≡ Some a → ⊥
none_some a o h k = let e : None ≡ Some a = sym h ∙ k in cc

pub no_relative : (origin : Option (List (List ℕ))) (text : List ℕ) (labels : List (List ℕ)) → origin ≡ None → IsRelative text → SpellsLabels origin text labels → ⊥
no_relative origin text labels none (inl at) (root_alone e f) = not_both text e at
no_relative origin text labels none (inr rel) (root_alone e f) = root_no_parts text rel.0 rel.1 e rel.2 (let some = rel.3 in omega (arith, some))
no_relative origin text labels none rel (origin_alone e f) = none_some labels origin none f
no_relative origin text labels none (inl at) (absolute parts some h is) = origin_no_dot text parts [] at h some
no_relative origin text labels none (inr rel) (absolute parts some h is) =
    let same = parts_once text rel.0 parts rel.1 [] rel.2 h in omega (arith, ap length same.1, rel.3)
no_relative origin text labels none rel (relative parts last others some h no_at o is) = none_some others origin none o

pub origin_lacking : (room : Room) (origin : Option (List (List ℕ))) (text old : List ℕ) → origin ≡ None → IsRelative text → RefusesName room origin text old NoOrigin
origin_lacking room origin text old none rel = inr ((none, rel), λ form s. no_relative origin text s.labels none rel s.spelled)

pub labels_relative : (text old middle : List ℕ) (count : ℕ) (is_absolute : Bool) → GainsLabels text old middle count is_absolute → is_absolute ≡ false → IsRelative text
labels_relative text old middle count is_absolute g e = inr (g.parts, g.last, g.spelled, last_some g.last is_absolute g.ends e, omega (arith, g.fits, g.count_is))

pub no_long : (origin : Option (List (List ℕ))) (text form : List ℕ) → IsLongWithOrigin origin text → SpellsName origin text form → ⊥
no_long origin text form h s = of s.spelled
  where
    of : SpellsLabels origin text s.labels → ⊥
    of (root_alone e f) = root_no_parts text h.1 h.2 e h.4 (let some = h.5 in omega (arith, some))
    of (origin_alone e f) = h.0 e
    of (absolute parts some k is) = let same = parts_once text h.1 parts h.2 [] h.4 k in omega (arith, ap length same.1, h.5)
    of (relative parts last others some k no_at o is) =
        let same = parts_once text h.1 parts h.2 last h.4 k in
        let own = same_some others h.3 origin o h.6 in
        let whole : s.labels ≡ part_labels h.1 h.2 ++ h.3 =
        is ∙ ap (λ p. part_labels p last ++ others) same.0 ∙ ap (λ l. part_labels h.1 l ++ others) same.1 ∙ ap (λ l. part_labels h.1 h.2 ++ l) own in
        let fits = s.is_name.fits in
        omega (arith, fits, ap wire_length whole, wire_length_append (part_labels h.1 h.2) h.3, h.7)

pub long_refused : (room : Room) (origin : Option (List (List ℕ))) (text old middle : List ℕ) (others : List (List ℕ)) (count : ℕ) (is_absolute : Bool)
    → GainsLabels text old middle count is_absolute → is_absolute ≡ false → text ≢ 64 ∷ [] → origin ≡ Some others → 255 < count + wire_length others → RefusesName room origin text old LongName
long_refused room origin text old middle others count is_absolute g e no_at o long =
    let why : IsLongWithOrigin origin text =
    (no_at, g.parts, g.last, others, g.spelled, last_some g.last is_absolute g.ends e, o, omega (arith, long, g.count_is)) in
    inr (inr why, λ form s. no_long origin text form why s)
