-- Texts of names that scanners parse, and those that spell names of RDATA.
use Rattle.std.proofs.Common.{ℕ, ◌≡◌, ◌≢◌, ◌<◌, ◌≤◌, true, List, [], ◌∷◌, ◌++◌, length, map, refl, sym, ap, subst, ◌∙◌, arith, append_assoc, append-nil, length-append, inl, inr, Option, Some, None}
use Rattle.std.specs.Prelude.{All, not}
use Rattle.std.specs.List.{flat_map, list_all, AllZip}
use Rattle.std.proofs.lemmas.Bool.{and_parts}
use Rattle.std.proofs.lemmas.Grind.{flat_map-append}
use Rattle.std.proofs.lemmas.List.{length-map}
use Rattle.std.proofs.lemmas.List.Elements.{All-nil, All-cons, All-head, All-tail, All-append}
use Rattle.std.proofs.lemmas.List.Folds.{list_all-append}
use Rattle.dns_symbol.specs.Symbol.{bytes, spell, is_printable, is_readable}
use Rattle.dns_symbol.specs.declared.symbol.Symbol.{Symbol}
use Rattle.dns_symbol.specs.declared.symbol.Symbol.TheVariants.{Char, SimpleEscape, DecimalEscape}
use Rattle.dns_wire.specs.Building.{closed}
use Rattle.dns_wire.specs.Wire.{wire, wire_length, IsPlain, IsName, EndsInRoot}
use Rattle.dns_wire.proofs.Wires.{wire_length_append, IsName-plain, IsName-absolute, IsName-append}
use Rattle.dns_wire.proofs.Chains.{chain_ends}
use Rattle.dns_name.specs.Reading.{is_dot, SpellsLabel, dotted, HasNamed, ReadsAs}
use Rattle.dns_name.specs.declared.name.UncertainName.TheVariants.{Absolute, Relative}
use Rattle.dns_name.proofs.Naming.{dot_bytes}
use Rattle.dns_name.proofs.WholeName.{named_empty}
use Rattle.dns_symbol.specs.Escape.{is_spelling, octet_for}
use Rattle.rdata_tokens.specs.NameSpelling.{is_plain_dot, is_label_spelling, AreLabelSpellings, IsLabelPart, dotted_parts, part_labels, SpellsParts, SpellsLabels, root_alone, origin_alone, absolute, relative, SpellsName, IsRelative}
use Rattle.rdata_tokens.proofs.LabelParts.{labels_are_spellings, dotted_cons}
use Rattle.rdata_tokens.proofs.NameReadings.{parts_once, root_no_parts}
use Rattle.dns_laws.specs.Readers.{IsNoBinary, HasNoBinary}
use Rattle.dns_laws.proofs.ReaderSymbols.{Printable, AllAlike, all_read, all_spelled}

abbrev HasNoPlainDot : List Symbol → Type 0
HasNoPlainDot xs = list_all (λ x. not (is_dot x)) xs ≡ true

-- ---- the symbols of one label

pub record PartAlike (part : List Symbol) (label : List ℕ) : Type 0 where
  pub alike : AllAlike part label
  pub each : AreLabelSpellings part
  pub no_dot : HasNoPlainDot part

same_dot : (x : Symbol) → is_plain_dot x ≡ is_dot x
same_dot (Char c) = refl
same_dot (SimpleEscape o) = refl
same_dot (DecimalEscape o) = refl

spellings_of_label : (xs : List Symbol) → list_all is_spelling xs ≡ true → HasNoPlainDot xs → AreLabelSpellings xs
spellings_of_label [] h k = refl
spellings_of_label (x ∷ xs) h k =
    let a = and_parts (is_spelling x) (list_all is_spelling xs) h in
    let b = and_parts (not (is_dot x)) (list_all (λ y. not (is_dot y)) xs) k in
    rw (same_dot x, a.0, b.0, spellings_of_label xs a.1 b.1) refl

dots_of_label : (xs : List Symbol) → AreLabelSpellings xs → HasNoPlainDot xs
dots_of_label [] h = refl
dots_of_label (x ∷ xs) h =
    let a = and_parts (is_label_spelling x) (list_all is_label_spelling xs) h in
    let b = and_parts (is_spelling x) (not (is_plain_dot x)) a.0 in
    let here : not (is_dot x) ≡ true = ap not (sym (same_dot x)) ∙ b.1 in
    rw (here, dots_of_label xs a.1) refl

part_read : (part : List Symbol) (label : List ℕ) → list_all is_readable part ≡ true → SpellsLabel part label → PartAlike part label
part_read part label r h =
    let all = all_read part label r h.octets_are in
    record { alike = all; each = spellings_of_label part all.spelling h.no_dot; no_dot = h.no_dot }

part_spelled : (part : List Symbol) → AreLabelSpellings part → Printable (flat_map spell part) → PartAlike part (map octet_for part)
part_spelled part h p = record { alike = all_spelled part (labels_are_spellings part h) p; each = h; no_dot = dots_of_label part h }

part_length : (part : List Symbol) (label : List ℕ) → PartAlike part label → length label ≡ length part
part_length part label h = ap length h.alike.stand ∙ length-map part octet_for

label_spelled : (part : List Symbol) (label : List ℕ) → PartAlike part label → IsNoBinary part → length label ≤ 63 → SpellsLabel part label
label_spelled part label h none short = record { octets_are = h.alike.given; no_dot = h.no_dot; no_binary = none; short = short }

-- ---- labels with a dot after each

abbrev AreAlike : List (List Symbol) → List (List ℕ) → Type 0
AreAlike parts labels = AllZip PartAlike parts labels

dotted_more : (part : List Symbol) (parts : List (List Symbol)) (rest : List Symbol) → dotted (part ∷ parts) ++ rest ≡ part ++ Char 46 ∷ (dotted parts ++ rest)
dotted_more part parts rest = append_assoc (part ++ Char 46 ∷ []) (dotted parts) rest ∙ append_assoc part (Char 46 ∷ []) (dotted parts ++ rest)

front_same : (parts : List (List Symbol)) (labels : List (List ℕ)) (rest : List Symbol) → AreAlike parts labels → flat_map bytes (dotted parts ++ rest) ≡ dotted_parts parts ++ flat_map bytes rest
front_same [] [] rest h = refl
front_same [] (l ∷ ls) rest h = absurd h
front_same (p ∷ ps) [] rest h = absurd h
front_same (p ∷ ps) (l ∷ ls) rest h =
    ap (flat_map bytes) (dotted_more p ps rest) ∙ flat_map-append bytes p (Char 46 ∷ (dotted ps ++ rest))
    ∙ (λ i. h.0.alike.same i ++ (dot_bytes i ++ front_same ps ls rest h.1 i)) ∙ sym (dotted_cons p ps (flat_map bytes rest))

front_readable : (parts : List (List Symbol)) (labels : List (List ℕ)) (rest : List Symbol) → AreAlike parts labels → list_all is_readable rest ≡ true → list_all is_readable (dotted parts ++ rest) ≡ true
front_readable [] [] rest h r = r
front_readable [] (l ∷ ls) rest h r = absurd h
front_readable (p ∷ ps) [] rest h r = absurd h
front_readable (p ∷ ps) (l ∷ ls) rest h r =
    ap (list_all is_readable) (dotted_more p ps rest) ∙ list_all-append is_readable p (Char 46 ∷ (dotted ps ++ rest)) ∙ rw (h.0.alike.readable, front_readable ps ls rest h.1 r) refl

front_shown : (parts : List (List Symbol)) (labels : List (List ℕ)) (rest : List ℕ) → AreAlike parts labels → Printable rest → Printable (dotted_parts parts ++ rest)
front_shown [] [] rest h p = p
front_shown [] (l ∷ ls) rest h p = absurd h
front_shown (q ∷ qs) [] rest h p = absurd h
front_shown (q ∷ qs) (l ∷ ls) rest h p =
    ap (list_all is_printable) (dotted_cons q qs rest) ∙ list_all-append is_printable (flat_map spell q) (46 ∷ (dotted_parts qs ++ rest)) ∙ rw (h.0.alike.shown, front_shown qs ls rest h.1 p) refl

front_labels : (parts : List (List Symbol)) (labels : List (List ℕ)) → AreAlike parts labels → labels ≡ map (map octet_for) parts
front_labels [] [] h = refl
front_labels [] (l ∷ ls) h = absurd h
front_labels (p ∷ ps) [] h = absurd h
front_labels (p ∷ ps) (l ∷ ls) h = λ i. h.0.alike.stand i ∷ front_labels ps ls h.1 i

front_each : (parts : List (List Symbol)) (labels : List (List ℕ)) → AreAlike parts labels → All IsPlain labels → All IsLabelPart parts
front_each [] [] h plain = All-nil IsLabelPart
front_each [] (l ∷ ls) h plain = absurd h
front_each (p ∷ ps) [] h plain = absurd h
front_each (p ∷ ps) (l ∷ ls) h plain =
    let one = All-head IsPlain l ls plain in
    let n = part_length p l h.0 in
    All-cons IsLabelPart p ps (record { each = h.0.each; some = omega (arith, one.0, n); short = omega (arith, one.1, n) })
    (front_each ps ls h.1 (All-tail IsPlain l ls plain))

front_read : (parts : List (List Symbol)) (labels : List (List ℕ)) (rest : List Symbol) → list_all is_readable (dotted parts ++ rest) ≡ true → AllZip SpellsLabel parts labels
    → AreAlike parts labels × (list_all is_readable rest ≡ true)
front_read [] [] rest r h = (tt, r)
front_read [] (l ∷ ls) rest r h = absurd h
front_read (p ∷ ps) [] rest r h = absurd h
front_read (p ∷ ps) (l ∷ ls) rest r h =
    let split = sym (ap (list_all is_readable) (dotted_more p ps rest) ∙ list_all-append is_readable p (Char 46 ∷ (dotted ps ++ rest))) ∙ r in
    let parts = and_parts (list_all is_readable p) (list_all is_readable (Char 46 ∷ (dotted ps ++ rest))) split in
    let behind = and_parts (is_readable (Char 46)) (list_all is_readable (dotted ps ++ rest)) parts.1 in
    let more = front_read ps ls rest behind.1 h.1 in
    ((part_read p l parts.0 h.0, more.0), more.1)

front_spelled : (parts : List (List Symbol)) (rest : List ℕ) → All IsLabelPart parts → Printable (dotted_parts parts ++ rest) → AreAlike parts (map (map octet_for) parts) × Printable rest
front_spelled [] rest h p = (tt, p)
front_spelled (q ∷ qs) rest h p =
    let split = sym (ap (list_all is_printable) (dotted_cons q qs rest) ∙ list_all-append is_printable (flat_map spell q) (46 ∷ (dotted_parts qs ++ rest))) ∙ p in
    let parts = and_parts (list_all is_printable (flat_map spell q)) (list_all is_printable (46 ∷ (dotted_parts qs ++ rest))) split in
    let behind = and_parts (is_printable 46) (list_all is_printable (dotted_parts qs ++ rest)) parts.1 in
    let more = front_spelled qs rest (All-tail IsLabelPart q qs h) behind.1 in
    let one = All-head IsLabelPart q qs h in
    ((part_spelled q one.each parts.0, more.0), more.1)

plain_read : (parts : List (List Symbol)) (labels : List (List ℕ)) → AllZip SpellsLabel parts labels → All (λ label. 0 < length label) labels → All IsPlain labels
plain_read [] [] h some = All-nil IsPlain
plain_read [] (l ∷ ls) h some = absurd h
plain_read (p ∷ ps) [] h some = absurd h
plain_read (p ∷ ps) (l ∷ ls) h some =
    All-cons IsPlain l ls (All-head (λ label. 0 < length label) l ls some, h.0.short) (plain_read ps ls h.1 (All-tail (λ label. 0 < length label) l ls some))

plain_spelled : (parts : List (List Symbol)) (labels : List (List ℕ)) → AreAlike parts labels → All IsLabelPart parts → All IsPlain labels
plain_spelled [] [] h each = All-nil IsPlain
plain_spelled [] (l ∷ ls) h each = absurd h
plain_spelled (p ∷ ps) [] h each = absurd h
plain_spelled (p ∷ ps) (l ∷ ls) h each =
    let one = All-head IsLabelPart p ps each in
    let n = part_length p l h.0 in
    All-cons IsPlain l ls (omega (arith, one.some, n), omega (arith, one.short, n)) (plain_spelled ps ls h.1 (All-tail IsLabelPart p ps each))

no_binary_read : (parts : List (List Symbol)) (labels : List (List ℕ)) (last : List Symbol) → AllZip SpellsLabel parts labels → IsNoBinary last → All IsNoBinary (parts ++ last ∷ [])
no_binary_read [] [] last h none = All-cons IsNoBinary last [] none (All-nil IsNoBinary)
no_binary_read [] (l ∷ ls) last h none = absurd h
no_binary_read (p ∷ ps) [] last h none = absurd h
no_binary_read (p ∷ ps) (l ∷ ls) last h none = All-cons IsNoBinary p (ps ++ last ∷ []) h.0.no_binary (no_binary_read ps ls last h.1 none)

front_spells : (parts : List (List Symbol)) (labels : List (List ℕ)) (last : List Symbol) → AreAlike parts labels → All IsPlain labels → All IsNoBinary (parts ++ last ∷ [])
    → AllZip SpellsLabel parts labels × IsNoBinary last
front_spells [] [] last h plain none = (tt, All-head IsNoBinary last [] none)
front_spells [] (l ∷ ls) last h plain none = absurd h
front_spells (p ∷ ps) [] last h plain none = absurd h
front_spells (p ∷ ps) (l ∷ ls) last h plain none =
    let one = All-head IsPlain l ls plain in
    let more = front_spells ps ls last h.1 (All-tail IsPlain l ls plain) (All-tail IsNoBinary p (ps ++ last ∷ []) none) in
    ((label_spelled p l h.0 (All-head IsNoBinary p (ps ++ last ∷ []) none) one.1, more.0), more.1)

-- ---- whole texts

pub record NamedAlike (text : List ℕ) (parts : List (List Symbol)) (last : List Symbol) (labels : List (List ℕ)) (current : List ℕ) : Type 0 where
  pub front : AreAlike parts labels
  pub open_part : PartAlike last current
  pub plain : All IsPlain labels
  pub short : length current ≤ 63
  pub whole : text ≡ dotted_parts parts ++ flat_map spell last

pub named_alike : (text : List ℕ) (labels : List (List ℕ)) (current : List ℕ) → (h : HasNamed text labels current []) → NamedAlike text h.names.spellings h.names.last labels current
named_alike text labels current h =
    let front = front_read h.names.spellings labels h.names.last (ap (list_all is_readable) (sym h.names.joined) ∙ h.readable) h.names.finished in
    let open_part = part_read h.names.last current front.1 h.names.opened in
    record {
      front = front.0;
      open_part = open_part;
      plain = plain_read h.names.spellings labels h.names.finished h.names.some;
      short = h.names.opened.short;
      whole = h.spelled ∙ append-nil (flat_map bytes h.symbols) ∙ ap (flat_map bytes) h.names.joined ∙ front_same h.names.spellings labels h.names.last front.0
          ∙ ap (λ t. dotted_parts h.names.spellings ++ t) open_part.alike.same;
    }

pub parts_alike : (text : List ℕ) (parts : List (List Symbol)) (last : List Symbol) → SpellsParts text parts last → Printable text
    → NamedAlike text parts last (map (map octet_for) parts) (map octet_for last)
parts_alike text parts last h p =
    let front = front_spelled parts (flat_map spell last) h.front.each (subst Printable h.front.whole p) in
    let short = h.last_short in
    record {
      front = front.0;
      open_part = part_spelled last h.last_each front.1;
      plain = plain_spelled parts (map (map octet_for) parts) front.0 h.front.each;
      short = omega (arith, short, length-map last octet_for);
      whole = h.front.whole;
    }

module _ {text : List ℕ} {parts : List (List Symbol)} {last : List Symbol} {labels : List (List ℕ)} {current : List ℕ} (h : NamedAlike text parts last labels current) where
  pub shown : Printable text
  shown = subst Printable (sym h.whole) (front_shown parts labels (flat_map spell last) h.front h.open_part.alike.shown)

  pub spells_parts : SpellsParts text parts last
  spells_parts =
      let n = part_length last current h.open_part in
      let short = h.short in
      record { front = record { each = front_each parts labels h.front h.plain; whole = h.whole }; last_each = h.open_part.each; last_short = omega (arith, short, n) }

  pub labels_are : labels ++ closed current ≡ part_labels parts last
  labels_are = λ i. front_labels parts labels h.front i ++ closed (h.open_part.alike.stand i)

  pub named : All IsNoBinary (parts ++ last ∷ []) → wire_length (labels ++ closed current) ≤ 254 → HasNamed text labels current []
  named none fits =
      let spelled = front_spells parts labels last h.front h.plain none in
      record {
        symbols = dotted parts ++ last;
        readable = front_readable parts labels last h.front h.open_part.alike.readable;
        spelled = h.whole ∙ ap (λ t. dotted_parts parts ++ t) (sym h.open_part.alike.same) ∙ sym (front_same parts labels last h.front) ∙ sym (append-nil (flat_map bytes (dotted parts ++ last)));
        names = record {
          spellings = parts;
          last = last;
          joined = refl;
          finished = spelled.0;
          opened = label_spelled last current h.open_part spelled.1 h.short;
          some = λ k d lt. (h.plain k d lt).0;
          fits = fits;
        };
      }

-- no label of a text that is read is a binary one
pub none_binary : (text : List ℕ) (labels : List (List ℕ)) (current : List ℕ) → HasNamed text labels current [] → HasNoBinary text
none_binary text labels current h = λ parts last k.
    let same = parts_once text h.names.spellings parts h.names.last last (spells_parts (named_alike text labels current h)) k in
    subst (All IsNoBinary) (λ i. sym same.0 i ++ sym same.1 i ∷ []) (no_binary_read h.names.spellings labels h.names.last h.names.finished h.names.opened.no_binary)

root_none_binary : (text : List ℕ) → text ≡ 46 ∷ [] → HasNoBinary text
root_none_binary text e [] [] k = All-cons IsNoBinary [] [] (λ more f. cc) (All-nil IsNoBinary)
root_none_binary text e [] (x ∷ xs) k = absurd (root_no_parts text [] (x ∷ xs) e k (omega arith))
root_none_binary text e (p ∷ ps) last k = absurd (root_no_parts text (p ∷ ps) last e k (omega arith))

no_symbols : (last : List Symbol) → PartAlike last [] → last ≡ []
no_symbols [] h = refl
no_symbols (x ∷ xs) h = absurd (omega (arith, part_length (x ∷ xs) [] h))

some_parts : (parts : List (List Symbol)) (labels : List (List ℕ)) → AreAlike parts labels → labels ≢ [] → 0 < length parts
some_parts [] [] h some = absurd (some refl)
some_parts [] (l ∷ ls) h some = absurd h
some_parts (p ∷ ps) labels h some = omega arith

closed_plain : (current : List ℕ) → length current ≤ 63 → All IsPlain (closed current)
closed_plain [] short = All-nil IsPlain
closed_plain (o ∷ os) short = All-cons IsPlain (o ∷ os) [] (omega arith, short) (All-nil IsPlain)

root_is_name : IsName ([] ∷ [])
root_is_name = IsName-absolute [] (All-nil IsPlain) (omega arith)

abbrev pub ReadsAbsolute : (O : Type 0) → List ℕ → List (List ℕ) → Type 0
ReadsAbsolute O text name = ReadsAs {O = O} text (Absolute name)

module _ (O : Type 0) (origin : Option (List (List ℕ))) (text : List ℕ) where
  -- a text that is read as an absolute name
  pub absolute_spelled : (name : List (List ℕ)) → ReadsAbsolute O text name → Printable text × HasNoBinary text × SpellsLabels origin text name × IsName name × EndsInRoot name
  absolute_spelled name (inl h) = (
    subst Printable (sym h.0) refl,
    root_none_binary text h.0,
    root_alone h.0 h.1,
    subst IsName (sym h.1) root_is_name,
    ([], h.1),
  )
  absolute_spelled name (inr h) =
      let alike = named_alike text h.0 [] h.1 in
      let none = no_symbols h.1.names.last alike.open_part in
      let parts : List (List Symbol) = h.1.names.spellings in
      let spelled : SpellsParts text parts [] = subst (SpellsParts text parts) none (spells_parts alike) in
      let are : h.0 ++ [] ≡ part_labels parts [] = labels_are alike ∙ ap (part_labels parts) none in
      let name_is : name ≡ part_labels parts [] ++ [] ∷ [] = h.3 ∙ ap (λ l. l ++ [] ∷ []) (sym (append-nil h.0) ∙ are) in
      let fits = h.1.names.fits in (
        shown alike,
        none_binary text h.0 [] h.1,
        absolute parts (some_parts parts h.0 alike.front h.2) spelled name_is,
        subst IsName (sym h.3) (IsName-absolute h.0 alike.plain (omega (arith, fits, ap wire_length (append-nil h.0)))),
        (h.0, h.3),
      )

-- and a printable text that spells one without an origin
pub absolute_read : (O : Type 0) (text : List ℕ) (name : List (List ℕ)) → Printable text → HasNoBinary text → SpellsLabels None text name → IsName name → ReadsAbsolute O text name
absolute_read O text name p none (root_alone e f) n = inl (e, f)
absolute_read O text name p none (origin_alone e f) n = absurd (cc)
absolute_read O text name p none (relative parts last others some k no_at o is) n = absurd (cc)
absolute_read O text name p none (absolute parts some k is) n =
    let alike = parts_alike text parts [] k p in
    let labels : List (List ℕ) = map (map octet_for) parts in
    let fits = n.fits in
    let same : name ≡ labels ++ [] ∷ [] = is ∙ ap (λ l. l ++ [] ∷ []) (append-nil labels) in
    inr (
      labels,
      named alike (none parts [] k) (omega (arith, fits, ap wire_length same, wire_length_append labels ([] ∷ []), ap wire_length (append-nil labels))),
      λ e. omega (arith, some, ap length e, length-map parts (map octet_for)),
      same,
    )

-- ---- relative names, which precede the origin's labels

-- of one label or more, with the octets of both, which fit
abbrev pub ReadsBefore : (O : Type 0) → List (List ℕ) → List ℕ → List ℕ → Type 0
ReadsBefore O others text form = (name : List (List ℕ)) × ReadsAs {O = O} text (Relative name) × (name ≢ []) × (wire_length (name ++ others) ≤ 255) × (form ≡ wire (name ++ others))

module _ (O : Type 0) (text : List ℕ) (others : List (List ℕ)) (form : List ℕ) (no_at : text ≢ 64 ∷ []) where
  pub relative_spelled : IsName others → EndsInRoot others → ReadsBefore O others text form → Printable text × HasNoBinary text × IsRelative text × SpellsName (Some others) text form
  relative_spelled n ends h =
      let name : List (List ℕ) = h.0 in
      let read = h.1 in
      let alike = named_alike text read.0 read.1 read.2 in
      let parts : List (List Symbol) = read.2.names.spellings in
      let last : List Symbol = read.2.names.last in
      let plain : All IsPlain (read.0 ++ closed read.1) = All-append IsPlain read.0 (closed read.1) alike.plain (closed_plain read.1 alike.short) in
      let short = read.2.names.fits in
      let own : IsName name = subst IsName (sym read.3) (IsName-plain (read.0 ++ closed read.1) plain (omega (arith, short))) in
      let some = last_some last read.1 refl alike.open_part in
      let fits = h.3 in (
        shown alike,
        none_binary text read.0 read.1 read.2,
        inr (parts, last, spells_parts alike, some, omega (arith, short, ap wire_length (labels_are alike))),
        record {
          labels = name ++ others;
          spelled = relative parts last others some (spells_parts alike) no_at refl (ap (λ l. l ++ others) (read.3 ∙ labels_are alike));
          is_name = IsName-append name others own (subst (All (λ label. 0 < length label)) (sym read.3) (λ k d lt. (plain k d lt).0)) n (omega (arith, fits, wire_length_append name others));
          absolute = chain_ends name others ends;
          whole = h.4;
        },
      )
    where
      -- the empty text has no label
      none_named : h.1.1 ≡ [] → ⊥
      none_named e =
          let nothing : HasNamed [] h.1.0 h.1.1 [] = subst (λ t. HasNamed t h.1.0 h.1.1 []) (h.1.4 e) h.1.2 in
          let no_labels = named_empty h.1.0 h.1.1 nothing in
          h.2 (h.1.3 ∙ (λ i. no_labels i ++ closed (e i)))

      last_some : (last : List Symbol) (current : List ℕ) → current ≡ h.1.1 → PartAlike last current → 0 < length last
      last_some [] [] e k = absurd (none_named (sym e))
      last_some [] (o ∷ os) e k = absurd (omega (arith, part_length [] (o ∷ os) k))
      last_some (x ∷ xs) current e k = omega arith

  pub relative_read : EndsInRoot others → Printable text → HasNoBinary text → IsRelative text → SpellsName (Some others) text form → ReadsBefore O others text form
  relative_read ends p none is h = by is h.spelled
    where
      ends_long : 1 ≤ wire_length others
      ends_long = omega (arith, ap wire_length ends.1, wire_length_append ends.0 ([] ∷ []))

      of_parts : (parts : List (List Symbol)) (last : List Symbol) → 0 < length last → SpellsParts text parts last → h.labels ≡ part_labels parts last ++ others → ReadsBefore O others text form
      of_parts parts [] some k labels_is = absurd (omega arith)
      of_parts parts (x ∷ xs) some k labels_is =
          let last : List Symbol = x ∷ xs in
          let name : List (List ℕ) = part_labels parts last in
          let alike = parts_alike text parts last k p in
          let all = h.is_name.fits in
          let size = ap wire_length labels_is in
          let plus = wire_length_append name others in (
            name,
            (map (map octet_for) parts, map octet_for last, named alike (none parts last k) (omega (arith, all, size, plus, ends_long)), refl, λ e. cc),
            (λ e. omega (arith, ap length e, length-append (map (map octet_for) parts) (map octet_for last ∷ []))),
            omega (arith, all, size),
            h.whole ∙ ap wire labels_is,
          )

      by : IsRelative text → SpellsLabels (Some others) text h.labels → ReadsBefore O others text form
      by (inl e) k = absurd (no_at e)
      by (inr r) (root_alone e f) = absurd (root_no_parts text r.0 r.1 e r.2 (let some = r.3 in omega (arith, some)))
      by (inr r) (origin_alone e f) = absurd (no_at e)
      by (inr r) (absolute parts some k labels_is) =
          let same = parts_once text r.0 parts r.1 [] r.2 k in
          let some_last = r.3 in
          absurd (omega (arith, some_last, ap length same.1))
      by (inr r) (relative parts last those some k not_at o labels_is) =
          let own : others ≡ those = cc in
          of_parts parts last some k (labels_is ∙ ap (λ l. part_labels parts last ++ l) (sym own))
