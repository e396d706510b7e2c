-- The printed text of a name is that name's.
use Rattle.std.proofs.Common.{◌≡◌, ℕ, ◌<◌, ◌≤◌, Bool, true, false, List, [], ◌∷◌, ◌++◌, length, map, refl, sym, ap, subst, ◌∙◌, arith, append_assoc, append-nil, length-append, inl, inr, Ok}
use Rattle.std.specs.Prelude.{All, not, encode_utf8_all, if◌then◌else◌, ◌&&◌, nat_lt, nat_le}
use Rattle.std.specs.List.{flat_map, list_all, AllZip}
use Rattle.std.proofs.lemmas.Str.{encodes-append}
use Rattle.std.proofs.lemmas.Grind.{flat_map-append}
use Rattle.std.proofs.lemmas.List.Elements.{All-head, All-tail, All-cons}
use Rattle.std.proofs.lemmas.List.Folds.{list_all-append}
use Rattle.std.proofs.lemmas.Bool.Decides.{nat_tests}
use Rattle.dns_symbol.specs.Symbol.{bytes, spell, is_readable, is_printable, octet_of}
use Rattle.dns_symbol.specs.Printed.{symbol_of}
use Rattle.dns_symbol.specs.declared.symbol.Symbol.{Symbol}
use Rattle.dns_symbol.specs.declared.symbol.Symbol.TheVariants.{Char, SimpleEscape, DecimalEscape}
use Rattle.dns_symbol.proofs.PrintedForms.{IsForm, printed_octet, printed_readable}
use Rattle.dns_wire.specs.Wire.{wire, wire_length, IsName, HasNoRoot}
use Rattle.dns_wire.specs.Building.{closed}
use Rattle.dns_wire.specs.Printed.{is_label_escape, joined_by, dotted_by, dotted_text}
use Rattle.dns_wire.specs.ZoneText.{is_zone_escape, zone_symbol, zone_text}
use Rattle.dns_wire.proofs.Wires.{Bytes, labels_bytes, wire_length_append}
use Rattle.dns_wire.proofs.Texts.{dotted_joined}
use Rattle.dns_name.specs.Uncertain.{labels_of, IsUncertain}
use Rattle.dns_name.specs.Reading.{is_dot, bracket, SpellsLabel, dotted, HasNamed, ReadsAs}
use Rattle.dns_name.specs.declared.name.UncertainName.{UncertainName}
use Rattle.dns_name.specs.declared.name.UncertainName.TheVariants.{Absolute, Relative}
use Rattle.dns_name.proofs.Naming.{dot_bytes, named_none}

-- how octets are printed in labels: each by a readable symbol with that value, neither a plain dot nor an escaped bracket
pub record IsLabelForm (symbol : ℕ → Symbol) : Type 0 where
  pub stands : (o : ℕ) → octet_of (symbol o) ≡ Ok o
  pub readable : (o : ℕ) → o < 256 → is_readable (symbol o) ≡ true
  pub no_dot : (o : ℕ) → is_dot (symbol o) ≡ false
  pub no_bracket : (o : ℕ) → symbol o ≡ bracket → ⊥

-- simple escapes of the space, the dot and the backslash
simple_form : IsForm is_label_escape
simple_form = record { backslash = refl; no_digits = λ o e. Prim.grind (arith, nat_tests) }

label_form : IsLabelForm (symbol_of is_label_escape)
label_form = record { stands = printed_octet is_label_escape; readable = printed_readable is_label_escape simple_form; no_dot = dot; no_bracket = no_bracket }
  where
    dot : (o : ℕ) → is_dot (symbol_of is_label_escape o) ≡ false
    dot o = by (is_printable o) (is_label_escape o) refl
      where
        by : (p e : Bool) → is_label_escape o ≡ e → is_dot (if p then (if e then SimpleEscape o else Char o) else DecimalEscape o) ≡ false
        by true true h = refl
        by true false h = Prim.grind (arith, nat_tests)
        by false e h = refl

    no_bracket : (o : ℕ) → symbol_of is_label_escape o ≡ bracket → ⊥
    no_bracket o h = by (is_printable o) (is_label_escape o) refl h
      where
        by : (p e : Bool) → is_label_escape o ≡ e → (if p then (if e then SimpleEscape o else Char o) else DecimalEscape o) ≡ bracket → ⊥
        by true true shown is = let f : o ≡ 91 = cc is in Prim.grind (arith, nat_tests)
        by true false shown is = cc
        by false e shown is = cc

-- in zone files
zone_form : IsLabelForm zone_symbol
zone_form = record { stands = stands; readable = readable; no_dot = dot; no_bracket = no_bracket }
  where
    printable : (o : ℕ) → (nat_lt 32 o && nat_le o 126) ≡ true → is_printable o ≡ true
    printable o h = Prim.grind (arith, nat_tests)

    stands : (o : ℕ) → octet_of (zone_symbol o) ≡ Ok o
    stands o = by (is_zone_escape o) (nat_lt 32 o && nat_le o 126) refl refl
      where
        by : (e p : Bool) → is_zone_escape o ≡ e → (nat_lt 32 o && nat_le o 126) ≡ p → octet_of (if e then SimpleEscape o else (if p then Char o else DecimalEscape o)) ≡ Ok o
        by true p h k = refl
        by false true h k = rw (printable o k) refl
        by false false h k = refl

    readable : (o : ℕ) → o < 256 → is_readable (zone_symbol o) ≡ true
    readable o small = by (is_zone_escape o) (nat_lt 32 o && nat_le o 126) refl refl
      where
        by : (e p : Bool) → is_zone_escape o ≡ e → (nat_lt 32 o && nat_le o 126) ≡ p → is_readable (if e then SimpleEscape o else (if p then Char o else DecimalEscape o)) ≡ true
        by true p h k = Prim.grind (arith, nat_tests)
        by false true h k = Prim.grind (arith, nat_tests)
        by false false h k = Prim.grind (arith, nat_tests)

    dot : (o : ℕ) → is_dot (zone_symbol o) ≡ false
    dot o = by (is_zone_escape o) (nat_lt 32 o && nat_le o 126) refl
      where
        by : (e p : Bool) → is_zone_escape o ≡ e → is_dot (if e then SimpleEscape o else (if p then Char o else DecimalEscape o)) ≡ false
        by true p h = refl
        by false true h = Prim.grind (arith, nat_tests)
        by false false h = refl

    no_bracket : (o : ℕ) → zone_symbol o ≡ bracket → ⊥
    no_bracket o h = by (is_zone_escape o) (nat_lt 32 o && nat_le o 126) refl h
      where
        by : (e p : Bool) → is_zone_escape o ≡ e → (if e then SimpleEscape o else (if p then Char o else DecimalEscape o)) ≡ bracket → ⊥
        by true p h is = let f : o ≡ 91 = cc is in Prim.grind (arith, nat_tests)
        by false true h is = cc
        by false false h is = cc

pub All-before : (P : List ℕ → Type 0) (a b : List (List ℕ)) → All P (a ++ b) → All P a
All-before P [] b h = λ k d lt. absurd (omega arith)
All-before P (x ∷ a) b h = All-cons P x a (All-head P x (a ++ b) h) (All-before P a b (All-tail P x (a ++ b) h))

pub All-end : (P : List ℕ → Type 0) (a : List (List ℕ)) (x : List ℕ) → All P (a ++ x ∷ []) → P x
All-end P [] x h = All-head P x [] h
All-end P (y ∷ a) x h = All-end P a x (All-tail P y (a ++ x ∷ []) h)

-- the root may only be last, so every label before it has octets
pub before_root : (front : List (List ℕ)) → ((a b : List (List ℕ)) → front ++ [] ∷ [] ≡ a ++ [] ∷ b → b ≡ []) → All (λ label. 0 < length label) front
before_root [] h = λ k d lt. absurd (omega arith)
before_root ([] ∷ xs) h = absurd (some xs (h [] (xs ++ [] ∷ []) refl))
  where
    some : (xs : List (List ℕ)) → xs ++ [] ∷ [] ≡ [] → ⊥
    some [] e = cc
    some (x ∷ xs) e = cc
before_root ((o ∷ os) ∷ xs) h =
    All-cons (λ label. 0 < length label) (o ∷ os) xs (omega arith)
    (before_root xs (λ a b e. h ((o ∷ os) ∷ a) b (ap (λ l. (o ∷ os) ∷ l) e)))

-- the last of some labels
last_label : (x : List ℕ) (xs : List (List ℕ)) → (front : List (List ℕ)) × (last : List ℕ) × (x ∷ xs ≡ front ++ last ∷ [])
last_label x [] = ([], x, refl)
last_label x (y ∷ xs) = let f = last_label y xs in (x ∷ f.0, f.1, ap (λ l. x ∷ l) f.2)

closed_one : (last : List ℕ) → 0 < length last → closed last ≡ last ∷ []
closed_one [] h = absurd (omega arith)
closed_one (x ∷ xs) h = refl

module _ (symbol : ℕ → Symbol) (form : IsLabelForm symbol) where
  abbrev text_by : List ℕ → List ℕ
  text_by = flat_map (λ o. spell (symbol o))

  abbrev spelling_of : List ℕ → List Symbol
  spelling_of = map symbol

  spelling_octets : (label : List ℕ) → map octet_of (spelling_of label) ≡ map Ok label
  spelling_octets [] = refl
  spelling_octets (o ∷ os) = λ i. form.stands o i ∷ spelling_octets os i

  spelling_dots : (label : List ℕ) → list_all (λ x. not (is_dot x)) (spelling_of label) ≡ true
  spelling_dots [] = refl
  spelling_dots (o ∷ os) = rw (form.no_dot o, spelling_dots os) refl

  spelling_bracket : (label : List ℕ) (more : List Symbol) → spelling_of label ≡ bracket ∷ more → ⊥
  spelling_bracket [] more h = cc
  spelling_bracket (o ∷ os) more h = form.no_bracket o (cc h)

  spelling_readable : (label : List ℕ) → Bytes label → list_all is_readable (spelling_of label) ≡ true
  spelling_readable [] h = refl
  spelling_readable (o ∷ os) h = rw (form.readable o (All-head (λ b. b < 256) o os h), spelling_readable os (All-tail (λ b. b < 256) o os h)) refl

  spelling_bytes : (label : List ℕ) → encode_utf8_all (text_by label) ≡ flat_map bytes (spelling_of label)
  spelling_bytes [] = refl
  spelling_bytes (o ∷ os) = encodes-append (spell (symbol o)) (text_by os) ∙ ap (λ t. bytes (symbol o) ++ t) (spelling_bytes os)

  printed_spelling : (label : List ℕ) → length label ≤ 63 → SpellsLabel (spelling_of label) label
  printed_spelling label h = record { octets_are = spelling_octets label; no_dot = spelling_dots label; no_binary = spelling_bracket label; short = h }

  printed_zip : (labels : List (List ℕ)) → All (λ label. length label ≤ 63) labels → AllZip SpellsLabel (map spelling_of labels) labels
  printed_zip [] h = tt
  printed_zip (l ∷ ls) h =
      (printed_spelling l (All-head (λ label. length label ≤ 63) l ls h), printed_zip ls (All-tail (λ label. length label ≤ 63) l ls h))

  -- labels before a last one
  abbrev symbols_of : List (List ℕ) → List ℕ → List Symbol
  symbols_of front last = dotted (map spelling_of front) ++ spelling_of last

  readable_of : (front : List (List ℕ)) (last : List ℕ) → All Bytes front → Bytes last → list_all is_readable (symbols_of front last) ≡ true
  readable_of [] last h k = spelling_readable last k
  readable_of (l ∷ ls) last h k =
      let a = spelling_readable l (All-head Bytes l ls h) in
      let b = readable_of ls last (All-tail Bytes l ls h) k in
      ap (list_all is_readable) (append_assoc (spelling_of l ++ Char 46 ∷ []) (dotted (map spelling_of ls)) (spelling_of last)
      ∙ append_assoc (spelling_of l) (Char 46 ∷ []) (symbols_of ls last))
      ∙ list_all-append is_readable (spelling_of l) (Char 46 ∷ symbols_of ls last) ∙ rw (a, b) refl

  joined_cons : (label : List ℕ) (labels : List (List ℕ)) (last : List ℕ) → joined_by text_by (label ∷ (labels ++ last ∷ [])) ≡ text_by label ++ 46 ∷ joined_by text_by (labels ++ last ∷ [])
  joined_cons label [] last = refl
  joined_cons label (l ∷ ls) last = refl

  spelled_of : (front : List (List ℕ)) (last : List ℕ) → encode_utf8_all (joined_by text_by (front ++ last ∷ [])) ≡ flat_map bytes (symbols_of front last)
  spelled_of [] last = spelling_bytes last
  spelled_of (l ∷ ls) last =
      ap encode_utf8_all (joined_cons l ls last) ∙ encodes-append (text_by l) (46 ∷ joined_by text_by (ls ++ last ∷ []))
      ∙ (λ i. spelling_bytes l i ++ encodes-append (46 ∷ []) (joined_by text_by (ls ++ last ∷ [])) i)
      ∙ ap (λ t. flat_map bytes (spelling_of l) ++ (bytes (Char 46) ++ t)) (spelled_of ls last)
      ∙ sym (flat_map-append bytes (spelling_of l) (Char 46 ∷ symbols_of ls last))
      ∙ ap (flat_map bytes) (sym (append_assoc (spelling_of l ++ Char 46 ∷ []) (dotted (map spelling_of ls)) (spelling_of last)
      ∙ append_assoc (spelling_of l) (Char 46 ∷ []) (symbols_of ls last)))

  printed_named : (front : List (List ℕ)) (last : List ℕ) → All (λ label. 0 < length label) front → All (λ label. length label ≤ 63) front → length last ≤ 63
      → All Bytes front → Bytes last → wire_length (front ++ closed last) ≤ 254 → HasNamed (encode_utf8_all (joined_by text_by (front ++ last ∷ []))) front last []
  printed_named front last some short few h k fits = record {
    symbols = symbols_of front last;
    readable = readable_of front last h k;
    spelled = spelled_of front last ∙ sym (append-nil (flat_map bytes (symbols_of front last)));
    names = record {
      spellings = map spelling_of front;
      last = spelling_of last;
      joined = refl;
      finished = printed_zip front short;
      opened = printed_spelling last few;
      some = some;
      fits = fits;
    };
  }

  relative : (O : Type 0) (x : List ℕ) (xs : List (List ℕ)) → IsName (x ∷ xs) × HasNoRoot (x ∷ xs) × (wire_length (x ∷ xs) ≤ 254) → Bytes (wire (x ∷ xs))
      → ReadsAs {O = O} (encode_utf8_all (dotted_by text_by (x ∷ xs))) (Relative (x ∷ xs))
  relative O x xs h are =
      let f = last_label x xs in
      let front = f.0 in
      let last = f.1 in
      let all = subst (λ l. All Bytes l) f.2 (labels_bytes (x ∷ xs) are) in
      let short = subst (λ l. All (λ label. length label ≤ 63) l) f.2 h.0.short in
      let some = subst (λ l. All (λ label. 0 < length label) l) f.2 h.1 in
      let one : 0 < length last = All-end (λ label. 0 < length label) front last some in
      let c = closed_one last one in
      let fits = subst (λ l. wire_length l ≤ 254) (f.2 ∙ ap (λ l. front ++ l) (sym c)) h.2 in
      let named = printed_named front last (All-before (λ label. 0 < length label) front (last ∷ []) some) (All-before (λ label. length label ≤ 63) front (last ∷ []) short)
      (All-end (λ label. length label ≤ 63) front last short) (All-before Bytes front (last ∷ []) all) (All-end Bytes front last all) fits in
      let no_root : x ∷ xs ≡ [] ∷ [] → ⊥ = (λ e. let n = All-head (λ label. 0 < length label) x xs h.1 in let m : x ≡ [] = cc e in omega (arith, n, ap length m)) in
      let text = dotted_joined text_by (x ∷ xs) no_root ∙ ap (joined_by text_by) f.2 in (
        front,
        last,
        subst (λ t. HasNamed (encode_utf8_all t) front last []) (sym text) named,
        f.2 ∙ ap (λ l. front ++ l) (sym c),
        λ none. absurd (omega (arith, one, ap length none)),
      )

  absolute : (O : Type 0) (name front : List (List ℕ)) → IsName name → name ≡ front ++ [] ∷ [] → Bytes (wire name)
      → ReadsAs {O = O} (encode_utf8_all (dotted_by text_by name)) (Absolute name)
  absolute O name [] h e are = inl (ap (λ l. encode_utf8_all (dotted_by text_by l)) e ∙ dot_bytes, e)
  absolute O name (x ∷ xs) h e are =
      let front = x ∷ xs in
      let all = subst (λ l. All Bytes l) e (labels_bytes name are) in
      let short = subst (λ l. All (λ label. length label ≤ 63) l) e h.short in
      let some = before_root front (λ a b f. h.root_last a b (e ∙ f)) in
      let fits : wire_length (front ++ []) ≤ 254 =
      omega (arith, h.fits, ap wire_length e, wire_length_append front ([] ∷ []), ap wire_length (append-nil front)) in
      let named = printed_named front [] some (All-before (λ label. length label ≤ 63) front ([] ∷ []) short) (omega arith)
      (All-before Bytes front ([] ∷ []) all) (λ k d lt. absurd (omega arith)) fits in
      let no_root : name ≡ [] ∷ [] → ⊥ = (λ f. let n = sym e ∙ f in omega (arith, ap length n, length-append xs ([] ∷ []))) in
      let text = dotted_joined text_by name no_root ∙ ap (joined_by text_by) e in
      inr (front, subst (λ t. HasNamed (encode_utf8_all t) front [] []) (sym text) named, (λ f. let z : ⊥ = cc f in z), e)

  reads : {O : Type 0} (n : UncertainName O) → IsUncertain n → Bytes (wire (labels_of n)) → ReadsAs (encode_utf8_all (dotted_by text_by (labels_of n))) n
  reads (Relative []) h are = ([], [], named_none, refl, λ e. refl)
  reads {O} (Relative (x ∷ xs)) h are = relative O x xs h are
  reads {O} (Absolute name) h are = absolute O name h.1.0 h.0 h.1.1 are

module _ {O : Type 0} where
  pub printed_reads : (n : UncertainName O) → IsUncertain n → Bytes (wire (labels_of n)) → ReadsAs (encode_utf8_all (dotted_text (labels_of n))) n
  printed_reads n h are = reads (symbol_of is_label_escape) label_form n h are

  pub zone_reads : (n : UncertainName O) → IsUncertain n → Bytes (wire (labels_of n)) → ReadsAs (zone_text (labels_of n)) n
  zone_reads n h are = reads zone_symbol zone_form n h are
