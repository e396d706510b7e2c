-- Texts of printable ASCII are read alike as characters and as octets.
use Rattle.std.proofs.Common.{◌≡◌, ℕ, ◌<◌, Bool, true, false, List, [], ◌∷◌, ◌++◌, length, map, All, refl, sym, ap, subst, ◌∙◌, arith, append_assoc, append-nil, length-append, Some, Result, Ok, Err}
use Rattle.std.specs.Prelude.{slice_index, encode_utf8, if◌then◌else◌}
use Rattle.std.specs.List.{flat_map, list_all}
use Rattle.std.specs.Str.{IsUtf8}
use Rattle.std.proofs.lemmas.Str.{encode_ascii, char_from_byte, IsUtf8-from_ascii}
use Rattle.std.proofs.lemmas.Str.Ascii.{IsAscii-from_all}
use Rattle.std.proofs.lemmas.Bool.{and_parts}
use Rattle.std.proofs.lemmas.Bool.Decides.{nat_tests}
use Rattle.std.proofs.lemmas.Grind.{common_steps, flat_map-append}
use Rattle.std.proofs.lemmas.List.Elements.{All-cons, All-nil}
use Rattle.std.proofs.lemmas.List.Folds.{list_all-append}
use Rattle.dns_octets.specs.Room.{Room}
use Rattle.dns_symbol.specs.Escape.{is_spelling, octet_for}
use Rattle.dns_symbol.specs.Symbol.{bytes, spell, is_printable, is_readable, octet_of}
use Rattle.dns_symbol.specs.Index.{BeginsWith}
use Rattle.dns_symbol.specs.Text.{EndsAs}
use Rattle.dns_symbol.specs.declared.symbol.Symbol.{Symbol}
use Rattle.dns_symbol.specs.declared.symbol.Symbol.TheVariants.{Char, SimpleEscape, DecimalEscape}
use Rattle.dns_symbol.specs.declared.error.BadSymbol.TheVariants.{NonAscii}
use Rattle.dns_symbol.specs.declared.error.SymbolCharsError.{SymbolCharsError}
use Rattle.dns_symbol.proofs.Escapes.{bytes_simple, bytes_decimal}
use Rattle.dns_symbol.proofs.Unique.{bytes_some}
use Rattle.dns_charstr.specs.OctetText.{SpellsOctet, SpellsOctets, SpellsNone, SpellsMore, SpellsUntil, ReadsOctetText}
use Rattle.dns_charstr.specs.Reading.{HasOctets, BreaksOff, NextSymbolIs, ReadsText}
use Rattle.dns_charstr.proofs.SoFar.{HasRead, read_all, read_broken, read_next}
use Rattle.dns_charstr.specs.declared.charstr.error.FromStrError.{FromStrError}
use Rattle.dns_charstr.specs.declared.charstr.error.FromStrError.TheVariants.{Presentation, ShortBuf}
use Rattle.dns_charstr.specs.declared.charstr.error.PresentationError.TheVariants.{LongString, SymbolChars, BadSymbol as Bad}

-- a symbol whose value is an octet spells that octet
pub symbol_spells : (x : Symbol) (o : ℕ) (rest : List ℕ) → is_readable x ≡ true → octet_of x ≡ Ok o → SpellsOctet (bytes x ++ rest) o rest
symbol_spells (Char c) o rest r is = by_test (is_printable c) refl is
  where
    by_test : (p : Bool) → is_printable c ≡ p → (if p then Ok c else Err NonAscii) ≡ Ok o → SpellsOctet (bytes (Char c) ++ rest) o rest
    by_test true p e =
        let same : c ≡ o = cc in
        let low : c < 128 = grind (arith, nat_tests) in
        record { symbol = Char c; spelling = grind (arith, nat_tests); whole = ap (λ t. (t ++ []) ++ rest) (encode_ascii c low); stands_for = sym same }
    by_test false p e = absurd (cc)
symbol_spells (SimpleEscape c) o rest r is =
    let same : c ≡ o = cc in
    let low : c < 128 = grind (arith, nat_tests) in
    record { symbol = SimpleEscape c; spelling = grind (arith, nat_tests); whole = ap (λ t. t ++ rest) (bytes_simple c low); stands_for = sym same }
symbol_spells (DecimalEscape c) o rest r is =
    let same : c ≡ o = cc in
    let low : c < 256 = grind (arith, nat_tests) in
    record { symbol = DecimalEscape c; spelling = r; whole = ap (λ t. t ++ rest) (bytes_decimal c low); stands_for = sym same }

-- and symbols one after another spell theirs
pub symbols_spell : (symbols : List Symbol) (octets text rest : List ℕ) → list_all is_readable symbols ≡ true → map octet_of symbols ≡ map Ok octets
    → text ≡ flat_map bytes symbols ++ rest → SpellsOctets text octets rest
symbols_spell [] [] text rest r are is = is
symbols_spell [] (o ∷ os) text rest r are is = absurd (cc)
symbols_spell (x ∷ xs) [] text rest r are is = absurd (cc)
symbols_spell (x ∷ xs) (o ∷ os) text rest r are is =
    let parts = and_parts (is_readable x) (list_all is_readable xs) r in
    let first : octet_of x ≡ Ok o = cc in
    let others : map octet_of xs ≡ map Ok os = cc in
    let split : text ≡ bytes x ++ (flat_map bytes xs ++ rest) = is ∙ append_assoc (bytes x) (flat_map bytes xs) rest in
    (flat_map bytes xs ++ rest, rw split (symbol_spells x o (flat_map bytes xs ++ rest) parts.0 first), symbols_spell xs os (flat_map bytes xs ++ rest) rest parts.1 others refl)

-- so what characters are read as, the octets are
pub octets_of_characters : (text octets : List ℕ) → HasOctets text octets → SpellsOctets text octets []
octets_of_characters text octets h = symbols_spell h.symbols octets text [] h.read.readable h.octets_are (h.read.spelled ∙ ap (λ t. flat_map bytes h.symbols ++ t) h.read.ends)

abbrev Printable : List ℕ → Type 0
Printable text = list_all is_printable text ≡ true

printable_rest : (front rest : List ℕ) → Printable (front ++ rest) → Printable rest
printable_rest [] rest h = h
printable_rest (o ∷ os) rest h = printable_rest os rest (and_parts (is_printable o) (list_all is_printable (os ++ rest)) h).1

printable_first : (o : ℕ) (rest : List ℕ) → Printable (o ∷ rest) → is_printable o ≡ true
printable_first o rest h = (and_parts (is_printable o) (list_all is_printable rest) h).0

printable_utf8 : (text : List ℕ) → Printable text → IsUtf8 text
printable_utf8 text h = IsUtf8-from_ascii text (IsAscii-from_all text (all_below text h))
  where
    all_below : (text : List ℕ) → Printable text → All (λ b. b < 128) text
    all_below [] h = All-nil (λ b. b < 128)
    all_below (o ∷ os) h = let p = printable_first o os h in let low : o < 128 = grind (arith, nat_tests) in All-cons (λ b. b < 128) o os low (all_below os (and_parts (is_printable o) (list_all is_printable os) h).1)

-- a spelled octet among printable ones is a symbol
spelling_begins : (text rest : List ℕ) (o : ℕ) → Printable text → SpellsOctet text o rest → (x : Symbol) × BeginsWith text x rest × (octet_of x ≡ Ok o)
spelling_begins text rest o p h = by_symbol h.symbol h.spelling h.whole h.stands_for
  where
    by_symbol : (x : Symbol) → is_spelling x ≡ true → text ≡ spell x ++ rest → o ≡ octet_for x → (x : Symbol) × BeginsWith text x rest × (octet_of x ≡ Ok o)
    by_symbol (Char c) is e same =
        let shown : is_printable c ≡ true = printable_first c rest (subst Printable e p) in
        let low : c < 128 = grind (arith, nat_tests) in
        (Char c, record { readable = grind (arith, nat_tests); spelled = e ∙ ap (λ t. (t ++ []) ++ rest) (sym (encode_ascii c low)) }, rw shown (ap Ok (sym same)))
    by_symbol (SimpleEscape c) is e same =
        let shown : is_printable c ≡ true = printable_first c rest (printable_rest (92 ∷ []) (c ∷ rest) (subst Printable e p)) in
        let low : c < 128 = grind (arith, nat_tests) in
        (SimpleEscape c, record { readable = rw shown is; spelled = e ∙ ap (λ t. t ++ rest) (sym (bytes_simple c low)) }, ap Ok (sym same))
    by_symbol (DecimalEscape c) is e same =
        let low : c < 256 = grind (arith, nat_tests) in
        (DecimalEscape c, record { readable = is; spelled = e ∙ ap (λ t. t ++ rest) (sym (bytes_decimal c low)) }, ap Ok (sym same))

first_shown : (text : List ℕ) → 0 < length text → Printable text → is_printable (slice_index text 0) ≡ true
first_shown [] some p = absurd (omega (arith, some))
first_shown (o ∷ os) some p = printable_first o os p

-- a symbol among printable octets has an octet
symbol_has_octet : (text rest : List ℕ) (x : Symbol) → Printable text → BeginsWith text x rest → (o : ℕ) × (octet_of x ≡ Ok o)
symbol_has_octet text rest (Char c) p b = (c, rw shown refl)
  where
    some : 0 < length text
    some = omega (arith, ap length b.spelled, length-append (bytes (Char c)) rest, bytes_some (Char c))

    shown : is_printable c ≡ true
    shown =
        let first = first_shown text some p in
        let low : slice_index text 0 < 128 = grind (arith, nat_tests) in
        let same : c ≡ slice_index text 0 = char_from_byte text rest c (b.spelled ∙ ap (λ t. t ++ rest) (append-nil (encode_utf8 c))) low some in
        rw same first
symbol_has_octet text rest (SimpleEscape o) p b = (o, refl)
symbol_has_octet text rest (DecimalEscape o) p b = (o, refl)

symbol_begins : (text rest : List ℕ) (x : Symbol) (o : ℕ) → BeginsWith text x rest → octet_of x ≡ Ok o → SpellsOctet text o rest
symbol_begins text rest x o b is = rw b.spelled (symbol_spells x o rest b.readable is)

-- spelled octets among printable ones are read as symbols
are_symbols : (octets text rest : List ℕ) → Printable text → SpellsOctets text octets rest → HasRead text octets rest
are_symbols [] text rest p h =
    record { front = []; readable = refl; octets_are = refl; spelled = h; characters = printable_utf8 rest (subst Printable h p) }
are_symbols (o ∷ os) text rest p h =
    let first = spelling_begins text h.0 o p h.1 in
    let p_more : Printable h.0 = printable_rest (bytes first.0) h.0 (subst Printable first.1.spelled p) in
    let others = are_symbols os h.0 rest p_more h.2 in
    record {
      front = first.0 ∷ others.front;
      readable = rw (first.1.readable, others.readable) refl;
      octets_are = λ i. first.2 i ∷ others.octets_are i;
      spelled = first.1.spelled ∙ ap (λ t. bytes first.0 ++ t) others.spelled ∙ sym (append_assoc (bytes first.0) (flat_map bytes others.front) rest);
      characters = others.characters;
    }

left_printable : (octets text rest : List ℕ) → Printable text → HasRead text octets rest → Printable rest
left_printable octets text rest p read = printable_rest (flat_map bytes read.front) rest (subst Printable read.spelled p)

-- the same if no symbol and no octet is next
none_of_characters : (rest : List ℕ) (e : SymbolCharsError) → Printable rest → EndsAs rest (Some e) → SpellsNone rest e
none_of_characters rest e p h = record { some = h.0; none = λ o after s. let b = spelling_begins rest after o p s in h.1 b.0 after b.1; why = h.2 }

none_of_octets : (rest : List ℕ) (e : SymbolCharsError) → Printable rest → SpellsNone rest e → EndsAs rest (Some e)
none_of_octets rest e p h = (h.some, (λ x after b. let o = symbol_has_octet rest after x p b in h.none o.0 after (symbol_begins rest after x o.0 b o.1)), h.why)

until_of_characters : (text octets : List ℕ) (e : SymbolCharsError) → Printable text → BreaksOff text octets e → SpellsUntil text octets e
until_of_characters text octets e p h =
    let p_rest : Printable h.read.rest = printable_rest (flat_map bytes h.symbols) h.read.rest (subst Printable h.read.spelled p) in
    record {
      rest = h.read.rest;
      front = symbols_spell h.symbols octets text h.read.rest h.read.readable h.octets_are h.read.spelled;
      stops = none_of_characters h.read.rest e p_rest h.read.ends;
    }

until_of_octets : (text octets : List ℕ) (e : SymbolCharsError) → Printable text → SpellsUntil text octets e → BreaksOff text octets e
until_of_octets text octets e p h =
    let read = are_symbols octets text h.rest p h.front in
    read_broken text octets h.rest e read (none_of_octets h.rest e (left_printable octets text h.rest p read) h.stops)

-- and if one is
pub record Another (text octets : List ℕ) (x : Symbol) : Type 0 where
  pub more : SpellsMore text octets
  pub octet : ℕ
  pub is : octet_of x ≡ Ok octet

another : (text octets : List ℕ) (x : Symbol) → Printable text → NextSymbolIs text octets x → Another text octets x
another text octets x p h =
    let readable = and_parts (list_all is_readable h.front) (list_all is_readable (x ∷ h.others)) (sym (list_all-append is_readable h.front (x ∷ h.others)) ∙ h.read.readable) in
    let first = and_parts (is_readable x) (list_all is_readable h.others) readable.1 in
    let after : List ℕ = flat_map bytes h.others ++ h.read.rest in
    let spelled : text ≡ flat_map bytes h.front ++ (bytes x ++ after) = h.read.spelled ∙ regroup h.front h.others h.read.rest in
    let p_rest : Printable (bytes x ++ after) = printable_rest (flat_map bytes h.front) (bytes x ++ after) (subst Printable spelled p) in
    let begins : BeginsWith (bytes x ++ after) x after = record { readable = first.0; spelled = refl } in
    let o = symbol_has_octet (bytes x ++ after) after x p_rest begins in
    record {
      more = record {
        rest = bytes x ++ after;
        front = symbols_spell h.front octets text (bytes x ++ after) readable.0 h.octets_are spelled;
        next = o.0;
        after = after;
        goes_on = symbol_spells x o.0 after first.0 o.1;
      };
      octet = o.0;
      is = o.1;
    }
  where
    regroup : (xs ys : List Symbol) (rest : List ℕ) → flat_map bytes (xs ++ x ∷ ys) ++ rest ≡ flat_map bytes xs ++ (bytes x ++ (flat_map bytes ys ++ rest))
    regroup xs ys rest = Prim.grind (arith, common_steps, flat_map-append)

goes_on : (text octets : List ℕ) → Printable text → (h : SpellsMore text octets) → (x : Symbol) × NextSymbolIs text octets x × (octet_of x ≡ Ok h.next)
goes_on text octets p h =
    let read = are_symbols octets text h.rest p h.front in
    let x = spelling_begins h.rest h.after h.next (left_printable octets text h.rest p read) h.goes_on in
    (x.0, read_next text octets h.rest h.after x.0 read x.1, x.2)

pub read_as_octets : (room : Room) (text : List ℕ) (r : Result (List ℕ) FromStrError) → Printable text → ReadsText room text r → ReadsOctetText room text r
read_as_octets room text (Ok os) p h = (octets_of_characters text os h.0, h.1, h.2)
read_as_octets room text (Err (Presentation (SymbolChars e))) p h = (h.0, until_of_characters text h.0 e p h.1, h.2, h.3)
read_as_octets room text (Err (Presentation LongString)) p h = (h.0, (another text h.0 h.1 p h.2).more, h.3, h.4)
read_as_octets room text (Err (Presentation (Bad e))) p h = let a = another text h.0 h.1 p h.2 in let is = a.is in let none = h.5 in absurd (cc)
read_as_octets room text (Err ShortBuf) p h = (h.0, (another text h.0 h.1 p h.3).more, h.4, h.5, h.7)

pub read_as_characters : (room : Room) (text : List ℕ) (r : Result (List ℕ) FromStrError) → Printable text → ReadsOctetText room text r → ReadsText room text r
read_as_characters room text (Ok os) p h = (read_all text os [] (are_symbols os text [] p h.0) refl, h.1, h.2)
read_as_characters room text (Err (Presentation (SymbolChars e))) p h = (h.0, until_of_octets text h.0 e p h.1, h.2, h.3)
read_as_characters room text (Err (Presentation LongString)) p h = let x = goes_on text h.0 p h.1 in (h.0, x.0, x.1, h.2, h.3)
read_as_characters room text (Err (Presentation (Bad e))) p h = absurd h
read_as_characters room text (Err ShortBuf) p h = let x = goes_on text h.0 p h.1 in (h.0, x.0, h.1.next, x.1, h.2, h.3, x.2, h.4)
