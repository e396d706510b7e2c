-- Laws of octets, character strings and tags.
use Rattle.std.proofs.Common.{ℕ, suc, ◌≡◌, ◌+◌, ◌-◌, ◌<◌, ◌≤◌, Bool, true, false, List, [], ◌∷◌, ◌++◌, length, map, take, drop, get_or, refl, sym, ap, subst, ◌∙◌, arith, append_assoc, append-nil, Option, Some, None, inl, inr}
use Rattle.std.specs.Prelude.{if◌then◌else◌, encode_utf8_all, IsTrue}
use Rattle.std.specs.List.{flat_map}
use Rattle.std.proofs.lemmas.Bool.Decides.{nat_tests}
use Rattle.std.proofs.lemmas.List.{length-take-le, take-append-drop, get_or_default}
use Rattle.std.proofs.lemmas.List.Elements.{All-cons, All-head, All-tail, All-take, All-drop}
use Rattle.std.proofs.lemmas.Str.{encodes-IsAscii}
use Rattle.dns_octets.specs.Room.{Room}
use Rattle.dns_octets.specs.Appending.{ExceedsRoom}
use Rattle.dns_symbol.specs.Symbol.{spell, is_printable}
use Rattle.dns_symbol.specs.Printed.{symbol_of, is_quoted_escape}
use Rattle.dns_symbol.specs.declared.symbol.Symbol.{Symbol}
use Rattle.dns_symbol.specs.declared.symbol.Symbol.TheVariants.{Char, SimpleEscape, DecimalEscape}
use Rattle.dns_symbol.proofs.PrintedForms.{printed_ascii}
use Rattle.dns_wire.specs.Labelled.{label_same}
use Rattle.rdata_values.specs.declared.error.ErrorKind.{ErrorKind}
use Rattle.dns_symbol.specs.Escape.{is_spelling, octet_for}
use Rattle.rdata_tokens.specs.Spelling.{SpellsBeginning, SpellsOctetList, AreOctetValues, SpellsAfterCount, BeginsAfterCount, RefusesAfterCount}
use Rattle.rdata_tokens.specs.Forms.{IsWireString, SpellsString, IsTag, IsWireTag, SpellsTag, FindsWidth, AreSpelled, AreSelfDelimiting, RefusesString}
use Rattle.rdata_tokens.specs.Shown.{text_in_quotes, octets_in_quotes, string_in_quotes, tag_text}
use Rattle.rdata_tokens.proofs.Fronts.{fewer_spelled}
use Rattle.rdata_tokens.proofs.Spellings.{AreSpellings, spelled_once, spellings_head, spellings_tail}

-- ---- octets below 256

abbrev IsOctet : ℕ → Type 0
IsOctet o = o < 256

pub values_front : (a b : List ℕ) → AreOctetValues (a ++ b) → AreOctetValues a
values_front [] b h = λ k d lt. absurd (omega arith)
values_front (x ∷ a) b h = All-cons IsOctet x a (All-head IsOctet x (a ++ b) h) (values_front a b (All-tail IsOctet x (a ++ b) h))

pub values_back : (a b : List ℕ) → AreOctetValues (a ++ b) → AreOctetValues b
values_back [] b h = h
values_back (x ∷ a) b h = values_back a b (All-tail IsOctet x (a ++ b) h)

stands_for_octet : (s : Symbol) → is_spelling s ≡ true → AreOctetValues (spell s) → octet_for s < 256
stands_for_octet (Char o) own h = All-head IsOctet o [] h
stands_for_octet (SimpleEscape o) own h = All-head IsOctet o [] (All-tail IsOctet 92 (o ∷ []) h)
stands_for_octet (DecimalEscape o) own h = grind (arith, nat_tests)

pub symbols_values : (symbols : List Symbol) (rest : List ℕ) → AreSpellings symbols → AreOctetValues (flat_map spell symbols ++ rest) → AreOctetValues (map octet_for symbols)
symbols_values [] rest own h = λ k d lt. absurd (omega arith)
symbols_values (s ∷ ss) rest own h =
    let split : AreOctetValues (spell s ++ (flat_map spell ss ++ rest)) = subst AreOctetValues (append_assoc (spell s) (flat_map spell ss) rest) h in
    All-cons IsOctet (octet_for s) (map octet_for ss)
    (stands_for_octet s (spellings_head s ss own) (values_front (spell s) (flat_map spell ss ++ rest) split))
    (symbols_values ss rest (spellings_tail s ss own) (values_back (spell s) (flat_map spell ss ++ rest) split))

pub spelled_values : (text octets rest : List ℕ) → AreOctetValues text → SpellsBeginning text octets rest → AreOctetValues octets
spelled_values text octets rest h k =
    subst AreOctetValues (sym k.octets_are) (symbols_values k.symbols rest k.each (subst AreOctetValues k.whole h))

-- ---- what is printed is spelled

module _ (symbol : ℕ → Symbol) (stands : (o : ℕ) → octet_for (symbol o) ≡ o) (own : (o : ℕ) → o < 256 → is_spelling (symbol o) ≡ true) where
  pub printed_each : (octets : List ℕ) → AreOctetValues octets → AreSpellings (map symbol octets)
  printed_each [] h = refl
  printed_each (o ∷ os) h = rw (own o (All-head IsOctet o os h), printed_each os (All-tail IsOctet o os h)) refl

  pub printed_whole : (octets : List ℕ) → flat_map (λ o. spell (symbol o)) octets ≡ flat_map spell (map symbol octets)
  printed_whole [] = refl
  printed_whole (o ∷ os) = ap (λ t. spell (symbol o) ++ t) (printed_whole os)

  pub printed_octets_are : (octets : List ℕ) → octets ≡ map octet_for (map symbol octets)
  printed_octets_are [] = refl
  printed_octets_are (o ∷ os) = let e = stands o in let f = printed_octets_are os in cc

  pub printed_spells : (octets rest : List ℕ) → AreOctetValues octets → SpellsBeginning (flat_map (λ o. spell (symbol o)) octets ++ rest) octets rest
  printed_spells octets rest h = record {
    symbols = map symbol octets;
    each = printed_each octets h;
    whole = ap (λ t. t ++ rest) (printed_whole octets);
    octets_are = printed_octets_are octets;
  }

quoted_stands : (o : ℕ) → octet_for (symbol_of is_quoted_escape o) ≡ o
quoted_stands o = by_tests (is_printable o) (is_quoted_escape o)
  where
    by_tests : (p e : Bool) → octet_for (if p then (if e then SimpleEscape o else Char o) else DecimalEscape o) ≡ o
    by_tests true true = refl
    by_tests true false = refl
    by_tests false e = refl

quoted_own : (o : ℕ) → o < 256 → is_spelling (symbol_of is_quoted_escape o) ≡ true
quoted_own o low = by_tests (is_printable o) (is_quoted_escape o) refl refl
  where
    by_tests : (p e : Bool) → is_printable o ≡ p → is_quoted_escape o ≡ e → is_spelling (if p then (if e then SimpleEscape o else Char o) else DecimalEscape o) ≡ true
    by_tests true true shown is = grind (arith, nat_tests)
    by_tests true false shown is = grind (arith, nat_tests)
    by_tests false e shown is = grind (arith, nat_tests)

quoted_spells : (octets : List ℕ) → AreOctetValues octets → SpellsOctetList (text_in_quotes octets) octets
quoted_spells octets h =
    subst (λ t. SpellsOctetList t octets) (append-nil (text_in_quotes octets))
    (printed_spells (symbol_of is_quoted_escape) quoted_stands quoted_own octets [] h)

pub octets_spelled : AreSpelled AreOctetValues SpellsOctetList text_in_quotes
octets_spelled = record {
  spelled = λ text form h k. spelled_values text form [] h k;
  back = quoted_spells;
  once = spelled_once;
}

-- ---- forms after their length

-- the wire format of octets after their length
counted_width : (xs form rest ys front : List ℕ) (width : ℕ) → form ≡ length xs ∷ xs → width ≤ length (form ++ rest) → take width (form ++ rest) ≡ length ys ∷ ys → width ≡ length form
counted_width xs form rest ys front width e fits k =
    let whole : take width (form ++ rest) ++ drop width (form ++ rest) ≡ form ++ rest = take-append-drop width (form ++ rest) in
    let both : (length ys ∷ ys) ++ drop width (form ++ rest) ≡ (length xs ∷ xs) ++ rest =
    ap (λ t. t ++ drop width (form ++ rest)) (sym k) ∙ whole ∙ ap (λ t. t ++ rest) e in
    let same = label_same ys xs (drop width (form ++ rest)) rest both in
    let long : length (take width (form ++ rest)) ≡ width = length-take-le width (form ++ rest) fits in
    omega (arith, long, ap length k, ap length e, ap length same.0)

string_once : (text a b : List ℕ) → SpellsString text a → SpellsString text b → a ≡ b
string_once text a b h k = let e = spelled_once text h.octets k.octets h.spelled k.spelled in h.whole ∙ ap (λ o. length o ∷ o) e ∙ sym k.whole

pub strings_spelled : AreSpelled IsWireString SpellsString string_in_quotes
strings_spelled = record {
  spelled = λ text form h k. record { octets = k.octets; values = spelled_values text k.octets [] h k.spelled; short = k.short; whole = k.whole };
  back = λ form h. record {
    octets = h.octets;
    spelled = subst (λ f. SpellsOctetList (string_in_quotes f) h.octets) (sym h.whole) (quoted_spells h.octets h.values);
    short = h.short;
    whole = h.whole;
  };
  once = string_once;
}

string_at : (form rest : List ℕ) (found : Option ℕ) → IsWireString form → FindsWidth IsWireString (form ++ rest) found → found ≡ Some (length form)
string_at form rest None h k = absurd (k form rest h refl)
string_at form rest (Some width) h k = ap (λ n. Some n) (counted_width h.octets form rest k.1.octets [] width h.whole k.0 k.1.whole)

pub strings_in_front : AreSelfDelimiting IsWireString
strings_in_front = record { width = string_at }

pub tags_spelled : AreSpelled IsWireTag SpellsTag tag_text
tags_spelled = record {
  spelled = λ text form h k. record { tag = text; is_tag = k.0; whole = k.1 };
  back = λ form h. (
    subst (λ f. IsTag (tag_text f)) (sym h.whole) h.is_tag,
    h.whole ∙ ap (λ t. length t ∷ t) (ap tag_text (sym h.whole)),
  );
  once = λ text a b h k. h.1 ∙ sym k.1;
}

-- a part of a tag's octets doesn't fit after those before it
pub tag_exceeds : (room : Room) (text old middle : List ℕ) (used size : ℕ) → IsTag text → length middle ≡ length old + used → used + size ≤ suc (length text) → (size ≤ room.fits - length middle → IsTrue false)
    → ExceedsRoom room (SpellsTag text) old
tag_exceeds room text old middle used size is before within short =
    let full : size ≤ room.fits - length middle → ⊥ = (λ p. let q = short p in cc) in
    (length text ∷ text, (is, refl), omega (arith, full, before, within))

tag_at : (form rest : List ℕ) (found : Option ℕ) → IsWireTag form → FindsWidth IsWireTag (form ++ rest) found → found ≡ Some (length form)
tag_at form rest None h k = absurd (k form rest h refl)
tag_at form rest (Some width) h k = ap (λ n. Some n) (counted_width h.tag form rest k.1.tag [] width h.whole k.0 k.1.whole)

pub tags_in_front : AreSelfDelimiting IsWireTag
tags_in_front = record { width = tag_at }

-- ---- strings that are appended and found

pub string_refused : (room : Room) (text old octets : List ℕ) (count : ℕ) (e : ErrorKind) → SpellsOctetList text octets → count ≡ length octets → length octets ≤ 255
    → RefusesAfterCount count room text old e → RefusesString room text old e
string_refused room text old octets count e s n short (inl h) = subst (RefusesString room text old) (sym h.0) h.1
string_refused room text old octets count e s n short (inr h) = subst (RefusesString room text old) (sym h.0) (
    let form : List ℕ = h.1.0 in
    let b : BeginsAfterCount count text form = h.1.1 in
    let few = fewer_spelled text b.octets b.rest octets b.spelled s in
    (length octets ∷ octets, record { octets = octets; spelled = s; short = short; whole = refl }, omega (arith, few, ap length b.whole, h.1.2)))

pub string_gained : (text octets form : List ℕ) (count : ℕ) → SpellsOctetList text octets → count ≡ length octets → length octets ≤ 255
    → SpellsAfterCount count text form → SpellsString text form
string_gained text octets form count s n short k =
    let same = spelled_once text k.octets octets k.spelled s in record {
      octets = k.octets;
      spelled = k.spelled;
      short = omega (arith, ap length same);
      whole = k.whole ∙ ap (λ m. m ∷ k.octets) (n ∙ ap length (sym same));
    }

-- octets are split after the length octet
pub counted_split : (octets : List ℕ) (width : ℕ) → 0 < length octets → width ≡ 1 + get_or octets 0 0 → width ≤ length octets
    → take width octets ≡ length (take (width - 1) (drop 1 octets)) ∷ take (width - 1) (drop 1 octets)
counted_split [] width some e fits = absurd (omega arith)
counted_split (x ∷ xs) width some e fits =
    let n : width ≡ suc x = omega arith in
    let long : length (take x xs) ≡ x = length-take-le x xs (omega arith) in
    let off : suc x - 1 ≡ x = omega arith in
    rw (n, off, long) refl

-- ---- quoted strings

pub quoted_bytes : (shown octets : List ℕ) → shown ≡ octets → AreOctetValues octets → ((34 ∷ []) ++ encode_utf8_all (text_in_quotes shown)) ++ (34 ∷ []) ≡ octets_in_quotes octets
quoted_bytes shown octets e h = ap (λ o. ((34 ∷ []) ++ encode_utf8_all (text_in_quotes o)) ++ (34 ∷ [])) e ∙ rw (encodes-IsAscii (text_in_quotes octets) (printed_ascii is_quoted_escape octets h)) refl

-- the octets of a slice
pub slice_values : (octets : List ℕ) → ((k : ℕ) → get_or octets k 0 < 256) → AreOctetValues octets
slice_values octets h = λ k d lt. rw (get_or_default octets k d 0 lt) (h k)

pub string_found : (octets : List ℕ) (width : ℕ) → AreOctetValues octets → 0 < length octets → width ≡ 1 + get_or octets 0 0 → width ≤ length octets
    → get_or octets 0 0 < 256 → IsWireString (take width octets)
string_found octets width h some e fits low =
    let split = counted_split octets width some e fits in record {
      octets = take (width - 1) (drop 1 octets);
      values = All-take IsOctet (width - 1) (drop 1 octets) (All-drop IsOctet 1 octets h);
      short = omega (arith, ap length split, length-take-le width octets fits);
      whole = split;
    }
