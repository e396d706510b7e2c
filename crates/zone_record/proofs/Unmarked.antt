-- No RDATA prints with the mark of the generic form at its start, except in that form.
use Rattle.std.proofs.Common.{ℕ, zero, suc, Bool, true, false, true≢false, ◌≡◌, ◌<◌, ◌≤◌, ◌^◌, ◌==◌, ◌||◌, ◌/◌, ◌+◌, Some, None, List, [], ◌∷◌, ◌++◌, length, take, drop, map, refl, sym, ap, subst, ◌∙◌, arith, inl, inr, get_or, append_assoc, decimal}
use Rattle.std.specs.Prelude.{codes, ◌&&◌, not, find, if◌then◌else◌, All, slice_index}
use Rattle.std.specs.Int.{from_be_bytes, w16}
use Rattle.std.specs.List.{flat_map}
use Rattle.std.specs.Net.Addr.{octets_of, segments_of}
use Rattle.std.specs.Net.Text.{ipv4_text, ipv6_text, hex_groups_text}
use Rattle.std.specs.Str.{bytes_eq}
use Rattle.std.specs.Str.Parse.{IsNumeral}
use Rattle.std.proofs.Math.Seq.{take-append_seam}
use Rattle.std.proofs.lemmas.Fmt.{decimal_is_IsNumeral}
use Rattle.std.proofs.lemmas.List.Elements.{All-head, All-tail}
use Rattle.std.proofs.NetLemmas.Alphabet.{IsDigitOrDot, IsHexOrColon, All-ipv4_text, All-hex_groups_text}
use Rattle.std.proofs.NetLemmas.Texts.{AllSegments}
use Rattle.dns_codec.specs.Base.{base16, base64}
use Rattle.rdata_tokens.proofs.Spelling.{size64}
use Rattle.rdata_fields.specs.Fields.{field_form}
use Rattle.rdata_fields.specs.declared.field.Field.{Field}
use Rattle.rdata_fields.specs.declared.field.Field.TheVariants.{Number8, Number16, Number32, Ipv4, Ipv6, RecordType, SigType, CertificateType, Eui48, Eui64, String, PsdnAddress, Name}
use Rattle.rdata_fields.proofs.FormLaws.{fields_are_forms}
use Rattle.rdata_values.specs.Addresses.{has_ipv4_end, shown_ipv6}
use Rattle.rdata_values.specs.Algorithms.{certificate_rows}
use Rattle.rdata_values.specs.Eui.{dashed_text}
use Rattle.rdata_values.specs.Registry.{Row, SpellsCode, code_text}
use Rattle.rdata_values.specs.Types.{type_rows, type_prefix, type_text, is_portable, portable_text, sig_type_text}
use Rattle.rdata_tails.specs.LocationWords.{IsPossible, angle_from, location_words}
use Rattle.rdata_tails.specs.Prefixes.{address_text, exclusion, family_of, prefix_text}
use Rattle.rdata_tails.specs.declared.apl.Prefix.{Prefix}
use Rattle.rdata_tails.specs.declared.location.Location.{Location}
use Rattle.rdata_tokens.specs.NameSpelling.{IsWireName, dotted_parts}
use Rattle.rdata_tokens.specs.PrintedNames.{wire_name_text}
use Rattle.rdata_tokens.proofs.NameLaws.{front_parts, name_text_is, printed_parts as printed_name}
use Rattle.dns_lexer.specs.EntryTokens.{TokenSeen}
use Rattle.dns_symbol.specs.Symbol.{spell}
use Rattle.dns_wire.specs.Printed.{dotted_by}
use Rattle.dns_wire.specs.ZoneText.{zone_label, zone_symbol}
use Rattle.rdata.specs.Digits.{printed_digits}
use Rattle.rdata.specs.Generic.{BeginsGeneric}
use Rattle.rdata.specs.GatewayKeys.{octet_form}
use Rattle.rdata.specs.HostIdentities.{host_identity_form}
use Rattle.rdata.specs.PrefixLists.{prefixes_form}
use Rattle.rdata.specs.Printing.{field_size, printed_field, printed_parts}
use Rattle.rdata.specs.RestKinds.{rest_form, strings_in_octets}
use Rattle.rdata.specs.Rests.{PrintedToken, ArePrinted}
use Rattle.rdata.specs.Types.{TypeShape, type_shapes}
use Rattle.rdata.specs.Wire.{BeginsWithFields}
use Rattle.rdata.specs.declared.rest.Rest.{Rest}
use Rattle.rdata.specs.declared.rest.Rest.TheVariants.{Strings, Hex, Base64, HostIdentity, Location as OfLocation, Prefixes, Nsap}
use Rattle.rdata.proofs.HostWire.{algorithm_shown}
use Rattle.rdata.proofs.LocationLemmas.{location_at_is}
use Rattle.rdata.proofs.PlainWords.{ArePlain, encoded16_word}
use Rattle.rdata.proofs.PrintedStrings.{quoted_token}
use Rattle.rdata.proofs.Sizes.{field_sized}

abbrev mark : List ℕ
mark = codes "\\#"

-- a token is the mark
abbrev pub IsMark : PrintedToken → Type 0
IsMark t = (t.is_quoted ≡ false) × (t.text ≡ mark)

-- the first of these is the mark
abbrev pub BeginsMarked : List PrintedToken → Type 0
BeginsMarked [] = ⊥
BeginsMarked (t ∷ ts) = IsMark t

pub from_generic : (printed : List PrintedToken) (tokens : List TokenSeen) → ArePrinted printed tokens → BeginsGeneric tokens → BeginsMarked printed
from_generic [] [] p h = h
from_generic [] (t ∷ ts) p h = absurd p
from_generic (q ∷ qs) [] p h = absurd h
from_generic (q ∷ qs) (t ∷ ts) p h = (sym p.0 ∙ h.0, sym p.1 ∙ h.1)

-- ---- numbers

no_numeral : (text : List ℕ) → IsNumeral 10 text → text ≡ mark → ⊥
no_numeral text h is = let at = subst (IsNumeral 10) is h in omega (arith, at.1.0)

no_decimal : (n : ℕ) → n < 2 ^ 64 → decimal n ≡ mark → ⊥
no_decimal n small is = no_numeral (decimal n) (decimal_is_IsNumeral n small).0 is

-- ---- names

-- the text has a dot
abbrev has_dot : List ℕ → Bool
has_dot [] = false
has_dot (c ∷ cs) = (c == 46) || has_dot cs

dot_within : (xs ys : List ℕ) → has_dot (xs ++ 46 ∷ ys) ≡ true
dot_within [] ys = refl
dot_within (x ∷ xs) ys = by (x == 46) (dot_within xs ys)
  where
    by : (b : Bool) → has_dot (xs ++ 46 ∷ ys) ≡ true → (b || has_dot (xs ++ 46 ∷ ys)) ≡ true
    by true later = refl
    by false later = later

no_dotted : (text xs ys : List ℕ) → text ≡ xs ++ 46 ∷ ys → text ≡ mark → ⊥
no_dotted text xs ys is here = true≢false (sym (dot_within xs ys) ∙ ap has_dot (sym is ∙ here))

front_text : (front : List (List ℕ)) → (xs ys : List ℕ) × (dotted_by zone_label (front ++ [] ∷ []) ≡ xs ++ 46 ∷ ys)
front_text [] = ([], [], refl)
front_text (x ∷ xs) =
    let first = flat_map spell (map zone_symbol x) in
    let rest = dotted_parts (front_parts xs) in
    (first, rest, printed_name x xs ∙ append_assoc first (46 ∷ []) rest)

no_name : (form : List ℕ) → IsWireName form → wire_name_text form ≡ mark → ⊥
no_name form h is =
    let front = h.absolute.0 in
    let t = front_text front in
    let text : wire_name_text form ≡ t.0 ++ 46 ∷ t.1 = name_text_is form h.labels h.whole ∙ ap (dotted_by zone_label) h.absolute.1 ∙ t.2 in
    no_dotted (wire_name_text form) t.0 t.1 text is

-- ---- codes

-- the text begins with a backslash
abbrev begins_escaped : List ℕ → Bool
begins_escaped [] = false
begins_escaped (c ∷ cs) = c == 92

not_escaped : (text : List ℕ) → begins_escaped text ≡ false → text ≡ mark → ⊥
not_escaped text plain is = true≢false (ap begins_escaped (sym is) ∙ plain)

abbrev are_plain : List Row → Bool
are_plain [] = true
are_plain (r ∷ rs) = not (begins_escaped r.name) && are_plain rs

code_plain : (rows : List Row) (prefix : List ℕ) (code : ℕ) → are_plain rows ≡ true → begins_escaped (prefix ++ decimal code) ≡ false → begins_escaped (code_text rows prefix code) ≡ false
code_plain [] prefix code h other = other
code_plain (r ∷ rs) prefix code h other = by (begins_escaped r.name) (r.code == code) refl refl h (λ k. code_plain rs prefix code k other)
  where
    by : (e same : Bool) → begins_escaped r.name ≡ e → (r.code == code) ≡ same → (not e && are_plain rs) ≡ true → (are_plain rs ≡ true → begins_escaped (code_text rs prefix code) ≡ false) → begins_escaped (code_text (r ∷ rs) prefix code) ≡ false
    by true same plain is h later = absurd (true≢false (sym h))
    by false true plain is h later = rw is plain
    by false false plain is h later = rw is (later h)

types_plain : are_plain type_rows ≡ true
unfolding type_rows
types_plain = refl

type_plain : (rtype : ℕ) → begins_escaped (portable_text rtype) ≡ false
type_plain rtype = by (is_portable rtype)
  where
    by : (known : Bool) → begins_escaped (if known then type_text rtype else type_prefix ++ decimal rtype) ≡ false
    by true = code_plain type_rows type_prefix rtype types_plain refl
    by false = refl

sig_type_plain : (rtype : ℕ) → begins_escaped (sig_type_text rtype) ≡ false
sig_type_plain rtype = by (rtype == 0)
  where
    by : (none : Bool) → begins_escaped (if none then codes "0" else portable_text rtype) ≡ false
    by true = refl
    by false = type_plain rtype

no_type : (rtype : ℕ) → portable_text rtype ≡ mark → ⊥
no_type rtype is = not_escaped (portable_text rtype) (type_plain rtype) is

no_sig_type : (rtype : ℕ) → sig_type_text rtype ≡ mark → ⊥
no_sig_type rtype is = not_escaped (sig_type_text rtype) (sig_type_plain rtype) is

no_certificate : (code : ℕ) → SpellsCode certificate_rows [] 65535 mark code → ⊥
no_certificate code h = omega (arith, h.1.0.1.0)

-- ---- addresses

no_dashed : (octets : List ℕ) → 2 ≤ length octets → dashed_text octets ≡ mark → ⊥
no_dashed [] some is = omega (arith, some)
no_dashed (o ∷ []) some is = omega (arith, some)
no_dashed (o ∷ p ∷ os) some is = omega (arith, ap length is)

no_ipv4 : (octets : List ℕ) → ((k : ℕ) → get_or octets k 0 < 2 ^ 8) → ipv4_text octets ≡ mark → ⊥
no_ipv4 octets small is =
    let first = All-head IsDigitOrDot 92 (35 ∷ []) (subst (All IsDigitOrDot) is (All-ipv4_text octets small)) in
    elim first [
      | inl digit ↦ omega (arith, digit.0, digit.1)
      | inr dot ↦ omega (arith, dot)
    ]

-- each element of octets is an octet, and two of them are less than 2^16
octet_below : (octets : List ℕ) → All (λ o. o < 256) octets → (k : ℕ) → get_or octets k 0 < 2 ^ 8
octet_below [] h k = omega arith
octet_below (o ∷ os) h zero = omega (arith, All-head (λ o. o < 256) o os h)
octet_below (o ∷ os) h (suc k) = octet_below os (All-tail (λ o. o < 256) o os h) k

segments_below : (octets : List ℕ) → All (λ o. o < 256) octets → AllSegments (segments_of octets)
segments_below [] h k = omega arith
segments_below (a ∷ []) h k = omega arith
segments_below (a ∷ b ∷ os) h zero =
    let rest = All-tail (λ o. o < 256) a (b ∷ os) h in omega (arith, All-head (λ o. o < 256) a (b ∷ os) h, All-head (λ o. o < 256) b os rest)
segments_below (a ∷ b ∷ os) h (suc k) = segments_below os (All-tail (λ o. o < 256) b os (All-tail (λ o. o < 256) a (b ∷ os) h)) k

no_colons : (text : List ℕ) → All IsHexOrColon text → text ≡ mark → ⊥
no_colons text each is =
    elim (All-head IsHexOrColon 92 (35 ∷ []) (subst (All IsHexOrColon) is each)) [
      | inl digit ↦ omega (arith, digit.0, digit.1)
      | inr letter ↦ omega (arith, letter.0, letter.1)
    ]

no_ipv6 : (segments : List ℕ) → AllSegments segments → shown_ipv6 segments ≡ mark → ⊥
unfolding ipv6_text
no_ipv6 segments small = by (has_ipv4_end segments) (bytes_eq (take 6 segments) (0 ∷ 0 ∷ 0 ∷ 0 ∷ 0 ∷ 0xffff ∷ []))
  where
    long : List ℕ
    long = codes "::ffff:" ++ ipv4_text (octets_of (drop 6 segments))

    by : (end mapped : Bool) → (if end then codes "::" ++ ipv4_text (octets_of (drop 6 segments)) else (if mapped then long else hex_groups_text segments)) ≡ mark → ⊥
    by true mapped is = not_escaped _ refl is
    by false true is = not_escaped _ refl is
    by false false is = no_colons (hex_groups_text segments) (All-hex_groups_text segments small) is

-- ---- the first field

-- fields that don't print the mark: those that come first in RDATA of some type
abbrev shows_no_mark : Field → Bool
shows_no_mark Number8 = true
shows_no_mark Number16 = true
shows_no_mark Number32 = true
shows_no_mark Ipv4 = true
shows_no_mark Ipv6 = true
shows_no_mark RecordType = true
shows_no_mark SigType = true
shows_no_mark CertificateType = true
shows_no_mark Eui48 = true
shows_no_mark Eui64 = true
shows_no_mark String = true
shows_no_mark PsdnAddress = true
shows_no_mark Name = true
shows_no_mark f = false

field_unmarked : (f : Field) (form : List ℕ) → shows_no_mark f ≡ true → (field_form None f).is_wire form → IsMark (printed_field f form) → ⊥
field_unmarked Number8 form shown is m = no_numeral _ ((fields_are_forms None tt Number8).back form is).1.2.0.0 m.1
field_unmarked Number16 form shown is m = no_numeral _ ((fields_are_forms None tt Number16).back form is).1.2.0.0 m.1
field_unmarked Number32 form shown is m = no_numeral _ ((fields_are_forms None tt Number32).back form is).1.2.0.0 m.1
field_unmarked Ipv4 form shown is m = no_ipv4 form (λ k. octet_below form is.1 k) m.1
field_unmarked Ipv6 form shown is m = no_ipv6 (segments_of form) (segments_below form is.1) m.1
field_unmarked RecordType form shown is m = no_type (from_be_bytes w16 form) m.1
field_unmarked SigType form shown is m = no_sig_type (from_be_bytes w16 form) m.1
field_unmarked CertificateType form shown is m =
    let back = ((fields_are_forms None tt CertificateType).back form is).1 in
    no_certificate back.0.0 (subst (λ text. SpellsCode certificate_rows [] 65535 text back.0.0) m.1 back.2)
field_unmarked Eui48 form shown is m = no_dashed form (omega (arith, is.0)) m.1
field_unmarked Eui64 form shown is m = no_dashed form (omega (arith, is.0)) m.1
field_unmarked String form shown is m = absurd (true≢false m.0)
field_unmarked PsdnAddress form shown is m = absurd (true≢false m.0)
field_unmarked Name form shown is m = no_name form is m.1
field_unmarked f form shown is m = absurd (true≢false (sym shown))

-- ---- what is there without fields

abbrev rest_shows_no_mark : Rest → Bool
rest_shows_no_mark Strings = true
rest_shows_no_mark Hex = true
rest_shows_no_mark Base64 = true
rest_shows_no_mark Nsap = true
rest_shows_no_mark OfLocation = true
rest_shows_no_mark Prefixes = true
rest_shows_no_mark HostIdentity = true
rest_shows_no_mark r = false

strings_unmarked : (strings : List (List ℕ)) → BeginsMarked (map quoted_token strings) → ⊥
strings_unmarked [] m = m
strings_unmarked (s ∷ ss) m = true≢false m.0

digits_unmarked : (octets : List ℕ) → BeginsMarked (printed_digits base64 octets) → ⊥
digits_unmarked [] m = m
digits_unmarked (o ∷ os) m = omega (arith, size64 (o ∷ os), ap length m.1)

hex_unmarked : (octets : List ℕ) → BeginsMarked (printed_digits base16 octets) → ⊥
hex_unmarked [] m = m
hex_unmarked (o ∷ os) m = true≢false (sym (subst ArePlain m.1 (encoded16_word (o ∷ os) (omega arith)).plain))

location_unmarked : (l : Location) → IsPossible l → BeginsMarked (map (λ word. record { is_quoted = false; text = word }) (location_words l)) → ⊥
location_unmarked l is m = no_decimal (angle_from l.latitude / 3600000) (omega (arith, is.latitude.0, is.latitude.1)) m.1

prefix_unmarked : (p : Prefix) → prefix_text p ≡ mark → ⊥
prefix_unmarked p = by p.negated (family_of p.address) refl
  where
    by : (negated : Bool) (family : ℕ) → family_of p.address ≡ family → exclusion negated ++ (48 + family_of p.address) ∷ 58 ∷ (address_text p.address ++ 47 ∷ decimal p.bits) ≡ mark → ⊥
    by true family f is = not_escaped _ refl is
    by false family f is = omega (arith, ap (λ t. get_or t 1 0) is)

prefixes_unmarked : (octets : List ℕ) → BeginsMarked (prefixes_form.printed octets) → ⊥
prefixes_unmarked [] m = m
prefixes_unmarked (o ∷ os) m = prefix_unmarked _ m.1

-- an algorithm is a number of 8 bits
host_unmarked : (octets : List ℕ) → (host_identity_form None).is_wire octets → BeginsMarked ((host_identity_form None).printed octets) → ⊥
host_unmarked octets is m =
    let own : octet_form.is_wire (slice_index octets 1 ∷ []) = subst octet_form.is_wire (sym (algorithm_shown is.0 octets is.1 is.2)) is.1 in
    let small = own.1 0 0 (omega arith) in
    no_decimal (slice_index octets 1) (omega (arith, small)) m.1

rest_unmarked : (r : Rest) (octets : List ℕ) → rest_shows_no_mark r ≡ true → (rest_form None r).is_wire octets → BeginsMarked ((rest_form None r).printed octets) → ⊥
rest_unmarked Strings octets shown is m = strings_unmarked (strings_in_octets octets) m
rest_unmarked Hex octets shown is m = hex_unmarked octets m
rest_unmarked Base64 octets shown is m = digits_unmarked octets m
rest_unmarked Nsap octets shown is m = omega (arith, ap (λ t. get_or t 0 0) m.1)
rest_unmarked OfLocation octets shown is m =
    location_unmarked is.0 is.1.0 (subst (λ l. BeginsMarked (map (λ word. record { is_quoted = false; text = word }) (location_words l))) (location_at_is octets is.0 is.1) m)
rest_unmarked Prefixes octets shown is m = prefixes_unmarked octets m
rest_unmarked HostIdentity octets shown is m = host_unmarked octets is m
rest_unmarked r octets shown is m = absurd (true≢false (sym shown))

-- ---- data

abbrev first_shows_no_mark : List Field → Rest → Bool
first_shows_no_mark [] r = rest_shows_no_mark r
first_shows_no_mark (f ∷ fs) r = shows_no_mark f

parts_unmarked : (fields : List Field) (r : Rest) (octets back : List ℕ) → first_shows_no_mark fields r ≡ true → BeginsWithFields fields octets back → (rest_form None r).is_wire back
    → BeginsMarked (printed_parts fields r octets) → ⊥
parts_unmarked [] r octets back shown b is m = rest_unmarked r back shown is (subst (λ o. BeginsMarked ((rest_form None r).printed o)) b m)
parts_unmarked (f ∷ fs) r octets back shown b is m =
    let form : List ℕ = b.0 in
    let more : List ℕ = b.1 in
    let sized : field_size f octets ≡ length form = ap (field_size f) b.2 ∙ field_sized f form more b.3 in
    let cut : take (field_size f octets) octets ≡ form = ap (λ n. take n octets) sized ∙ ap (take (length form)) b.2 ∙ take-append_seam form more in
    field_unmarked f form shown b.3 (subst (λ o. IsMark (printed_field f o)) cut m)

-- every type begins so
abbrev all_show_no_mark : List TypeShape → Bool
all_show_no_mark [] = true
all_show_no_mark (s ∷ ss) = first_shows_no_mark s.fields s.rest && all_show_no_mark ss

types_show_no_mark : all_show_no_mark type_shapes ≡ true
unfolding type_shapes
types_show_no_mark = refl

found_shows_no_mark : (shapes : List TypeShape) (rtype : ℕ) (s : TypeShape) → all_show_no_mark shapes ≡ true → find (λ (s : TypeShape). s.rtype == rtype) shapes ≡ Some s → first_shows_no_mark s.fields s.rest ≡ true
found_shows_no_mark [] rtype s all found = cc
found_shows_no_mark (x ∷ xs) rtype s all found = by (first_shows_no_mark x.fields x.rest) (x.rtype == rtype) refl refl all found (λ h k. found_shows_no_mark xs rtype s h k)
  where
    by : (shown same : Bool) → first_shows_no_mark x.fields x.rest ≡ shown → (x.rtype == rtype) ≡ same → (shown && all_show_no_mark xs) ≡ true → (if same then Some x else find (λ (s : TypeShape). s.rtype == rtype) xs) ≡ Some s
        → (all_show_no_mark xs ≡ true → find (λ (s : TypeShape). s.rtype == rtype) xs ≡ Some s → first_shows_no_mark s.fields s.rest ≡ true) → first_shows_no_mark s.fields s.rest ≡ true
    by false same shown e all found later = absurd (true≢false (sym all))
    by true true shown e all found later = let same : x ≡ s = cc in subst (λ (t : TypeShape). first_shows_no_mark t.fields t.rest ≡ true) same shown
    by true false shown e all found later = later all found

-- RDATA of a shape that a type has does not print with the mark at its start
pub shape_unmarked : (rtype : ℕ) (s : TypeShape) (octets back : List ℕ) → find (λ (s : TypeShape). s.rtype == rtype) type_shapes ≡ Some s → BeginsWithFields s.fields octets back → (rest_form None s.rest).is_wire back
    → BeginsMarked (printed_parts s.fields s.rest octets) → ⊥
shape_unmarked rtype s octets back found b is m = parts_unmarked s.fields s.rest octets back (found_shows_no_mark type_shapes rtype s types_show_no_mark found) b is m
