-- What prints in quotes is a quoted string.
use Rattle.std.proofs.Common.{ℕ, zero, suc, ◌≡◌, ◌⊎◌, inl, inr, ◌<◌, Bool, true, false, true≢false, None, List, [], ◌∷◌, ◌++◌, length, take, drop, map, refl, sym, ap, subst, ◌∙◌, arith}
use Rattle.std.specs.Prelude.{if◌then◌else◌}
use Rattle.std.specs.List.{list_all, AllByRecursion}
use Rattle.std.proofs.Math.Seq.{take-append_seam, drop-append_seam}
use Rattle.std.proofs.lemmas.Bool.Decides.{nat_tests}
use Rattle.std.proofs.lemmas.List.Elements.{All-head, All-tail}
use Rattle.std.proofs.lemmas.Str.{encodes-IsAscii}
use Rattle.rdata_tokens.specs.Spelled.{base_of}
use Rattle.rdata_tokens.specs.declared.kind.DigitsKind.{DigitsKind}
use Rattle.rdata_tokens.specs.declared.kind.DigitsKind.TheVariants.{Hex as InHex, Base64 as InBase64}
use Rattle.rdata_fields.specs.Fields.{field_form}
use Rattle.rdata_fields.specs.declared.field.Field.{Field}
use Rattle.rdata_fields.specs.declared.field.Field.TheVariants.{Number8, Number16, Number32, Interval, Ipv4, Ipv6, RecordType, SigType, Algorithm, CertificateType, SyncScheme, Eui48, Eui64, Time, Locator, String, PsdnAddress, Tag, Salt, Hash, Name}
use Rattle.rdata_fields.proofs.FormLaws.{psdn_address_is_string}
use Rattle.rdata_values.specs.Types.{portable_text}
use Rattle.rdata_values.specs.Bitmap.{types_of}
use Rattle.rdata_tokens.specs.Shown.{octets_in_quotes, text_in_quotes}
use Rattle.rdata_tokens.specs.Spelling.{AreOctetValues}
use Rattle.dns_lexer.specs.Lexeme.{is_quote_symbol}
use Rattle.dns_lexer.specs.Token.{IsQuote}
use Rattle.dns_symbol.specs.Symbol.{is_printable}
use Rattle.dns_symbol.specs.Printed.{symbol_of, is_quoted_escape}
use Rattle.dns_symbol.specs.declared.symbol.Symbol.TheVariants.{Char, SimpleEscape, DecimalEscape}
use Rattle.dns_symbol.proofs.PrintedForms.{printed_ascii, printed_bytes}
use Rattle.rdata_svcb.specs.Params.{params_of}
use Rattle.rdata_svcb.specs.ShownParams.{param_text}
use Rattle.rdata_tails.specs.LocationWords.{location_words}
use Rattle.rdata.specs.GatewayKeys.{labels_size, plain_word}
use Rattle.rdata.specs.HostIdentities.{server_form}
use Rattle.rdata.specs.LocationRest.{location_at}
use Rattle.rdata.specs.PrefixLists.{prefix_form, item_size}
use Rattle.rdata.specs.TokenForms.{printed_each}
use Rattle.rdata.specs.Data.{IsDataOf, IsTextData}
use Rattle.rdata.specs.Digits.{printed_digits}
use Rattle.rdata.specs.PrintLaws.{IsQuotedWell}
use Rattle.rdata.specs.Printing.{field_size, printed_field, printed_parts, printed_data}
use Rattle.rdata.specs.RestKinds.{rest_form, strings_in_octets, AreShortStrings}
use Rattle.rdata.specs.Wire.{BeginsWithFields}
use Rattle.rdata.specs.declared.rest.Rest.{Rest}
use Rattle.rdata.specs.declared.rest.Rest.TheVariants.{Nothing, Strings, MaybeString, Hex, Base64, Types, SomeTypes, Text, QuotedText, Location as OfLocation, Prefixes, GatewayKey, HostIdentity, Params, Nsap}
use Rattle.rdata.specs.declared.shape.Shape.{Shape}
use Rattle.rdata.proofs.PrintedBack.{strings_again}
use Rattle.rdata.proofs.PrintedStrings.{quoted_token}
use Rattle.rdata.proofs.Sizes.{field_sized}
use Rattle.rdata.proofs.Textless.{HasNoText, generic_printed, text_or_none, text_printed}
use Rattle.rdata.specs.Generic.{generic_form}
use Rattle.rdata.specs.MaybeStrings.{IsMaybeString, printed_maybe_string}

quote_symbol : (o : ℕ) → o < 256 → is_quote_symbol (symbol_of is_quoted_escape o) ≡ true
quote_symbol o small = by_tests (is_printable o) (is_quoted_escape o) refl refl
  where
    by_tests : (p e : Bool) → is_printable o ≡ p → is_quoted_escape o ≡ e → is_quote_symbol (if p then (if e then SimpleEscape o else Char o) else DecimalEscape o) ≡ true
    by_tests true true shown is = grind (arith, nat_tests)
    by_tests true false shown is = grind (arith, nat_tests)
    by_tests false e shown is = grind (arith, nat_tests)

quote_symbols : (octets : List ℕ) → AreOctetValues octets → list_all is_quote_symbol (map (symbol_of is_quoted_escape) octets) ≡ true
quote_symbols [] h = refl
quote_symbols (o ∷ os) h = rw (quote_symbol o (All-head (λ b. b < 256) o os h), quote_symbols os (All-tail (λ b. b < 256) o os h)) refl

-- octets between double quotes
quote_of : (octets : List ℕ) → AreOctetValues octets → IsQuote (octets_in_quotes octets)
quote_of octets h = record {
  symbols = map (symbol_of is_quoted_escape) octets;
  valid = quote_symbols octets h;
  spelled = ap (λ l. 34 ∷ (l ++ 34 ∷ [])) (sym (encodes-IsAscii (text_in_quotes octets) (printed_ascii is_quoted_escape octets h)) ∙ printed_bytes is_quoted_escape octets);
}

plain_well : (text : List ℕ) → IsQuotedWell (record { is_quoted = false; text = text })
plain_well text quoted = absurd (true≢false (sym quoted))

field_well : (f : Field) (form : List ℕ) → (field_form None f).is_wire form → IsQuotedWell (printed_field f form)
field_well Number8 form is quoted = absurd (true≢false (sym quoted))
field_well Number16 form is quoted = absurd (true≢false (sym quoted))
field_well Number32 form is quoted = absurd (true≢false (sym quoted))
field_well Interval form is quoted = absurd (true≢false (sym quoted))
field_well Ipv4 form is quoted = absurd (true≢false (sym quoted))
field_well Ipv6 form is quoted = absurd (true≢false (sym quoted))
field_well RecordType form is quoted = absurd (true≢false (sym quoted))
field_well SigType form is quoted = absurd (true≢false (sym quoted))
field_well Algorithm form is quoted = absurd (true≢false (sym quoted))
field_well CertificateType form is quoted = absurd (true≢false (sym quoted))
field_well SyncScheme form is quoted = absurd (true≢false (sym quoted))
field_well Eui48 form is quoted = absurd (true≢false (sym quoted))
field_well Eui64 form is quoted = absurd (true≢false (sym quoted))
field_well Time form is quoted = absurd (true≢false (sym quoted))
field_well Locator form is quoted = absurd (true≢false (sym quoted))
field_well String form is quoted = quote_of (drop 1 form) (subst AreOctetValues (sym (ap (drop 1) is.whole)) is.values)
field_well PsdnAddress form is quoted = let string = psdn_address_is_string form is in quote_of (drop 1 form) (subst AreOctetValues (sym (ap (drop 1) string.whole)) string.values)
field_well Tag form is quoted = absurd (true≢false (sym quoted))
field_well Salt form is quoted = absurd (true≢false (sym quoted))
field_well Hash form is quoted = absurd (true≢false (sym quoted))
field_well Name form is quoted = absurd (true≢false (sym quoted))

strings_well : (strings : List (List ℕ)) → AreShortStrings strings → AllByRecursion IsQuotedWell (map quoted_token strings)
strings_well [] short = tt
strings_well (s ∷ ss) short = ((λ quoted. quote_of s short.0.0), strings_well ss short.1)

maybe_string_well : (octets : List ℕ) → IsMaybeString octets → AllByRecursion IsQuotedWell (printed_maybe_string octets)
maybe_string_well octets (inl none) = subst (λ o. AllByRecursion IsQuotedWell (printed_maybe_string o)) (sym none) tt
maybe_string_well octets (inr w) = subst (λ o. AllByRecursion IsQuotedWell (printed_maybe_string o)) (sym w.whole) ((λ quoted. quote_of w.octets w.values), tt)

digits_well : (kind : DigitsKind) (octets : List ℕ) → AllByRecursion IsQuotedWell (printed_digits (base_of kind) octets)
digits_well kind [] = tt
digits_well kind (o ∷ os) = ((λ quoted. absurd (true≢false (sym quoted))), tt)

types_well : (types : List ℕ) → AllByRecursion IsQuotedWell (map (λ rtype. record { is_quoted = false; text = portable_text rtype }) types)
types_well [] = tt
types_well (rtype ∷ types) = (plain_well (portable_text rtype), types_well types)

words_well : (words : List (List ℕ)) → AllByRecursion IsQuotedWell (map (λ word. record { is_quoted = false; text = word }) words)
words_well [] = tt
words_well (w ∷ ws) = (plain_well w, words_well ws)

params_well : (params : List (ℕ × List ℕ)) → AllByRecursion IsQuotedWell (map (λ p. plain_word (param_text p)) params)
params_well [] = tt
params_well (p ∷ ps) = (plain_well (param_text p), params_well ps)

prefixes_well : (count : ℕ) (octets : List ℕ) → AllByRecursion IsQuotedWell (printed_each prefix_form count octets)
prefixes_well zero octets = tt
prefixes_well (suc count) [] = tt
prefixes_well (suc count) (o ∷ os) = (plain_well _, prefixes_well count (drop (item_size (o ∷ os)) (o ∷ os)))

servers_well : (count : ℕ) (octets : List ℕ) → AllByRecursion IsQuotedWell (printed_each (server_form None) count octets)
servers_well zero octets = tt
servers_well (suc count) [] = tt
servers_well (suc count) (o ∷ os) = (plain_well _, servers_well count (drop (labels_size (length (o ∷ os)) (o ∷ os)) (o ∷ os)))

rest_well : (r : Rest) (octets : List ℕ) → (rest_form None r).is_wire octets → AllByRecursion IsQuotedWell ((rest_form None r).printed octets)
rest_well Nothing octets is = tt
rest_well Strings octets is =
    let again : strings_in_octets octets ≡ is.0.0 = ap strings_in_octets is.0.2 ∙ strings_again is.0.0 in
    subst (λ l. AllByRecursion IsQuotedWell (map quoted_token l)) (sym again) (strings_well is.0.0 is.0.1)
rest_well MaybeString octets is = maybe_string_well octets is
rest_well Hex octets is = digits_well InHex octets
rest_well Base64 octets is = digits_well InBase64 octets
rest_well Nsap octets is = (plain_well _, tt)
rest_well Types octets is = types_well (types_of octets)
rest_well SomeTypes octets is = types_well (types_of octets)
rest_well Text octets is = ((λ quoted. quote_of octets is), tt)
rest_well QuotedText octets is = ((λ quoted. quote_of octets is), tt)
rest_well OfLocation octets is = words_well (location_words (location_at octets))
rest_well Prefixes octets is = prefixes_well (length octets) octets
rest_well GatewayKey octets is = (plain_well _, (plain_well _, (plain_well _, digits_well InBase64 _)))
rest_well HostIdentity octets is = (plain_well _, (plain_well _, (plain_well _, servers_well _ _)))
rest_well Params octets is = params_well (params_of octets)

parts_well : (fields : List Field) (r : Rest) (octets back : List ℕ) → BeginsWithFields fields octets back → (rest_form None r).is_wire back → AllByRecursion IsQuotedWell (printed_parts fields r octets)
parts_well [] r octets back b is = subst (λ o. AllByRecursion IsQuotedWell ((rest_form None r).printed o)) (sym b) (rest_well r back is)
parts_well (f ∷ fs) r octets back b is =
    let form : List ℕ = b.0 in
    let more : List ℕ = b.1 in
    let sized : field_size f octets ≡ length form = ap (field_size f) b.2 ∙ field_sized f form more b.3 in
    let cut : take (field_size f octets) octets ≡ form = ap (λ n. take n octets) sized ∙ ap (take (length form)) b.2 ∙ take-append_seam form more in
    let behind : drop (field_size f octets) octets ≡ more = ap (λ n. drop n octets) sized ∙ ap (drop (length form)) b.2 ∙ drop-append_seam form more in (
      subst (λ o. IsQuotedWell (printed_field f o)) (sym cut) (field_well f form b.3),
      subst (λ o. AllByRecursion IsQuotedWell (printed_parts fs r o)) (sym behind) (parts_well fs r more back b.4 is),
    )

generic_well : (octets : List ℕ) → AllByRecursion IsQuotedWell (generic_form.printed octets)
generic_well octets = (plain_well _, (plain_well _, digits_well InHex octets))

pub data_well : (shape : Shape) (octets : List ℕ) → IsDataOf shape octets → AllByRecursion IsQuotedWell (printed_data shape octets)
data_well shape octets is = by (text_or_none shape octets is)
  where
    by : IsTextData shape octets ⊎ HasNoText shape octets → AllByRecursion IsQuotedWell (printed_data shape octets)
    by (inl own) = subst (AllByRecursion IsQuotedWell) (sym (text_printed shape octets own)) (parts_well shape.fields.now shape.rest octets own.back own.fields own.rest)
    by (inr none) = subst (AllByRecursion IsQuotedWell) (sym (generic_printed shape octets none)) (generic_well octets)
