-- Each token that RDATA prints as is one of a zone file.
use Rattle.std.proofs.Common.{◌+◌, ℕ, zero, suc, ◌≡◌, ◌⊎◌, ◌-◌, ◌*◌, ◌/◌, ◌%◌, ◌^◌, ◌<◌, Bool, true, false, true≢false, Some, None, List, [], ◌∷◌, ◌++◌, length, take, drop, map, decimal, refl, sym, ap, subst, ◌∙◌, inl, inr, arith, length-append}
use Rattle.std.proofs.Math.Seq.{take-append_seam, drop-append_seam}
use Rattle.std.proofs.lemmas.Bool.{and_parts, ltb-true}
use Rattle.std.proofs.lemmas.List.Elements.{All-head, All-tail}
use Rattle.std.specs.Int.{from_be_bytes, w16}
use Rattle.std.specs.Net.Grammar.{IsIpText}
use Rattle.std.specs.List.{AllByRecursion, concat, list_all}
use Rattle.std.specs.Option.{option_map}
use Rattle.std.specs.Prelude.{All, codes, ◌==◌, find, unwrap_or, slice_index, nat_lt, cond, ◌&&◌, if◌then◌else◌}
use Rattle.std.specs.declared.net.ip_addr.IpAddr.{IpAddr}
use Rattle.std.specs.declared.net.ip_addr.IpAddr.TheVariants.{V4, V6}
use Rattle.rdata_tokens.specs.declared.kind.DigitsKind.{DigitsKind}
use Rattle.rdata_tokens.specs.declared.kind.DigitsKind.TheVariants.{Hex as InHex, Base64 as InBase64}
use Rattle.rdata_tokens.specs.Spelled.{base_of}
use Rattle.rdata_fields.specs.Fields.{field_form}
use Rattle.rdata_fields.specs.Words.{AreOctetsOf}
use Rattle.rdata_fields.specs.declared.field.Field.{Field}
use Rattle.rdata_fields.specs.declared.field.Field.TheVariants.{Number8, Number16, Number32, Interval, Ipv4, Ipv6, RecordType, SigType, Algorithm, CertificateType, SyncScheme, Eui48, Eui64, Time, Locator, String, PsdnAddress, Tag, Salt, Hash, Name}
use Rattle.rdata_fields.proofs.FormLaws.{fields_are_forms}
use Rattle.rdata_values.specs.Algorithms.{certificate_rows}
use Rattle.dns_codec.specs.Base.{base32hex, base64, encoded}
use Rattle.rdata_values.specs.Eui.{dashed_text}
use Rattle.rdata_values.specs.Registry.{Row, code_text}
use Rattle.rdata_values.specs.Salt.{salt_text}
use Rattle.rdata_values.specs.Schemes.{scheme_rows}
use Rattle.rdata_values.specs.Time.{IsTime}
use Rattle.rdata_values.specs.Types.{type_rows, type_prefix, type_text, is_portable, portable_text, sig_type_text}
use Rattle.rdata_values.specs.Bitmap.{types_of}
use Rattle.rdata_values.proofs.TypesOf.{types_of_small}
use Rattle.rdata_svcb.specs.Params.{params_of}
use Rattle.rdata_svcb.specs.ShownParams.{param_text}
use Rattle.rdata_svcb.proofs.ShownBack.{params_are_words}
use Rattle.rdata_tails.specs.Gateways.{IsGatewayText, gateway_text}
use Rattle.rdata_tails.specs.LocationWords.{IsPossible, IsSize, angle_from, two_places, three_places, seconds_word, metres_word, altitude_word, size_word, location_words}
use Rattle.rdata_tails.specs.Prefixes.{IsPlainPrefix, IsPrefix, exclusion, prefix_text}
use Rattle.rdata_tails.specs.declared.apl.Prefix.{Prefix}
use Rattle.rdata_tails.specs.declared.gateway.Gateway.{Gateway}
use Rattle.rdata_tails.specs.declared.gateway.Gateway.TheVariants.{Nothing, Ipv4 as GatewayIpv4, Ipv6 as GatewayIpv6}
use Rattle.rdata_tails.specs.declared.location.Location.{Location}
use Rattle.rdata_tails.proofs.GatewayLaws.{gateways_are_read}
use Rattle.rdata_tails.proofs.HeightLemmas.{zeros_fit}
use Rattle.rdata_tails.proofs.PrefixLaws.{prefixes_are_read}
use Rattle.rdata_tokens.proofs.NameWords.{name_is_word}
use Rattle.dns_lexer.specs.Token.{IsToken, IsWord}
use Rattle.rdata.specs.Data.{IsDataOf, IsTextData}
use Rattle.rdata.specs.Digits.{printed_digits}
use Rattle.rdata.specs.GatewayKeys.{plain_word, octet_form, gateway_type_form, gateway_form, gateway_key_form, key_form}
use Rattle.rdata.specs.HostIdentities.{hit_form, public_key_form, server_form, host_identity_form, servers_form}
use Rattle.rdata.specs.MaybeStrings.{printed_maybe_string}
use Rattle.rdata.specs.PrefixLists.{prefix_form, prefixes_form}
use Rattle.rdata.specs.PrintLaws.{IsQuotedWell, IsWordWell}
use Rattle.rdata.specs.Printing.{field_size, printed_field, printed_parts, printed_data, token_bytes}
use Rattle.rdata.specs.RestKinds.{rest_form, strings_in_octets}
use Rattle.rdata.specs.Rests.{PrintedToken, RestForm}
use Rattle.rdata.specs.TokenForms.{TokenForm, IsThen, printed_each, then_form}
use Rattle.rdata.specs.TypeLists.{types_form}
use Rattle.rdata.specs.Wire.{BeginsWithFields}
use Rattle.rdata.specs.declared.rest.Rest.{Rest}
use Rattle.rdata.specs.declared.rest.Rest.TheVariants.{Nothing as NoRest, Strings, MaybeString, Hex, Base64, Types, SomeTypes, Text, QuotedText, Location as OfLocation, Prefixes, GatewayKey, HostIdentity, Params, Nsap}
use Rattle.rdata.specs.declared.shape.Shape.{Shape}
use Rattle.rdata.proofs.GatewayLaws.{behind_algorithm, behind_type}
use Rattle.rdata.proofs.LocationLemmas.{location_at_is}
use Rattle.rdata.proofs.PlacesBack.{gateway_sized, item_sized, prefix_is, word_is}
use Rattle.rdata.proofs.PlainWords.{ArePlain, IsPlainWord, is_plain_char, plain_is_word, plain_append, plain_before, word_front, word_before, numeral_word, decimal_word, digits_plain, pairs_plain, dashed_word, groups_word, ipv4_word, ipv6_word, encoded16_word, encoded32_word, encoded64_word, letters_plain, any_decimal_word, nsap_word}
use Rattle.rdata.proofs.HostLaws.{after_hit, shown_hit, shown_algorithm}
use Rattle.rdata.proofs.HostWire.{algorithm_shown, hit_shown, key_shown, key_sized, no_name}
use Rattle.rdata.proofs.PrintedQuotes.{data_well}
use Rattle.rdata.proofs.PrintedStrings.{quoted_token}
use Rattle.rdata.proofs.Sizes.{field_sized, name_sized}
use Rattle.rdata.proofs.Textless.{HasNoText, generic_printed, text_or_none, text_printed}
use Rattle.rdata.specs.Generic.{generic_form}
use Rattle.dns_symbol.specs.declared.symbol.Symbol.TheVariants.{SimpleEscape}

-- ---- names of registries

-- each row's name is a word
abbrev has_word : Row → Bool
has_word r = nat_lt 0 (length r.name) && list_all is_plain_char r.name

type_names : list_all has_word type_rows ≡ true
unfolding type_rows
type_names = refl

certificate_names : list_all has_word certificate_rows ≡ true
certificate_names = refl

scheme_names : list_all has_word scheme_rows ≡ true
scheme_names = refl

module _ (prefix : List ℕ) (plain : ArePlain prefix) (code : ℕ) (small : code < 2 ^ 64) where
  numbered_word : IsPlainWord (prefix ++ decimal code)
  numbered_word = let number = decimal_word code small in record { some = omega (arith, number.some, length-append prefix (decimal code)); plain = plain_append prefix (decimal code) plain number.plain }

  code_word : (table : List Row) → list_all has_word table ≡ true → IsPlainWord (code_text table prefix code)
  code_word [] names = numbered_word
  code_word (r ∷ rs) names = by (r.code == code) (code_word rs (and_parts (has_word r) (list_all has_word rs) names).1)
    where
      own : IsPlainWord r.name
      own =
          let here = (and_parts (has_word r) (list_all has_word rs) names).0 in
          let both = and_parts (nat_lt 0 (length r.name)) (list_all is_plain_char r.name) here in record { some = ltb-true 0 (length r.name) both.0; plain = both.1 }

      by : (b : Bool) → IsPlainWord (code_text rs prefix code) → IsPlainWord (unwrap_or (option_map (λ (r : Row). r.name) (cond b (Some r) (find (λ (r : Row). r.code == code) rs))) (prefix ++ decimal code))
      by true later = own
      by false later = later

pub named_type_word : (rtype : ℕ) → rtype < 2 ^ 64 → IsPlainWord (type_text rtype)
named_type_word rtype small = code_word type_prefix refl rtype small type_rows type_names

pub type_word : (rtype : ℕ) → rtype < 2 ^ 64 → IsPlainWord (portable_text rtype)
type_word rtype small = by (is_portable rtype)
  where
    by : (known : Bool) → IsPlainWord (if known then type_text rtype else type_prefix ++ decimal rtype)
    by true = named_type_word rtype small
    by false = numbered_word type_prefix refl rtype small

sig_type_word : (rtype : ℕ) → rtype < 2 ^ 64 → IsPlainWord (sig_type_text rtype)
sig_type_word rtype small = by (rtype == 0)
  where
    by : (none : Bool) → IsPlainWord (if none then codes "0" else portable_text rtype)
    by true = record { some = omega arith; plain = refl }
    by false = type_word rtype small

-- ---- fields

octet_small : (octets : List ℕ) → AreOctetsOf 1 octets → slice_index octets 0 < 2 ^ 64
octet_small octets is = let a : slice_index octets 0 < 256 = is.1 0 0 (omega (arith, is.0)) in omega (arith, a)

pair_small : (octets : List ℕ) → AreOctetsOf 2 octets → from_be_bytes w16 octets < 2 ^ 64
pair_small octets is =
    let a : slice_index octets 0 < 256 = is.1 0 0 (omega (arith, is.0)) in
    let b : slice_index octets 1 < 256 = is.1 1 0 (omega (arith, is.0)) in
    omega (arith, a, b)

not_quoted : (t : PrintedToken) → t.is_quoted ≡ true → IsWordWell t
not_quoted t quoted plain = absurd (true≢false (sym quoted ∙ plain))

a_word : (text : List ℕ) → IsPlainWord text → IsWordWell (record { is_quoted = false; text = text })
a_word text w plain = plain_is_word text w

time_word : (text : List ℕ) (seconds : ℕ) → IsTime text seconds → IsPlainWord text
time_word text seconds (inl h) = record { some = omega (arith, h.0.0); plain = digits_plain 10 text (omega arith) h.0.1 }
time_word text seconds (inr h) = numeral_word 10 text (omega arith) h.1.0

eui_word : (octets : List ℕ) → 0 < length octets → All (λ o. o < 256) octets → IsPlainWord (dashed_text octets)
eui_word [] some all = absurd (omega (arith, some))
eui_word (o ∷ os) some all = dashed_word o os all

salt_word : (octets : List ℕ) → All (λ o. o < 256) octets → IsPlainWord (salt_text octets)
salt_word [] all = record { some = omega arith; plain = refl }
salt_word (o ∷ os) all = record { some = omega arith; plain = pairs_plain (o ∷ os) all }

field_word : (f : Field) (form : List ℕ) → (field_form None f).is_wire form → IsWordWell (printed_field f form)
field_word Number8 form is = a_word _ (numeral_word 10 _ (omega arith) ((fields_are_forms None tt Number8).back form is).1.2.0.0)
field_word Number16 form is = a_word _ (numeral_word 10 _ (omega arith) ((fields_are_forms None tt Number16).back form is).1.2.0.0)
field_word Number32 form is = a_word _ (numeral_word 10 _ (omega arith) ((fields_are_forms None tt Number32).back form is).1.2.0.0)
field_word Interval form is = a_word _ (numeral_word 10 _ (omega arith) ((fields_are_forms None tt Number32).back form is).1.2.0.0)
field_word Ipv4 form is = let back = ((fields_are_forms None tt Ipv4).back form is).1 in a_word _ (ipv4_word _ back.0 back.2)
field_word Ipv6 form is = let back = ((fields_are_forms None tt Ipv6).back form is).1 in a_word _ (ipv6_word _ back.0.0 back.2)
field_word RecordType form is = a_word _ (type_word (from_be_bytes w16 form) (pair_small form is))
field_word SigType form is = a_word _ (sig_type_word (from_be_bytes w16 form) (pair_small form is))
field_word Algorithm form is = a_word _ (numeral_word 10 _ (omega arith) ((fields_are_forms None tt Number8).back form is).1.2.0.0)
field_word CertificateType form is = a_word _ (code_word [] refl (from_be_bytes w16 form) (pair_small form is) certificate_rows certificate_names)
field_word SyncScheme form is = a_word _ (code_word [] refl (slice_index form 0) (octet_small form is) scheme_rows scheme_names)
field_word Eui48 form is = a_word _ (eui_word form (omega (arith, is.0)) is.1)
field_word Eui64 form is = a_word _ (eui_word form (omega (arith, is.0)) is.1)
field_word Time form is = let back = ((fields_are_forms None tt Time).back form is).1 in a_word _ (time_word _ _ back.2.1)
field_word Locator form is = let back = ((fields_are_forms None tt Locator).back form is).1 in a_word _ (groups_word false back.2.groups _ (omega (arith, back.2.four)) back.2.written)
field_word String form is = not_quoted (printed_field String form) refl
field_word PsdnAddress form is = not_quoted (printed_field PsdnAddress form) refl
field_word Tag form is = a_word _ (subst (λ o. IsPlainWord (drop 1 o)) (sym is.whole) (record { some = is.is_tag.some; plain = letters_plain is.tag is.is_tag.letters }))
field_word Salt form is = a_word _ (subst (λ o. IsPlainWord (salt_text (drop 1 o))) (sym is.whole) (salt_word is.octets is.values))
field_word Hash form is = a_word _ (subst (λ o. IsPlainWord (encoded base32hex (drop 1 o))) (sym is.whole) (encoded32_word is.octets is.some))
field_word Name form is = λ plain. name_is_word form is

-- ---- locations

places_plain : (n : ℕ) → n < 2 ^ 64 → ArePlain (two_places n)
places_plain n small = plain_append (decimal (n / 10)) (decimal (n % 10)) (decimal_word (n / 10) (omega (arith, small))).plain (decimal_word (n % 10) (omega (arith, small))).plain

seconds_are : (n : ℕ) → n < 2 ^ 64 → IsPlainWord (seconds_word n)
seconds_are n small =
    let hundreds : n % 1000 / 100 < 2 ^ 64 = omega (arith, small) in
    let rest : n % 1000 % 100 < 2 ^ 64 = omega (arith, small) in
    word_front (decimal (n / 1000)) (46 ∷ three_places (n % 1000)) (decimal_word (n / 1000) (omega (arith, small)))
    (plain_before 46 (three_places (n % 1000)) refl (plain_append (decimal (n % 1000 / 100)) (two_places (n % 1000 % 100)) (decimal_word (n % 1000 / 100) hundreds).plain (places_plain (n % 1000 % 100) rest)))

metres_are : (n : ℕ) → n < 2 ^ 64 → IsPlainWord (metres_word n)
metres_are n small =
    let rest : n % 100 < 2 ^ 64 = omega (arith, small) in
    word_front (decimal (n / 100)) (46 ∷ (two_places (n % 100) ++ 109 ∷ [])) (decimal_word (n / 100) (omega (arith, small)))
    (plain_before 46 (two_places (n % 100) ++ 109 ∷ []) refl (plain_append (two_places (n % 100)) (109 ∷ []) (places_plain (n % 100) rest) refl))

altitude_is : (n : ℕ) → n < 2 ^ 32 → IsPlainWord (altitude_word n)
altitude_is n small = by (nat_lt n 10000000)
  where
    by : (b : Bool) → IsPlainWord (if b then 45 ∷ metres_word (10000000 - n) else metres_word (n - 10000000))
    by true = word_before 45 (metres_word (10000000 - n)) refl (metres_are (10000000 - n) (omega arith)).plain
    by false = metres_are (n - 10000000) (omega (arith, small))

size_is : (octet : ℕ) → octet < 256 → IsPlainWord (size_word octet)
size_is octet low = by (nat_lt (octet % 16) 2)
  where
    by : (b : Bool) → IsPlainWord (if b then metres_word (octet / 16 * 10 ^ (octet % 16)) else decimal (octet / 16 * 10 ^ (octet % 16 - 2)) ++ 109 ∷ [])
    by true = metres_are (octet / 16 * 10 ^ (octet % 16)) (zeros_fit (octet / 16) (octet % 16) _ _ (omega (arith, low)) (omega arith) refl refl)
    by false =
        word_front (decimal (octet / 16 * 10 ^ (octet % 16 - 2))) (109 ∷ [])
        (decimal_word (octet / 16 * 10 ^ (octet % 16 - 2)) (zeros_fit (octet / 16) (octet % 16 - 2) _ _ (omega (arith, low)) (omega arith) refl refl)) refl

one_of : (b : Bool) (s t : List ℕ) → IsPlainWord s → IsPlainWord t → IsPlainWord (if b then s else t)
one_of true s t p q = p
one_of false s t p q = q

letter_word : (c : ℕ) → is_plain_char c ≡ true → IsPlainWord (c ∷ [])
letter_word c p = word_before c [] p refl

abbrev AreWell : List PrintedToken → Type 0
AreWell tokens = AllByRecursion IsWordWell tokens

module _ (number : ℕ) (small : number < 2 ^ 33) where
  angle_small : angle_from number < 2 ^ 34
  angle_small = omega (arith, small)

  degrees_are : IsPlainWord (decimal (angle_from number / 3600000))
  degrees_are = decimal_word (angle_from number / 3600000) (omega (arith, angle_small))

  minutes_are : IsPlainWord (decimal (angle_from number / 60000 % 60))
  minutes_are = decimal_word (angle_from number / 60000 % 60) (omega (arith, angle_small))

  angle_seconds : IsPlainWord (seconds_word (angle_from number % 60000))
  angle_seconds = seconds_are (angle_from number % 60000) (omega (arith, angle_small))

size_small : (octet : ℕ) → IsSize octet → octet < 256
size_small octet h = omega (arith, h.0)

location_words_well : (l : Location) → IsPossible l → AreWell (map (λ word. record { is_quoted = false; text = word }) (location_words l))
location_words_well l h =
    let latitude : l.latitude < 2 ^ 33 = omega (arith, h.latitude.1) in
    let longitude : l.longitude < 2 ^ 33 = omega (arith, h.longitude.1) in
    let a = a_word _ (degrees_are l.latitude latitude) in
    let b = a_word _ (minutes_are l.latitude latitude) in
    let c = a_word _ (angle_seconds l.latitude latitude) in
    let d = a_word _ (one_of (nat_lt l.latitude (2 ^ 31)) (83 ∷ []) (78 ∷ []) (letter_word 83 refl) (letter_word 78 refl)) in
    let e = a_word _ (degrees_are l.longitude longitude) in
    let f = a_word _ (minutes_are l.longitude longitude) in
    let g = a_word _ (angle_seconds l.longitude longitude) in
    let i = a_word _ (one_of (nat_lt l.longitude (2 ^ 31)) (87 ∷ []) (69 ∷ []) (letter_word 87 refl) (letter_word 69 refl)) in
    let j = a_word _ (altitude_is l.altitude h.altitude) in
    let k = a_word _ (size_is l.sizes.size (size_small l.sizes.size h.sizes.size)) in
    let m = a_word _ (size_is l.sizes.horizontal (size_small l.sizes.horizontal h.sizes.horizontal)) in
    let n = a_word _ (size_is l.sizes.vertical (size_small l.sizes.vertical h.sizes.vertical)) in
    (a, (b, (c, (d, (e, (f, (g, (i, (j, (k, (m, (n, tt))))))))))))

-- ---- items of prefixes

ip_word : (a : IpAddr) (text : List ℕ) → IsIpText text a → IsPlainWord text
ip_word (V4 a) text h = ipv4_word text a h
ip_word (V6 a) text h = ipv6_word text a h

plain_prefix : (p : Prefix) (text : List ℕ) → IsPlainPrefix text p → IsPlainWord text
plain_prefix p text h =
    let family = numeral_word 10 h.family (omega arith) h.address_is.1.0 in
    let address = ip_word p.address h.address h.address_is.2 in
    let bits = numeral_word 10 h.bits (omega arith) h.bits_are.0 in
    subst IsPlainWord (sym h.written)
    (word_front h.family (58 ∷ (h.address ++ 47 ∷ h.bits)) family (plain_before 58 (h.address ++ 47 ∷ h.bits) refl (plain_append h.address (47 ∷ h.bits) address.plain (plain_before 47 h.bits refl bits.plain))))

prefix_word : (p : Prefix) → IsPrefix p → IsPlainWord (prefix_text p)
prefix_word p valid =
    let spelled = prefixes_are_read.spelled p valid in
    subst IsPlainWord (sym spelled.1) (by p.negated spelled.0 (plain_prefix p spelled.0 spelled.2))
  where
    by : (b : Bool) (plain : List ℕ) → IsPlainWord plain → IsPlainWord (exclusion b ++ plain)
    by true plain w = word_before 33 plain refl w.plain
    by false plain w = w

-- ---- tokens one after another, and before others

module _ (f : TokenForm) (word : (octets : List ℕ) → f.is_wire octets → IsWordWell (f.printed octets)) (sized : (front more : List ℕ) → f.is_wire front → f.width (front ++ more) ≡ length front) where
  each_words : (some : f.is_wire [] → ⊥) (parts : List (List ℕ)) (count : ℕ) → AllByRecursion f.is_wire parts → AreWell (printed_each f count (concat parts))
  each_words some [] zero h = tt
  each_words some [] (suc count) h = tt
  each_words some ([] ∷ parts) count h = absurd (some h.0)
  each_words some ((o ∷ os) ∷ parts) zero h = tt
  each_words some ((o ∷ os) ∷ parts) (suc count) h =
      let part : List ℕ = o ∷ os in
      let more : List ℕ = concat parts in
      let width : f.width (part ++ more) ≡ length part = sized part more h.0 in
      let own : take (f.width (part ++ more)) (part ++ more) ≡ part = ap (λ n. take n (part ++ more)) width ∙ take-append_seam part more in
      let later : drop (f.width (part ++ more)) (part ++ more) ≡ more = ap (λ n. drop n (part ++ more)) width ∙ drop-append_seam part more in (
        subst (λ o. IsWordWell (f.printed o)) (sym own) (word part h.0),
        subst (λ o. AreWell (printed_each f count o)) (sym later) (each_words some parts count h.1),
      )

  then_words : (behind : List ℕ → RestForm) → ((front back : List ℕ) → (behind front).is_wire back → AreWell ((behind front).printed back)) → (octets : List ℕ) → IsThen f behind octets → AreWell ((then_form f behind).printed octets)
  then_words behind rest octets is =
      let all : List ℕ = is.front ++ is.back in
      let width : f.width all ≡ length is.front = sized is.front is.back is.is_wire in
      let own : take (f.width all) all ≡ is.front = ap (λ n. take n all) width ∙ take-append_seam is.front is.back in
      let later : drop (f.width all) all ≡ is.back = ap (λ n. drop n all) width ∙ drop-append_seam is.front is.back in
      let first : IsWordWell (f.printed (take (f.width all) all)) = subst (λ o. IsWordWell (f.printed o)) (sym own) (word is.front is.is_wire) in
      let tail : AreWell ((behind is.front).printed (drop (f.width all) all)) = subst (λ o. AreWell ((behind is.front).printed o)) (sym later) (rest is.front is.back is.rest) in
      let both : AreWell ((then_form f behind).printed all) = (first, subst (λ o. AreWell ((behind o).printed (drop (f.width all) all))) (sym own) tail) in
      subst (λ o. AreWell ((then_form f behind).printed o)) (sym is.octets_are) both

item_word : (octets : List ℕ) → prefix_form.is_wire octets → IsWordWell (prefix_form.printed octets)
item_word octets is = subst (λ p. IsWordWell (record { is_quoted = false; text = prefix_text p })) (sym (prefix_is is.0 octets is.1 is.2)) (a_word _ (prefix_word is.0 is.1))

no_item : prefix_form.is_wire [] → ⊥
no_item is = let bad = is.2.written in cc bad

prefixes_words : (octets : List ℕ) → prefixes_form.is_wire octets → AreWell (prefixes_form.printed octets)
prefixes_words octets is =
    subst (λ o. AreWell (printed_each prefix_form (length octets) o)) (sym is.2)
    (each_words prefix_form item_word (λ front more h. item_sized h.0 front more h.1 h.2) no_item is.0 (length octets) is.1)

-- ---- gateways and keys

octet_word : (octets : List ℕ) → octet_form.is_wire octets → IsWordWell (octet_form.printed octets)
octet_word octets is = field_word Number8 octets is

octet_sized : (front more : List ℕ) → octet_form.is_wire front → octet_form.width (front ++ more) ≡ length front
octet_sized front more is = sym is.0

address_word : (g : Gateway) → IsGatewayText (gateway_text g) g → IsPlainWord (gateway_text g)
address_word Nothing h = record { some = omega arith; plain = refl }
address_word (GatewayIpv4 a) h = ipv4_word _ a h
address_word (GatewayIpv6 a) h = ipv6_word _ a h

gateway_is_word : (number : ℕ) (octets : List ℕ) → (gateway_form None number).is_wire octets → IsWordWell ((gateway_form None number).printed octets)
gateway_is_word number octets (inl name) = subst (λ n. IsWordWell ((gateway_form None n).printed octets)) (sym name.0) (λ plain. name_is_word octets name.1)
gateway_is_word number octets (inr own) =
    let shown = word_is own.0 number octets (sym own.2) own.3 in
    a_word _ (subst IsPlainWord (sym shown) (address_word own.0 (gateways_are_read.spelled own.0 own.1).2))

digits_words : (kind : DigitsKind) (octets : List ℕ) → AreWell (printed_digits (base_of kind) octets)
digits_words kind [] = tt
digits_words InHex (o ∷ os) = (a_word _ (encoded16_word (o ∷ os) (omega arith)), tt)
digits_words InBase64 (o ∷ os) = (a_word _ (encoded64_word (o ∷ os) (omega arith)), tt)

-- the mark is a backslash and a character
mark_word : IsWordWell (record { is_quoted = false; text = codes "\\#" })
unfolding lib.Utf8.encode
mark_word plain = record { symbols = SimpleEscape 35 ∷ []; some = omega arith; valid = refl; spelled = refl }

generic_words : (octets : List ℕ) → AreWell (generic_form.printed octets)
generic_words octets = (mark_word, (a_word _ (any_decimal_word (length octets)), digits_words InHex octets))

gateway_key_words : (octets : List ℕ) → (gateway_key_form None).is_wire octets → AreWell ((gateway_key_form None).printed octets)
gateway_key_words octets is =
    then_words gateway_type_form (λ octets h. octet_word octets h.0) (λ front more h. octet_sized front more h.0) (λ number. behind_type None (slice_index number 0)) (λ number. type_words (slice_index number 0)) octets is
  where
    gateway_words : (number algorithm : ℕ) (octets : List ℕ) → (behind_algorithm None number algorithm).is_wire octets → AreWell ((behind_algorithm None number algorithm).printed octets)
    gateway_words number algorithm octets is =
        then_words (gateway_form None number) (gateway_is_word number) (gateway_sized name_sized number) (λ gateway. key_form algorithm) (λ gateway back h. digits_words InBase64 back) octets is

    type_words : (number : ℕ) (octets : List ℕ) → (behind_type None number).is_wire octets → AreWell ((behind_type None number).printed octets)
    type_words number octets is = then_words octet_form octet_word octet_sized (λ algorithm. behind_algorithm None number (slice_index algorithm 0)) (λ algorithm. gateway_words number (slice_index algorithm 0)) octets is

-- ---- host identities

hit_word : (octets : List ℕ) → hit_form.is_wire octets → IsWordWell (hit_form.printed octets)
hit_word octets is = by octets is.0 is.1
  where
    by : (octets : List ℕ) → All (λ o. o < 256) octets → 0 < length octets → IsWordWell (hit_form.printed octets)
    by [] values some = absurd (omega (arith, some))
    by (o ∷ os) values some = a_word _ (salt_word (o ∷ os) values)

public_key_word : (algorithm : ℕ) (hit octets : List ℕ) → (public_key_form algorithm hit).is_wire octets → IsWordWell ((public_key_form algorithm hit).printed octets)
public_key_word algorithm hit octets is =
    let shown : encoded base64 (drop (4 + slice_index octets 0) octets) ≡ encoded base64 is.0 = ap (λ o. encoded base64 (drop (4 + slice_index o 0) o)) is.2 ∙ ap (encoded base64) (key_shown algorithm hit is.0) in
    a_word _ (subst IsPlainWord (sym shown) (encoded64_word is.0 is.1.1))

after_hit_words : (algorithm : ℕ) (hit octets : List ℕ) → (after_hit None algorithm hit).is_wire octets → AreWell ((after_hit None algorithm hit).printed octets)
after_hit_words algorithm hit octets is = then_words (public_key_form algorithm hit) (public_key_word algorithm hit) (key_sized algorithm hit) (λ key. servers_form None) (λ key back names. servers_words back names) octets is
  where
    servers_words : (octets : List ℕ) → (servers_form None).is_wire octets → AreWell ((servers_form None).printed octets)
    servers_words octets is =
        subst (λ o. AreWell (printed_each (server_form None) (length octets) o)) (sym is.2)
        (each_words (server_form None) (λ octets name plain. name_is_word octets name) name_sized no_name is.0 (length octets) is.1)

host_words : (octets : List ℕ) → (host_identity_form None).is_wire octets → AreWell ((host_identity_form None).printed octets)
host_words octets is =
    let algorithm : shown_algorithm octets ≡ is.0 = algorithm_shown is.0 octets is.1 is.2 in
    let hit : shown_hit octets ≡ is.2.0 = hit_shown (slice_index is.0 0) is.2.0 octets is.2.1 is.2.2 in
    let last = subst (λ h. AreWell ((after_hit None (slice_index is.0 0) h).printed octets)) (sym hit) (after_hit_words (slice_index is.0 0) is.2.0 octets is.2.2) in (
      subst (λ o. IsWordWell (octet_form.printed o)) (sym algorithm) (octet_word is.0 is.1),
      (
        subst (λ h. IsWordWell (hit_form.printed h)) (sym hit) (hit_word is.2.0 is.2.1),
        subst (λ a. AreWell ((after_hit None (slice_index a 0) (shown_hit octets)).printed octets)) (sym algorithm) last,
      ),
    )

-- ---- all kinds of what goes to the end of an entry

types_words : (types : List ℕ) → All (λ rtype. rtype < 65536) types → AreWell (map (λ rtype. record { is_quoted = false; text = portable_text rtype }) types)
types_words [] small = tt
types_words (rtype ∷ types) small = (a_word _ (type_word rtype (omega (arith, All-head (λ c. c < 65536) rtype types small))), types_words types (All-tail (λ c. c < 65536) rtype types small))

bitmap_words : (octets : List ℕ) → types_form.is_wire octets → AreWell (types_form.printed octets)
bitmap_words octets is = types_words (types_of octets) (subst (λ o. All (λ code. code < 65536) (types_of o)) is.0.1 (types_of_small is.0.0))

strings_words : (strings : List (List ℕ)) → AreWell (map quoted_token strings)
strings_words [] = tt
strings_words (s ∷ ss) = (not_quoted (quoted_token s) refl, strings_words ss)

maybe_string_words : (octets : List ℕ) → AreWell (printed_maybe_string octets)
maybe_string_words [] = tt
maybe_string_words (o ∷ os) = (not_quoted (quoted_token os) refl, tt)

params_words : (params : List (ℕ × List ℕ)) → AllByRecursion (λ p. IsWord (param_text p)) params → AreWell (map (λ p. plain_word (param_text p)) params)
params_words [] words = tt
params_words (p ∷ ps) words = (λ plain. words.0, params_words ps words.1)

rest_words : (r : Rest) (octets : List ℕ) → (rest_form None r).is_wire octets → AreWell ((rest_form None r).printed octets)
rest_words NoRest octets is = tt
rest_words Strings octets is = strings_words (strings_in_octets octets)
rest_words MaybeString octets is = maybe_string_words octets
rest_words Hex octets is = digits_words InHex octets
rest_words Base64 octets is = digits_words InBase64 octets
rest_words Nsap octets is = (a_word _ (nsap_word octets is.0), tt)
rest_words Types octets is = bitmap_words octets is
rest_words SomeTypes octets is = bitmap_words octets is.0
rest_words Text octets is = (not_quoted (quoted_token octets) refl, tt)
rest_words QuotedText octets is = (not_quoted (quoted_token octets) refl, tt)
rest_words OfLocation octets is = subst (λ l. AreWell (map (λ word. record { is_quoted = false; text = word }) (location_words l))) (sym (location_at_is octets is.0 is.1)) (location_words_well is.0 is.1.0)
rest_words Prefixes octets is = prefixes_words octets is
rest_words GatewayKey octets is = gateway_key_words octets is
rest_words HostIdentity octets is = host_words octets is
rest_words Params octets is = params_words (params_of octets) (params_are_words octets is.0 is.1)

parts_words : (fields : List Field) (r : Rest) (octets back : List ℕ) → BeginsWithFields fields octets back → (rest_form None r).is_wire back → AreWell (printed_parts fields r octets)
parts_words [] r octets back b is = subst (λ o. AreWell ((rest_form None r).printed o)) (sym b) (rest_words r back is)
parts_words (f ∷ fs) r octets back b is =
    let form : List ℕ = b.0 in
    let more : List ℕ = b.1 in
    let sized : field_size f octets ≡ length form = ap (field_size f) b.2 ∙ field_sized f form more b.3 in
    let cut : take (field_size f octets) octets ≡ form = ap (λ n. take n octets) sized ∙ ap (take (length form)) b.2 ∙ take-append_seam form more in
    let behind : drop (field_size f octets) octets ≡ more = ap (λ n. drop n octets) sized ∙ ap (drop (length form)) b.2 ∙ drop-append_seam form more in (
      subst (λ o. IsWordWell (printed_field f o)) (sym cut) (field_word f form b.3),
      subst (λ o. AreWell (printed_parts fs r o)) (sym behind) (parts_words fs r more back b.4 is),
    )

pub data_words : (shape : Shape) (octets : List ℕ) → IsDataOf shape octets → AllByRecursion IsWordWell (printed_data shape octets)
data_words shape octets is = by (text_or_none shape octets is)
  where
    by : IsTextData shape octets ⊎ HasNoText shape octets → AreWell (printed_data shape octets)
    by (inl own) = subst AreWell (sym (text_printed shape octets own)) (parts_words shape.fields.now shape.rest octets own.back own.fields own.rest)
    by (inr none) = subst AreWell (sym (generic_printed shape octets none)) (generic_words octets)

-- ---- words and quoted strings are tokens

token_of : (t : PrintedToken) → IsQuotedWell t → IsWordWell t → IsToken (token_bytes t)
token_of t quote word = by t.is_quoted refl
  where
    by : (b : Bool) → t.is_quoted ≡ b → IsToken (token_bytes t)
    by true is = inr (quote is)
    by false is = inl (word is)

tokens_of : (tokens : List PrintedToken) → AllByRecursion IsQuotedWell tokens → AllByRecursion IsWordWell tokens → AllByRecursion (λ t. IsToken (token_bytes t)) tokens
tokens_of [] quotes words = tt
tokens_of (t ∷ ts) quotes words = (token_of t quotes.0 words.0, tokens_of ts quotes.1 words.1)

pub data_tokens_well : (shape : Shape) (octets : List ℕ) → IsDataOf shape octets → AllByRecursion (λ t. IsToken (token_bytes t)) (printed_data shape octets)
data_tokens_well shape octets is = tokens_of (printed_data shape octets) (data_well shape octets is) (data_words shape octets is)
