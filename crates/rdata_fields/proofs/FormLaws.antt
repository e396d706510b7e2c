-- Each kind of field is spelled, printed and found as its form defines.
use Rattle.std.proofs.Common.{ℕ, zero, suc, ◌-◌, ◌≡◌, ◌<◌, ◌≤◌, true, false, true≢false, List, [], ◌∷◌, ◌++◌, length, take, drop, inl, inr, refl, sym, subst, ap, arith, ◌∙◌, Option, Some, None}
use lib.Seq.{take-nil}
use Rattle.std.proofs.lemmas.List.{length-take-le}
use Rattle.std.proofs.lemmas.List.Elements.{All-from_get_or, All-nil, All-cons}
use Rattle.std.proofs.lemmas.Bool.{and_parts}
use Rattle.std.proofs.lemmas.Bool.Decides.{nat_tests}
use Rattle.std.proofs.Math.Seq.{take-append_seam}
use Rattle.std.specs.Char.{is_ascii_digit}
use Rattle.std.specs.List.{list_all}
use Rattle.rdata_values.specs.Salt.{SpellsSalt, salt_text}
use Rattle.std.specs.Prelude.{All, Bool, if◌then◌else◌}
use Rattle.rdata_values.specs.declared.error.ErrorKind.{ErrorKind}
use Rattle.rdata_values.proofs.SaltLaws.{salts_are_kind}
use Rattle.rdata_tokens.specs.Forms.{FindsWidth, AreSelfDelimiting, IsWireString}
use Rattle.rdata_tokens.specs.Shown.{string_in_quotes, text_in_quotes}
use Rattle.rdata_tokens.specs.Spelling.{AreOctetValues}
use Rattle.dns_symbol.specs.Symbol.{spell, is_printable}
use Rattle.dns_symbol.specs.Printed.{symbol_of, is_quoted_escape}
use Rattle.dns_symbol.specs.declared.symbol.Symbol.TheVariants.{Char, SimpleEscape, DecimalEscape}
use Rattle.dns_codec.specs.Base.{base32hex, encoded, IsEncoding}
use Rattle.rdata_tokens.specs.Spelled.{SpellsDigits}
use Rattle.rdata_tokens.proofs.Spelling.{spells_once, printed_spells}
use Rattle.rdata_tokens.specs.NameSpelling.{IsOrigin}
use Rattle.rdata_tokens.proofs.NameLaws.{names_spelled}
use Rattle.rdata_tokens.proofs.NameAnswers.{name_begun}
use Rattle.rdata_tokens.proofs.NameReadings.{name_once}
use Rattle.rdata_tokens.specs.Hashes.{SpellsHash}
use Rattle.rdata_tokens.proofs.NameFronts.{names_in_front}
use Rattle.rdata_tokens.proofs.FormLaws.{strings_spelled, strings_in_front, tags_spelled, tags_in_front}
use Rattle.rdata_fields.specs.declared.field.Field.{Field}
use Rattle.rdata_fields.specs.declared.field.Field.TheVariants.{Number8 as OfNumber8, Number16 as OfNumber16, Number32 as OfNumber32, Interval as OfInterval, Ipv4 as OfIpv4, Ipv6 as OfIpv6, RecordType as OfRecordType, SigType as OfSigType, Algorithm as OfAlgorithm, CertificateType as OfCertificateType, SyncScheme as OfSyncScheme, Eui48 as OfEui48, Eui64 as OfEui64, Time as OfTime, Locator as OfLocator, String as OfString, PsdnAddress as OfPsdnAddress, Tag as OfTag, Salt as OfSalt, Hash as OfHash, Name as OfName}
use Rattle.rdata_fields.specs.Fields.{field_form}
use Rattle.rdata_fields.specs.Forms.{IsFieldForm, IsPsdnAddress, IsWireHash, IsWirePsdnAddress, SpellsWireSalt, word_form, string_form, psdn_address_form, tag_form, salt_form, hash_form, name_form}
use Rattle.rdata_fields.specs.Words.{AreOctetsOf, IsWordKind}
use Rattle.rdata_fields.specs.WordLaws.{number8_is_kind, number16_is_kind, number32_is_kind, interval_is_kind, ipv4_is_word, ipv6_is_word, type_is_word, sig_type_is_word, algorithm_is_word, certificate_is_word, scheme_is_word, eui48_is_word, eui64_is_word, date_is_word, locator_is_word}

no_more : (a b : List ℕ) → a ≡ b → length a ≤ length b
no_more a b same = omega (arith, ap length same)

-- octets begin with one value of `width` octets at most
of_one_width : (width : ℕ) → AreSelfDelimiting (AreOctetsOf width)
of_one_width width = record { width = at }
  where
    at : (form rest : List ℕ) (found : Option ℕ) → AreOctetsOf width form → FindsWidth (AreOctetsOf width) (form ++ rest) found → found ≡ Some (length form)
    at form rest None is finds = absurd (finds form rest is refl)
    at form rest (Some n) is finds = ap Some (sym (length-take-le n (form ++ rest) finds.0) ∙ finds.1.0 ∙ sym is.0)

word_is_form : {V : Type 0} (width : ℕ) (valid : V → Type 0) (spells : List ℕ → V → Type 0) (reason : List ℕ → ErrorKind → Type 0) (wire : V → List ℕ) (printed : List ℕ → List ℕ)
    → IsWordKind width valid spells wire printed → IsFieldForm (word_form width valid spells reason wire printed)
word_is_form {V} width valid spells reason wire printed k = record {
  are_wire = λ quoted text octets values h. subst (AreOctetsOf width) (sym h.1.3) (k.sized h.1.0 h.1.1);
  back = λ octets h. (refl, k.spelled octets h);
  once = λ quoted text a b h j. h.1.3 ∙ k.once text h.1.0 j.1.0 h.1.2 j.1.2 ∙ sym j.1.3;
  begun = λ quoted text a b h j. no_more a b (h.1.3 ∙ k.once text h.1.0 j.1.0 h.1.2 j.1.2 ∙ sym j.1.3);
  in_front = of_one_width width;
}

string_is_form : IsFieldForm string_form
string_is_form = record {
  are_wire = λ quoted text octets values h. strings_spelled.spelled text octets values h;
  back = λ octets h. strings_spelled.back octets h;
  once = λ quoted text a b h j. strings_spelled.once text a b h j;
  begun = λ quoted text a b h j. no_more a b (strings_spelled.once text a b h j);
  in_front = strings_in_front;
}

-- ---- addresses of X25

-- digits print in quotes as they are
digit_as_it_is : (o : ℕ) → is_ascii_digit o ≡ true → spell (symbol_of is_quoted_escape o) ≡ o ∷ []
digit_as_it_is o digit = by (is_printable o) (is_quoted_escape o) refl refl
  where
    by : (p e : Bool) → is_printable o ≡ p → is_quoted_escape o ≡ e → spell (if p then (if e then SimpleEscape o else Char o) else DecimalEscape o) ≡ o ∷ []
    by true false shown plain = refl
    by true true shown is = absurd (let no : is_quoted_escape o ≡ false = Prim.grind (arith, nat_tests) in true≢false (sym is ∙ no))
    by false e is plain = absurd (let no : is_printable o ≡ true = Prim.grind (arith, nat_tests) in true≢false (sym no ∙ is))

digits_as_they_are : (digits : List ℕ) → list_all is_ascii_digit digits ≡ true → text_in_quotes digits ≡ digits
digits_as_they_are [] h = refl
digits_as_they_are (o ∷ os) h =
    let both = and_parts (is_ascii_digit o) (list_all is_ascii_digit os) h in
    ap (λ t. t ++ text_in_quotes os) (digit_as_it_is o both.0) ∙ ap (λ t. o ∷ t) (digits_as_they_are os both.1)

digit_values : (digits : List ℕ) → list_all is_ascii_digit digits ≡ true → AreOctetValues digits
digit_values [] h = All-nil (λ o. o < 256)
digit_values (o ∷ os) h =
    let both = and_parts (is_ascii_digit o) (list_all is_ascii_digit os) h in
    let digit = both.0 in
    let small : o < 256 = Prim.grind (arith, nat_tests) in
    All-cons (λ o. o < 256) o os small (digit_values os both.1)

pub psdn_address_is_string : (form : List ℕ) → IsWirePsdnAddress form → IsWireString form
psdn_address_is_string form h = record { octets = h.digits; values = digit_values h.digits h.is_address.digital; short = h.is_address.short; whole = h.whole }

-- what follows the first of `width` octets
behind_first : (octets : List ℕ) (width : ℕ) → take (width - 1) (drop 1 octets) ≡ drop 1 (take width octets)
behind_first octets zero = refl
behind_first [] (suc width) = take-nil (suc width - 1)
behind_first (o ∷ os) (suc width) = let n : suc width - 1 ≡ width = omega arith in ap (λ m. take m os) n

-- octets that begin with a character string of such digits begin with an address
pub psdn_address_front : (octets : List ℕ) (width : ℕ) → FindsWidth IsWireString octets (Some width) → IsPsdnAddress (take (width - 1) (drop 1 octets)) → FindsWidth IsWirePsdnAddress octets (Some width)
psdn_address_front octets width h is =
    let s = h.1 in
    (h.0, record { digits = s.octets; is_address = subst IsPsdnAddress (behind_first octets width ∙ ap (drop 1) s.whole) is; whole = s.whole })

-- octets that begin with no character string, or one of other octets, begin with no address
pub no_psdn_string : (octets : List ℕ) → FindsWidth IsWireString octets None → FindsWidth IsWirePsdnAddress octets None
no_psdn_string octets h form rest is = h form rest (psdn_address_is_string form is)

pub no_psdn_digits : (octets : List ℕ) (width : ℕ) → FindsWidth IsWireString octets (Some width) → (IsPsdnAddress (take (width - 1) (drop 1 octets)) → ⊥) → FindsWidth IsWirePsdnAddress octets None
no_psdn_digits octets width h none form rest is whole =
    let there : Some width ≡ Some (length form) = strings_in_front.width form rest (Some width) (psdn_address_is_string form is) (subst (λ o. FindsWidth IsWireString o (Some width)) whole h) in
    let same : width ≡ length form = cc there in
    let front : take width octets ≡ form = ap (λ n. take n octets) same ∙ ap (take (length form)) whole ∙ take-append_seam form rest in
    none (subst IsPsdnAddress (sym (behind_first octets width ∙ ap (drop 1) front ∙ ap (drop 1) is.whole)) is.is_address)

psdn_address_at : (form rest : List ℕ) (found : Option ℕ) → IsWirePsdnAddress form → FindsWidth IsWirePsdnAddress (form ++ rest) found → found ≡ Some (length form)
psdn_address_at form rest None is finds = absurd (finds form rest is refl)
psdn_address_at form rest (Some width) is finds =
    strings_in_front.width form rest (Some width) (psdn_address_is_string form is) (finds.0, psdn_address_is_string (take width (form ++ rest)) finds.1)

psdn_address_is_form : IsFieldForm psdn_address_form
psdn_address_is_form = record {
  are_wire = λ quoted text octets values h. record { digits = text; is_address = h.0; whole = h.1 };
  back = λ form h.
      let as_it_is : string_in_quotes form ≡ h.digits = ap string_in_quotes h.whole ∙ digits_as_they_are h.digits h.is_address.digital in
      (subst IsPsdnAddress (sym as_it_is) h.is_address, h.whole ∙ ap (λ t. length t ∷ t) (sym as_it_is));
  once = λ quoted text a b h j. h.1 ∙ sym j.1;
  begun = λ quoted text a b h j. no_more a b (h.1 ∙ sym j.1);
  in_front = record { width = psdn_address_at };
}

tag_is_form : IsFieldForm tag_form
tag_is_form = record {
  are_wire = λ quoted text octets values h. tags_spelled.spelled text octets values h.1;
  back = λ octets h. (refl, tags_spelled.back octets h);
  once = λ quoted text a b h j. tags_spelled.once text a b h.1 j.1;
  begun = λ quoted text a b h j. no_more a b (tags_spelled.once text a b h.1 j.1);
  in_front = tags_in_front;
}

salt_values : (text octets : List ℕ) → SpellsSalt text octets → All (λ o. o < 256) octets
salt_values text octets (inl h) = subst (All (λ o. o < 256)) (sym h.1) (All-nil (λ o. o < 256))
salt_values text octets (inr h) = All-from_get_or (λ o. o < 256) octets 0 (λ k here. let pair = h.0.pairs k here in omega (arith, pair.high, pair.low, pair.value))

salt_short : (text octets : List ℕ) → SpellsSalt text octets → length octets ≤ 255
salt_short text octets (inl h) = subst (λ o. length o ≤ 255) (sym h.1) (omega arith)
salt_short text octets (inr h) = h.2

salt_once : (text a b : List ℕ) → SpellsWireSalt text a → SpellsWireSalt text b → a ≡ b
salt_once text a b h j = h.whole ∙ ap (λ o. length o ∷ o) (salts_are_kind.once text h.octets j.octets h.spelled j.spelled) ∙ sym j.whole

salt_is_form : IsFieldForm salt_form
salt_is_form = record {
  are_wire = λ quoted text octets values h. record { octets = h.1.octets; values = salt_values text h.1.octets h.1.spelled; short = salt_short text h.1.octets h.1.spelled; whole = h.1.whole };
  back = λ form h. (refl, record { octets = h.octets; spelled = subst (λ o. SpellsSalt (salt_text o) h.octets) (sym (ap (drop 1) h.whole)) (salts_are_kind.spelled h.octets (h.values, h.short)); whole = h.whole });
  once = λ quoted text a b h j. salt_once text a b h.1 j.1;
  begun = λ quoted text a b h j. no_more a b (salt_once text a b h.1 j.1);
  in_front = strings_in_front;
}

hash_is_string : (form : List ℕ) → IsWireHash form → IsWireString form
hash_is_string form h = record { octets = h.octets; values = h.values; short = h.short; whole = h.whole }

-- octets that begin with a character string of one octet or more begin with a hash
pub hash_front : (octets : List ℕ) (width : ℕ) → FindsWidth IsWireString octets (Some width) → 2 ≤ width → FindsWidth IsWireHash octets (Some width)
hash_front octets width h long =
    let s = h.1 in
    let size : width ≡ suc (length s.octets) = sym (length-take-le width octets h.0) ∙ ap length s.whole in
    (h.0, record { octets = s.octets; values = s.values; some = omega (arith, size, long); short = s.short; whole = s.whole })

-- octets that begin with no character string, or an empty one, begin with no hash
pub no_string_front : (octets : List ℕ) → FindsWidth IsWireString octets None → FindsWidth IsWireHash octets None
no_string_front octets h form rest is = h form rest (hash_is_string form is)

pub empty_front : (octets : List ℕ) (width : ℕ) → FindsWidth IsWireString octets (Some width) → width < 2 → FindsWidth IsWireHash octets None
empty_front octets width h short form rest is whole =
    let there : Some width ≡ Some (length form) = strings_in_front.width form rest (Some width) (hash_is_string form is) (subst (λ o. FindsWidth IsWireString o (Some width)) whole h) in
    let same : width ≡ length form = cc there in
    let size : length form ≡ suc (length is.octets) = ap length is.whole in
    omega (arith, same, size, is.some, short)

hash_at : (form rest : List ℕ) (found : Option ℕ) → IsWireHash form → FindsWidth IsWireHash (form ++ rest) found → found ≡ Some (length form)
hash_at form rest None is finds = absurd (finds form rest is refl)
hash_at form rest (Some width) is finds = strings_in_front.width form rest (Some width) (hash_is_string form is) (finds.0, hash_is_string (take width (form ++ rest)) finds.1)

is_base32hex : IsEncoding base32hex
is_base32hex = inr (inl refl)

hash_once : (text a b : List ℕ) → SpellsHash text a → SpellsHash text b → a ≡ b
hash_once text a b h j = h.wire_is ∙ ap (λ o. length o ∷ o) (spells_once base32hex is_base32hex text h.hash j.hash h.spelled j.spelled) ∙ sym j.wire_is

hash_is_form : IsFieldForm hash_form
hash_is_form = record {
  are_wire = λ quoted text octets values h. record { octets = h.1.hash; values = h.1.spelled.bytes; some = h.1.some; short = omega (arith, h.1.short); whole = h.1.wire_is };
  back = λ form h. (
    refl,
    record {
      hash = h.octets;
      spelled = subst (λ o. SpellsDigits base32hex (encoded base32hex o) h.octets) (sym (ap (drop 1) h.whole)) (printed_spells base32hex is_base32hex h.octets h.values);
      some = h.some;
      short = omega (arith, h.short);
      wire_is = h.whole;
    },
  );
  once = λ quoted text a b h j. hash_once text a b h.1 j.1;
  begun = λ quoted text a b h j. no_more a b (hash_once text a b h.1 j.1);
  in_front = record { width = hash_at };
}

name_is_form : (origin : Option (List (List ℕ))) → IsOrigin origin → IsFieldForm (name_form origin)
name_is_form origin is = let k = names_spelled origin is in record {
  are_wire = λ quoted text octets values h. k.spelled text octets values h.1;
  back = λ octets h. (refl, k.back octets h);
  once = λ quoted text a b h j. k.once text a b h.1 j.1;
  begun = λ quoted text a b h j. name_begun origin text a b h.1 j.1;
  in_front = names_in_front;
}

pub fields_are_forms : (origin : Option (List (List ℕ))) → IsOrigin origin → (f : Field) → IsFieldForm (field_form origin f)
fields_are_forms origin is OfNumber8 = word_is_form _ _ _ _ _ _ number8_is_kind
fields_are_forms origin is OfNumber16 = word_is_form _ _ _ _ _ _ number16_is_kind
fields_are_forms origin is OfNumber32 = word_is_form _ _ _ _ _ _ number32_is_kind
fields_are_forms origin is OfInterval = word_is_form _ _ _ _ _ _ interval_is_kind
fields_are_forms origin is OfIpv4 = word_is_form _ _ _ _ _ _ ipv4_is_word
fields_are_forms origin is OfIpv6 = word_is_form _ _ _ _ _ _ ipv6_is_word
fields_are_forms origin is OfRecordType = word_is_form _ _ _ _ _ _ type_is_word
fields_are_forms origin is OfSigType = word_is_form _ _ _ _ _ _ sig_type_is_word
fields_are_forms origin is OfAlgorithm = word_is_form _ _ _ _ _ _ algorithm_is_word
fields_are_forms origin is OfCertificateType = word_is_form _ _ _ _ _ _ certificate_is_word
fields_are_forms origin is OfSyncScheme = word_is_form _ _ _ _ _ _ scheme_is_word
fields_are_forms origin is OfEui48 = word_is_form _ _ _ _ _ _ eui48_is_word
fields_are_forms origin is OfEui64 = word_is_form _ _ _ _ _ _ eui64_is_word
fields_are_forms origin is OfTime = word_is_form _ _ _ _ _ _ date_is_word
fields_are_forms origin is OfLocator = word_is_form _ _ _ _ _ _ locator_is_word
fields_are_forms origin is OfString = string_is_form
fields_are_forms origin is OfPsdnAddress = psdn_address_is_form
fields_are_forms origin is OfTag = tag_is_form
fields_are_forms origin is OfSalt = salt_is_form
fields_are_forms origin is OfHash = hash_is_form
fields_are_forms origin is OfName = name_is_form origin is

-- a token spells one field, whatever the origin is
pub fields_once : (origin : Option (List (List ℕ))) (f : Field) (quoted : Bool) (text a b : List ℕ) → (field_form origin f).spells quoted text a → (field_form origin f).spells quoted text b → a ≡ b
fields_once origin OfNumber8 quoted text a b h k = (fields_are_forms None tt OfNumber8).once quoted text a b h k
fields_once origin OfNumber16 quoted text a b h k = (fields_are_forms None tt OfNumber16).once quoted text a b h k
fields_once origin OfNumber32 quoted text a b h k = (fields_are_forms None tt OfNumber32).once quoted text a b h k
fields_once origin OfInterval quoted text a b h k = (fields_are_forms None tt OfInterval).once quoted text a b h k
fields_once origin OfIpv4 quoted text a b h k = (fields_are_forms None tt OfIpv4).once quoted text a b h k
fields_once origin OfIpv6 quoted text a b h k = (fields_are_forms None tt OfIpv6).once quoted text a b h k
fields_once origin OfRecordType quoted text a b h k = (fields_are_forms None tt OfRecordType).once quoted text a b h k
fields_once origin OfSigType quoted text a b h k = (fields_are_forms None tt OfSigType).once quoted text a b h k
fields_once origin OfAlgorithm quoted text a b h k = (fields_are_forms None tt OfAlgorithm).once quoted text a b h k
fields_once origin OfCertificateType quoted text a b h k = (fields_are_forms None tt OfCertificateType).once quoted text a b h k
fields_once origin OfSyncScheme quoted text a b h k = (fields_are_forms None tt OfSyncScheme).once quoted text a b h k
fields_once origin OfEui48 quoted text a b h k = (fields_are_forms None tt OfEui48).once quoted text a b h k
fields_once origin OfEui64 quoted text a b h k = (fields_are_forms None tt OfEui64).once quoted text a b h k
fields_once origin OfTime quoted text a b h k = (fields_are_forms None tt OfTime).once quoted text a b h k
fields_once origin OfLocator quoted text a b h k = (fields_are_forms None tt OfLocator).once quoted text a b h k
fields_once origin OfString quoted text a b h k = (fields_are_forms None tt OfString).once quoted text a b h k
fields_once origin OfPsdnAddress quoted text a b h k = (fields_are_forms None tt OfPsdnAddress).once quoted text a b h k
fields_once origin OfTag quoted text a b h k = (fields_are_forms None tt OfTag).once quoted text a b h k
fields_once origin OfSalt quoted text a b h k = (fields_are_forms None tt OfSalt).once quoted text a b h k
fields_once origin OfHash quoted text a b h k = (fields_are_forms None tt OfHash).once quoted text a b h k
fields_once origin OfName quoted text a b h k = name_once origin text a b h.1 k.1

-- and a beginning of it no more octets
pub fields_begun : (origin : Option (List (List ℕ))) (f : Field) (quoted : Bool) (text a b : List ℕ) → (field_form origin f).begins quoted text a → (field_form origin f).spells quoted text b → length a ≤ length b
fields_begun origin OfNumber8 quoted text a b h k = (fields_are_forms None tt OfNumber8).begun quoted text a b h k
fields_begun origin OfNumber16 quoted text a b h k = (fields_are_forms None tt OfNumber16).begun quoted text a b h k
fields_begun origin OfNumber32 quoted text a b h k = (fields_are_forms None tt OfNumber32).begun quoted text a b h k
fields_begun origin OfInterval quoted text a b h k = (fields_are_forms None tt OfInterval).begun quoted text a b h k
fields_begun origin OfIpv4 quoted text a b h k = (fields_are_forms None tt OfIpv4).begun quoted text a b h k
fields_begun origin OfIpv6 quoted text a b h k = (fields_are_forms None tt OfIpv6).begun quoted text a b h k
fields_begun origin OfRecordType quoted text a b h k = (fields_are_forms None tt OfRecordType).begun quoted text a b h k
fields_begun origin OfSigType quoted text a b h k = (fields_are_forms None tt OfSigType).begun quoted text a b h k
fields_begun origin OfAlgorithm quoted text a b h k = (fields_are_forms None tt OfAlgorithm).begun quoted text a b h k
fields_begun origin OfCertificateType quoted text a b h k = (fields_are_forms None tt OfCertificateType).begun quoted text a b h k
fields_begun origin OfSyncScheme quoted text a b h k = (fields_are_forms None tt OfSyncScheme).begun quoted text a b h k
fields_begun origin OfEui48 quoted text a b h k = (fields_are_forms None tt OfEui48).begun quoted text a b h k
fields_begun origin OfEui64 quoted text a b h k = (fields_are_forms None tt OfEui64).begun quoted text a b h k
fields_begun origin OfTime quoted text a b h k = (fields_are_forms None tt OfTime).begun quoted text a b h k
fields_begun origin OfLocator quoted text a b h k = (fields_are_forms None tt OfLocator).begun quoted text a b h k
fields_begun origin OfString quoted text a b h k = (fields_are_forms None tt OfString).begun quoted text a b h k
fields_begun origin OfPsdnAddress quoted text a b h k = (fields_are_forms None tt OfPsdnAddress).begun quoted text a b h k
fields_begun origin OfTag quoted text a b h k = (fields_are_forms None tt OfTag).begun quoted text a b h k
fields_begun origin OfSalt quoted text a b h k = (fields_are_forms None tt OfSalt).begun quoted text a b h k
fields_begun origin OfHash quoted text a b h k = (fields_are_forms None tt OfHash).begun quoted text a b h k
fields_begun origin OfName quoted text a b h k = name_begun origin text a b h.1 k.1
