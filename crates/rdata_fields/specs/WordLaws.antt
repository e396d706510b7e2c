-- Each kind of word has a constant length, and prints as a text that spells it alone.
use Rattle.std.proofs.Common.{ℕ, suc, zero, ◌≡◌, ◌<◌, ◌≤◌, ◌^◌, ◌*◌, ◌+◌, ◌/◌, ◌%◌, List, [], ◌∷◌, refl, sym, ap, subst, arith, ◌∙◌, decimal, length, slice_index, get_or}
use Rattle.std.specs.Prelude.{All}
use Rattle.std.specs.Int.{to_be_bytes, from_be_bytes, w16, w32}
use Rattle.std.specs.Net.Addr.{ipv4_octets, ipv6_octets, ipv6_segments, segments_of, octets_of, IsIpv4Addr, IsIpv6Addr}
use Rattle.std.specs.Net.Grammar.{IsIpv4Text, IsIpv6Text}
use Rattle.std.specs.Net.Text.{ipv4_text}
use Rattle.std.proofs.lemmas.List.Elements.{All-from_recursion, recursion_from_All, All-from_get_or, All-nil}
use Rattle.std.proofs.lemmas.Nat.{be_bytes_4}
use Rattle.std.proofs.lemmas.Fmt.{decimal_is_IsNumeral}
use Rattle.rdata_values.specs.Kind.{IsKind}
use Rattle.rdata_values.specs.Addresses.{shown_ipv6}
use Rattle.rdata_values.specs.Algorithms.{SpellsAlgorithm, SpellsCertificate, certificate_text}
use Rattle.rdata_values.specs.Eui.{AreEuiOctets, SpellsEui48, SpellsEui64, dashed_text}
use Rattle.rdata_values.specs.Locator.{SpellsLocator, locator_text}
use Rattle.rdata_values.specs.Schemes.{SpellsScheme, scheme_text}
use Rattle.rdata_values.specs.Time.{IsDate, SpellsDate, seconds_at, date_at, date_text}
use Rattle.rdata_values.specs.Ttl.{SpellsInterval}
use Rattle.rdata_values.specs.Types.{SpellsPortable, portable_text, SpellsSigType, sig_type_text}
use Rattle.rdata_values.specs.declared.addresses.Ipv6Shown.{Ipv6Shown}
use Rattle.rdata_values.proofs.AddressLaws.{ipv4_is_kind, ipv6_is_kind}
use Rattle.rdata_values.proofs.CodeLaws.{portable_types_are_kind, sig_types_are_kind, algorithms_are_kind, certificates_are_kind}
use Rattle.rdata_values.proofs.DateLaws.{dates_are_kind}
use Rattle.rdata_values.proofs.DatesAt.{seconds_have_dates}
use Rattle.rdata_values.proofs.LocatorLaws.{locators_are_kind}
use Rattle.rdata_values.proofs.EuiLaws.{euis_are_kind}
use Rattle.rdata_values.proofs.SchemeLaws.{schemes_are_kind}
use Rattle.rdata_values.proofs.TtlLaws.{intervals_are_kind}
use Rattle.rdata_fields.specs.declared.words.Interval.{Interval}
use Rattle.rdata_fields.specs.Words.{IsWordKind, SpellsBelow, SpellsAs, AreOctetsOf}

abbrev IsOctet : ℕ → Type 0
IsOctet o = o < 256

octets8 : (n : ℕ) → n < 2 ^ 8 → AreOctetsOf 1 (n ∷ [])
octets8 n small = (refl, All-from_recursion IsOctet (n ∷ []) (omega (arith, small), tt))

octets16 : (n : ℕ) → AreOctetsOf 2 (to_be_bytes w16 n)
octets16 n = (refl, All-from_recursion IsOctet (to_be_bytes w16 n) (omega arith, (omega arith, tt)))

octets32 : (n : ℕ) → AreOctetsOf 4 (to_be_bytes w32 n)
octets32 n = (refl, All-from_recursion IsOctet (to_be_bytes w32 n) (omega arith, (omega arith, (omega arith, (omega arith, tt)))))

-- each element of octets is an octet
octet_at : (octets : List ℕ) → All IsOctet octets → (k : ℕ) → get_or octets k 0 < 256
octet_at [] h k = omega arith
octet_at (o ∷ os) h zero = (recursion_from_All IsOctet (o ∷ os) h).0
octet_at (o ∷ os) h (suc k) = octet_at os (All-from_recursion IsOctet os (recursion_from_All IsOctet (o ∷ os) h).1) k

-- octets are those of a number
abbrev IsNumberOf : ℕ → (ℕ → List ℕ) → List ℕ → ℕ → Type 0
IsNumberOf limit wire octets n = (n < limit) × (octets ≡ wire n)

number8_of : (octets : List ℕ) → AreOctetsOf 1 octets → IsNumberOf (2 ^ 8) (λ n. n ∷ []) octets (slice_index octets 0)
number8_of [] h = absurd (omega (arith, h.0))
number8_of (a ∷ []) h = let small = recursion_from_All IsOctet (a ∷ []) h.1 in (small.0, refl)
number8_of (a ∷ b ∷ _) h = absurd (omega (arith, h.0))

number16_of : (octets : List ℕ) → AreOctetsOf 2 octets → IsNumberOf (2 ^ 16) (to_be_bytes w16) octets (from_be_bytes w16 octets)
number16_of [] h = absurd (omega (arith, h.0))
number16_of (a ∷ []) h = absurd (omega (arith, h.0))
number16_of (a ∷ b ∷ []) h =
    let small = recursion_from_All IsOctet (a ∷ b ∷ []) h.1 in
    let first : a ≡ (a * 256 + b) / 256 % 256 = omega (arith, small.0, small.1.0) in
    let second : b ≡ (a * 256 + b) % 256 = omega (arith, small.0, small.1.0) in
    (omega (arith, small.0, small.1.0), λ i. first i ∷ second i ∷ [])
number16_of (a ∷ b ∷ c ∷ _) h = absurd (omega (arith, h.0))

number32_of : (octets : List ℕ) → AreOctetsOf 4 octets → IsNumberOf (2 ^ 32) (to_be_bytes w32) octets (from_be_bytes w32 octets)
number32_of [] h = absurd (omega (arith, h.0))
number32_of (a ∷ []) h = absurd (omega (arith, h.0))
number32_of (a ∷ b ∷ []) h = absurd (omega (arith, h.0))
number32_of (a ∷ b ∷ c ∷ []) h = absurd (omega (arith, h.0))
number32_of (a ∷ b ∷ c ∷ d ∷ []) h =
    let small = recursion_from_All IsOctet (a ∷ b ∷ c ∷ d ∷ []) h.1 in
    let few : from_be_bytes w32 (a ∷ b ∷ c ∷ d ∷ []) < 2 ^ 32 = omega (arith, small.0, small.1.0, small.1.1.0, small.1.1.1.0) in
    (few, sym (be_bytes_4 (a ∷ b ∷ c ∷ d ∷ []) (from_be_bytes w32 (a ∷ b ∷ c ∷ d ∷ [])) refl (octet_at (a ∷ b ∷ c ∷ d ∷ []) h.1) refl))
number32_of (a ∷ b ∷ c ∷ d ∷ e ∷ _) h = absurd (omega (arith, h.0))

-- the octets of a number that prints in decimal
in_decimal : (limit n : ℕ) (wire : ℕ → List ℕ) (octets : List ℕ) → limit ≤ 2 ^ 64 → IsNumberOf limit wire octets n → SpellsAs (λ n. n < limit) (SpellsBelow limit) wire (decimal n) octets
in_decimal limit n wire octets wide h =
    let d = decimal_is_IsNumeral n (omega (arith, h.0, wide)) in (n, h.0, ((d.0, sym d.1), h.0), h.1)

pub number8_is_kind : IsWordKind 1 (λ n. n < 2 ^ 8) (SpellsBelow (2 ^ 8)) (λ n. n ∷ []) (λ octets. decimal (slice_index octets 0))
number8_is_kind = record {
  sized = octets8;
  spelled = λ octets h. in_decimal (2 ^ 8) (slice_index octets 0) (λ n. n ∷ []) octets (omega arith) (number8_of octets h);
  once = λ text v w h k. ap (λ n. n ∷ []) (h.0.1 ∙ sym k.0.1);
}

pub number16_is_kind : IsWordKind 2 (λ n. n < 2 ^ 16) (SpellsBelow (2 ^ 16)) (to_be_bytes w16) (λ octets. decimal (from_be_bytes w16 octets))
number16_is_kind = record {
  sized = λ n small. octets16 n;
  spelled = λ octets h. in_decimal (2 ^ 16) (from_be_bytes w16 octets) (to_be_bytes w16) octets (omega arith) (number16_of octets h);
  once = λ text v w h k. ap (to_be_bytes w16) (h.0.1 ∙ sym k.0.1);
}

pub number32_is_kind : IsWordKind 4 (λ n. n < 2 ^ 32) (SpellsBelow (2 ^ 32)) (to_be_bytes w32) (λ octets. decimal (from_be_bytes w32 octets))
number32_is_kind = record {
  sized = λ n small. octets32 n;
  spelled = λ octets h. in_decimal (2 ^ 32) (from_be_bytes w32 octets) (to_be_bytes w32) octets (omega arith) (number32_of octets h);
  once = λ text v w h k. ap (to_be_bytes w32) (h.0.1 ∙ sym k.0.1);
}

-- a kind whose values are those of `width` octets is a kind of word
of_kind : {V : Type 0} (width : ℕ) (valid : V → Type 0) (spells : List ℕ → V → Type 0) (text : V → List ℕ) (wire : V → List ℕ) (of : List ℕ → V) → IsKind valid spells text
    → ((v : V) → valid v → AreOctetsOf width (wire v)) → ((octets : List ℕ) → AreOctetsOf width octets → valid (of octets) × (octets ≡ wire (of octets)))
    → IsWordKind width valid spells wire (λ octets. text (of octets))
of_kind width valid spells text wire of kind sized back = record {
  sized = sized;
  spelled = λ octets h. let is = back octets h in (of octets, is.0, kind.spelled (of octets) is.0, is.1);
  once = λ t v w h k. ap wire (kind.once t v w h k);
}

pub interval_is_kind : IsWordKind 4 (λ (n : Interval). n.0 < 2 ^ 32) (λ text n. SpellsInterval text n.0) (λ n. to_be_bytes w32 n.0) (λ octets. decimal (from_be_bytes w32 octets))
interval_is_kind = record {
  sized = λ n small. octets32 n.0;
  spelled = λ octets h. let n = from_be_bytes w32 octets in let is = number32_of octets h in (record { 0 = n }, is.0, intervals_are_kind.spelled n is.0, is.1);
  once = λ text v w h k. ap (to_be_bytes w32) (intervals_are_kind.once text v.0 w.0 h k);
}

pub ipv4_is_word : IsWordKind 4 IsIpv4Addr IsIpv4Text ipv4_octets ipv4_text
ipv4_is_word = of_kind 4 IsIpv4Addr IsIpv4Text (λ a. ipv4_text (ipv4_octets a)) ipv4_octets (λ octets. record { octets = octets }) ipv4_is_kind (λ a h. (h.0, All-from_get_or IsOctet (ipv4_octets a) 0 (λ k _. h.1 k)))
    (λ octets h. ((h.0, octet_at octets h.1), refl))

-- the list is `count` segments
abbrev AreSegmentsOf : ℕ → List ℕ → Type 0
AreSegmentsOf count segments = (length segments ≡ count) × ((k : ℕ) → slice_index segments k < 2 ^ 16)

pub segments_back : (count : ℕ) (octets : List ℕ) → AreOctetsOf (2 * count) octets → octets_of (segments_of octets) ≡ octets
segments_back count [] h = refl
segments_back zero (a ∷ os) h = absurd (omega (arith, h.0))
segments_back (suc count) (a ∷ []) h = absurd (omega (arith, h.0))
segments_back (suc count) (a ∷ b ∷ os) h =
    let small = recursion_from_All IsOctet (a ∷ b ∷ os) h.1 in
    let rest = segments_back count os (omega (arith, h.0), All-from_recursion IsOctet os small.1.1) in
    let first : (a * 256 + b) / 256 ≡ a = omega (arith, small.0, small.1.0) in
    let second : (a * 256 + b) % 256 ≡ b = omega (arith, small.0, small.1.0) in
    λ i. first i ∷ second i ∷ rest i

segments_are : (count : ℕ) (octets : List ℕ) → AreOctetsOf (2 * count) octets → AreSegmentsOf count (segments_of octets)
segments_are zero [] h = (refl, λ k. omega arith)
segments_are (suc count) [] h = absurd (omega (arith, h.0))
segments_are zero (a ∷ os) h = absurd (omega (arith, h.0))
segments_are (suc count) (a ∷ []) h = absurd (omega (arith, h.0))
segments_are (suc count) (a ∷ b ∷ os) h =
    let small = recursion_from_All IsOctet (a ∷ b ∷ os) h.1 in
    let rest = segments_are count os (omega (arith, h.0), All-from_recursion IsOctet os small.1.1) in
    (omega (arith, rest.0), λ k. at rest k small.0 small.1.0)
  where
    at : AreSegmentsOf count (segments_of os) → (k : ℕ) → a < 256 → b < 256 → slice_index ((a * 256 + b) ∷ segments_of os) k < 2 ^ 16
    at rest zero high low = omega (arith, high, low)
    at rest (suc k) high low = rest.1 k

octets_are : (count : ℕ) (segments : List ℕ) → AreSegmentsOf count segments → AreOctetsOf (2 * count) (octets_of segments)
octets_are zero [] h = (refl, All-nil IsOctet)
octets_are (suc count) [] h = absurd (omega (arith, h.0))
octets_are zero (s ∷ ss) h = absurd (omega (arith, h.0))
octets_are (suc count) (s ∷ ss) h =
    let rest = octets_are count ss (omega (arith, h.0), λ k. h.1 (suc k)) in
    let few = h.1 0 in
    (omega (arith, rest.0), All-from_recursion IsOctet (octets_of (s ∷ ss)) (omega (arith, few), (omega arith, recursion_from_All IsOctet (octets_of ss) rest.1)))

pub ipv6_is_word : IsWordKind 16 (λ (a : Ipv6Shown). IsIpv6Addr a.0) (λ text a. IsIpv6Text text a.0) (λ a. ipv6_octets a.0) (λ octets. shown_ipv6 (segments_of octets))
ipv6_is_word = record {
  sized = λ a h. octets_are 8 (ipv6_segments a.0) h;
  spelled = λ octets h. let is = segments_are 8 octets h in (address octets, is, ipv6_is_kind.spelled (record { segments = segments_of octets }) is, sym (segments_back 8 octets h));
  once = λ text v w h k. ap ipv6_octets (ipv6_is_kind.once text v.0 w.0 h k);
}
  where
    address : List ℕ → Ipv6Shown
    address octets = record { 0 = record { segments = segments_of octets } }

pub type_is_word : IsWordKind 2 (λ t. t.0 < 2 ^ 16) SpellsPortable (λ t. to_be_bytes w16 t.0) (λ octets. portable_text (from_be_bytes w16 octets))
type_is_word = of_kind 2 (λ t. t.0 < 2 ^ 16) SpellsPortable (λ t. portable_text t.0) (λ t. to_be_bytes w16 t.0) (λ octets. record { 0 = from_be_bytes w16 octets }) portable_types_are_kind (λ t small. octets16 t.0) number16_of

pub sig_type_is_word : IsWordKind 2 (λ t. t.0 < 2 ^ 16) SpellsSigType (λ t. to_be_bytes w16 t.0) (λ octets. sig_type_text (from_be_bytes w16 octets))
sig_type_is_word = of_kind 2 (λ t. t.0 < 2 ^ 16) SpellsSigType (λ t. sig_type_text t.0) (λ t. to_be_bytes w16 t.0) (λ octets. record { 0 = from_be_bytes w16 octets }) sig_types_are_kind (λ t small. octets16 t.0) number16_of

pub certificate_is_word : IsWordKind 2 (λ t. t.0 < 2 ^ 16) SpellsCertificate (λ t. to_be_bytes w16 t.0) (λ octets. certificate_text (record { 0 = from_be_bytes w16 octets }))
certificate_is_word = of_kind 2 (λ t. t.0 < 2 ^ 16) SpellsCertificate certificate_text (λ t. to_be_bytes w16 t.0) (λ octets. record { 0 = from_be_bytes w16 octets }) certificates_are_kind (λ t small. octets16 t.0) number16_of

pub algorithm_is_word : IsWordKind 1 (λ a. a.0 < 2 ^ 8) SpellsAlgorithm (λ a. a.0 ∷ []) (λ octets. decimal (slice_index octets 0))
algorithm_is_word = of_kind 1 (λ a. a.0 < 2 ^ 8) SpellsAlgorithm (λ a. decimal a.0) (λ a. a.0 ∷ []) (λ octets. record { 0 = slice_index octets 0 }) algorithms_are_kind (λ a small. octets8 a.0 small) number8_of

pub scheme_is_word : IsWordKind 1 (λ s. s.0 < 2 ^ 8) SpellsScheme (λ s. s.0 ∷ []) (λ octets. scheme_text (record { 0 = slice_index octets 0 }))
scheme_is_word = of_kind 1 (λ s. s.0 < 2 ^ 8) SpellsScheme scheme_text (λ s. s.0 ∷ []) (λ octets. record { 0 = slice_index octets 0 }) schemes_are_kind (λ s small. octets8 s.0 small) number8_of

pub eui48_is_word : IsWordKind 6 (λ e. AreEuiOctets 6 e.0) SpellsEui48 (λ e. e.0) dashed_text
eui48_is_word = of_kind 6 (λ e. AreEuiOctets 6 e.0) SpellsEui48 (λ e. dashed_text e.0) (λ e. e.0) (λ octets. record { 0 = octets }) euis_are_kind.0 (λ e h. h) (λ octets h. (h, refl))

pub eui64_is_word : IsWordKind 8 (λ e. AreEuiOctets 8 e.0) SpellsEui64 (λ e. e.0) dashed_text
eui64_is_word = of_kind 8 (λ e. AreEuiOctets 8 e.0) SpellsEui64 (λ e. dashed_text e.0) (λ e. e.0) (λ octets. record { 0 = octets }) euis_are_kind.1 (λ e h. h) (λ octets h. (h, refl))

pub locator_is_word : IsWordKind 8 (λ l. AreEuiOctets 8 l.0) SpellsLocator (λ l. l.0) locator_text
locator_is_word = of_kind 8 (λ l. AreEuiOctets 8 l.0) SpellsLocator (λ l. locator_text l.0) (λ l. l.0) (λ octets. record { 0 = octets }) locators_are_kind (λ l h. h) (λ octets h. (h, refl))

pub date_is_word : IsWordKind 4 (λ d. IsDate d × (seconds_at d < 2 ^ 32)) SpellsDate (λ d. to_be_bytes w32 (seconds_at d)) (λ octets. date_text (date_at (from_be_bytes w32 octets)))
date_is_word = of_kind 4 (λ d. IsDate d × (seconds_at d < 2 ^ 32)) SpellsDate date_text (λ d. to_be_bytes w32 (seconds_at d)) (λ octets. date_at (from_be_bytes w32 octets)) dates_are_kind (λ d h. octets32 (seconds_at d)) back
  where
    back : (octets : List ℕ) → AreOctetsOf 4 octets → (IsDate (date_at (from_be_bytes w32 octets)) × (seconds_at (date_at (from_be_bytes w32 octets)) < 2 ^ 32)) × (octets ≡ to_be_bytes w32 (seconds_at (date_at (from_be_bytes w32 octets))))
    back octets h =
        let n = from_be_bytes w32 octets in
        let is = number32_of octets h in
        let same = seconds_have_dates.same n is.0 in
        ((seconds_have_dates.valid n is.0, subst (λ m. m < 2 ^ 32) (sym same) is.0), is.1 ∙ ap (to_be_bytes w32) (sym same))
