-- The kinds of fields that are one token.
use Rattle.std.specs.Prelude.{ℕ, List, Option, ◌≡◌, ◌<◌, ◌^◌, ◌∷◌, [], decimal, slice_index}
use Rattle.std.specs.Int.{to_be_bytes, from_be_bytes, w16, w32}
use Rattle.std.specs.Net.Addr.{ipv4_octets, ipv6_octets, segments_of, IsIpv4Addr, IsIpv6Addr}
use Rattle.std.specs.Net.Grammar.{IsIpv4Text, IsIpv6Text}
use Rattle.std.specs.Net.Text.{ipv4_text}
use Rattle.rdata_values.specs.Addresses.{shown_ipv6}
use Rattle.rdata_values.specs.Algorithms.{SpellsAlgorithm, SpellsCertificate, certificate_text}
use Rattle.rdata_values.specs.Eui.{AreEuiOctets, SpellsEui48, SpellsEui64, dashed_text}
use Rattle.rdata_values.specs.Locator.{SpellsLocator, locator_text}
use Rattle.rdata_values.specs.Schemes.{SpellsScheme, scheme_text}
use Rattle.rdata_values.specs.Time.{IsDate, SpellsDate, seconds_at, date_at, date_text}
use Rattle.rdata_values.specs.Ttl.{SpellsInterval}
use Rattle.rdata_values.specs.Types.{SpellsPortable, portable_text, SpellsSigType, sig_type_text}
use Rattle.rdata_values.specs.declared.addresses.Ipv6Shown.{Ipv6Shown}
use Rattle.rdata_values.specs.declared.error.ErrorKind.TheVariants.{ExpectedIpv4, ExpectedIpv6, ExpectedInterval, UnknownType, UnknownAlgorithm, UnknownCertificate, UnknownScheme, ExpectedEui48, ExpectedEui64, ExpectedTime, ExpectedLocator}
use Rattle.rdata_fields.specs.declared.field.Field.{Field}
use Rattle.rdata_fields.specs.declared.field.Field.TheVariants.{Number8 as OfNumber8, Number16 as OfNumber16, Number32 as OfNumber32, Interval as OfInterval, Ipv4 as OfIpv4, Ipv6 as OfIpv6, RecordType as OfRecordType, SigType as OfSigType, Algorithm as OfAlgorithm, CertificateType as OfCertificateType, SyncScheme as OfSyncScheme, Eui48 as OfEui48, Eui64 as OfEui64, Time as OfTime, Locator as OfLocator, String as OfString, PsdnAddress as OfPsdnAddress, Tag as OfTag, Salt as OfSalt, Hash as OfHash, Name as OfName}
use Rattle.rdata_fields.specs.declared.words.Interval.{Interval as Seconds}
use Rattle.rdata_tokens.specs.NameSpelling.{IsOrigin}
use Rattle.rdata_fields.specs.Forms.{FieldForm, IsFieldForm, word_form, string_form, psdn_address_form, tag_form, salt_form, hash_form, name_form}
use Rattle.rdata_fields.specs.Words.{SpellsBelow, NumberReason}

-- the form of each kind, in which the origin is appended to relative names
abbrev pub field_form : Option (List (List ℕ)) → Field → FieldForm
field_form origin OfNumber8 = word_form 1 (λ n. n < 2 ^ 8) (SpellsBelow (2 ^ 8)) (NumberReason (2 ^ 8)) (λ n. n ∷ []) (λ octets. decimal (slice_index octets 0))
field_form origin OfNumber16 = word_form 2 (λ n. n < 2 ^ 16) (SpellsBelow (2 ^ 16)) (NumberReason (2 ^ 16)) (to_be_bytes w16) (λ octets. decimal (from_be_bytes w16 octets))
field_form origin OfNumber32 = word_form 4 (λ n. n < 2 ^ 32) (SpellsBelow (2 ^ 32)) (NumberReason (2 ^ 32)) (to_be_bytes w32) (λ octets. decimal (from_be_bytes w32 octets))
field_form origin OfInterval = word_form 4 (λ (n : Seconds). n.0 < 2 ^ 32) (λ text n. SpellsInterval text n.0) (λ _ e. e ≡ ExpectedInterval) (λ n. to_be_bytes w32 n.0) (λ octets. decimal (from_be_bytes w32 octets))
field_form origin OfIpv4 = word_form 4 IsIpv4Addr IsIpv4Text (λ _ e. e ≡ ExpectedIpv4) ipv4_octets ipv4_text
field_form origin OfIpv6 = word_form 16 (λ (a : Ipv6Shown). IsIpv6Addr a.0) (λ text a. IsIpv6Text text a.0) (λ _ e. e ≡ ExpectedIpv6) (λ a. ipv6_octets a.0) (λ octets. shown_ipv6 (segments_of octets))
field_form origin OfRecordType = word_form 2 (λ t. t.0 < 2 ^ 16) SpellsPortable (λ _ e. e ≡ UnknownType) (λ t. to_be_bytes w16 t.0) (λ octets. portable_text (from_be_bytes w16 octets))
field_form origin OfSigType = word_form 2 (λ t. t.0 < 2 ^ 16) SpellsSigType (λ _ e. e ≡ UnknownType) (λ t. to_be_bytes w16 t.0) (λ octets. sig_type_text (from_be_bytes w16 octets))
field_form origin OfAlgorithm = word_form 1 (λ a. a.0 < 2 ^ 8) SpellsAlgorithm (λ _ e. e ≡ UnknownAlgorithm) (λ a. a.0 ∷ []) (λ octets. decimal (slice_index octets 0))
field_form origin OfCertificateType = word_form 2 (λ t. t.0 < 2 ^ 16) SpellsCertificate (λ _ e. e ≡ UnknownCertificate) (λ t. to_be_bytes w16 t.0) (λ octets. certificate_text (record { 0 = from_be_bytes w16 octets }))
field_form origin OfSyncScheme = word_form 1 (λ s. s.0 < 2 ^ 8) SpellsScheme (λ _ e. e ≡ UnknownScheme) (λ s. s.0 ∷ []) (λ octets. scheme_text (record { 0 = slice_index octets 0 }))
field_form origin OfEui48 = word_form 6 (λ e. AreEuiOctets 6 e.0) SpellsEui48 (λ _ e. e ≡ ExpectedEui48) (λ e. e.0) dashed_text
field_form origin OfEui64 = word_form 8 (λ e. AreEuiOctets 8 e.0) SpellsEui64 (λ _ e. e ≡ ExpectedEui64) (λ e. e.0) dashed_text
field_form origin OfTime = word_form 4 (λ d. IsDate d × (seconds_at d < 2 ^ 32)) SpellsDate (λ _ e. e ≡ ExpectedTime) (λ d. to_be_bytes w32 (seconds_at d)) (λ octets. date_text (date_at (from_be_bytes w32 octets)))
field_form origin OfLocator = word_form 8 (λ l. AreEuiOctets 8 l.0) SpellsLocator (λ _ e. e ≡ ExpectedLocator) (λ l. l.0) locator_text
field_form origin OfString = string_form
field_form origin OfPsdnAddress = psdn_address_form
field_form origin OfTag = tag_form
field_form origin OfSalt = salt_form
field_form origin OfHash = hash_form
field_form origin OfName = name_form origin

-- each kind of field is spelled, printed and found as its form defines
abbrev pub AreFieldForms : Type 0
AreFieldForms = (origin : Option (List (List ℕ))) → IsOrigin origin → (f : Field) → IsFieldForm (field_form origin f)
