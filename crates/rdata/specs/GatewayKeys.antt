-- A gateway and a public key (IPSECKEY, RFC 4025 section 2.1), after the precedence.
use Rattle.std.specs.Prelude.{ℕ, zero, suc, ◌≡◌, ◌≢◌, ◌⊎◌, ◌<◌, ◌≤◌, ◌+◌, ◌==◌, if◌then◌else◌, true, false, Option, None, Result, Ok, Err, List, [], ◌∷◌, ◌++◌, drop, length, slice_index, codes}
use Rattle.std.specs.Net.Addr.{segments_of}
use Rattle.std.specs.Net.Text.{ipv4_text}
use Rattle.dns_octets.specs.Room.{Room}
use Rattle.rdata_tokens.specs.declared.kind.DigitsKind.TheVariants.{Base64 as InBase64}
use Rattle.rdata_fields.specs.Fields.{field_form}
use Rattle.rdata_fields.specs.Parsing.{BeginsField, SpellsField}
use Rattle.rdata_fields.specs.TokenParsers.{TokenParser}
use Rattle.rdata_values.specs.declared.error.ErrorKind.{ErrorKind}
use Rattle.rdata_values.specs.declared.error.ErrorKind.TheVariants.{EndOfEntry, Quoted, ExpectedGateway, UnknownGateway}
use Rattle.rdata_fields.specs.declared.field.Field.TheVariants.{Number8 as OfNumber8, Name as OfName}
use Rattle.rdata_values.specs.Addresses.{shown_ipv6}
use Rattle.rdata_tails.specs.Gateways.{IsGateway, gateway_type, SpellsGateway, gateway_octets}
use Rattle.rdata_tails.specs.declared.gateway.Gateway.{Gateway}
use Rattle.rdata_tokens.specs.NameSpelling.{IsWireName}
use Rattle.rdata_tokens.specs.PrintedNames.{wire_name_text}
use Rattle.dns_lexer.specs.EntryTokens.{TokenSeen}
use Rattle.rdata.specs.Digits.{digits_form}
use Rattle.rdata.specs.Rests.{RestForm, PrintedToken, ParsesInParts}
use Rattle.rdata.specs.TokenForms.{TokenForm, FieldReason, PartAfter, ParsesTokenAs, then_form}

abbrev pub plain_word : List ℕ → PrintedToken
plain_word text = record { is_quoted = false; text = text }

-- a number of 8 bits
abbrev pub octet_form : TokenForm
octet_form = record {
  spells = SpellsField None OfNumber8;
  begins = BeginsField None OfNumber8;
  reason = FieldReason None OfNumber8;
  is_wire = (field_form None OfNumber8).is_wire;
  width = λ octets. 1;
  printed = λ octets. plain_word ((field_form None OfNumber8).printed octets);
}

-- the number of 8 bits that a token names, or why it does not name one
abbrev pub ReadsOctet : TokenSeen → Result ℕ ErrorKind → Type 0
ReadsOctet t (Ok number) = octet_form.spells t (number ∷ [])
ReadsOctet t (Err e) = octet_form.reason t e × ((octets : List ℕ) → octet_form.spells t octets → ⊥)

-- why a token is not the type of a gateway: it is not a number; or the number is too great
abbrev pub GatewayTypeReason : TokenSeen → ErrorKind → Type 0
GatewayTypeReason t e = octet_form.reason t e ⊎ ((e ≡ UnknownGateway) × ((octets : List ℕ) × octet_form.spells t octets × (3 < slice_index octets 0)))

-- the type of a gateway: 0 for none, 1 for an IPv4 address, 2 for an IPv6 address, 3 for a name
abbrev pub gateway_type_form : TokenForm
gateway_type_form = record {
  spells = λ t octets. octet_form.spells t octets × (slice_index octets 0 ≤ 3);
  begins = λ t octets. octet_form.spells t octets × (slice_index octets 0 ≤ 3);
  reason = GatewayTypeReason;
  is_wire = λ octets. octet_form.is_wire octets × (slice_index octets 0 ≤ 3);
  width = octet_form.width;
  printed = octet_form.printed;
}

-- the type that a token names, or why it does not name one
abbrev pub ReadsGatewayType : TokenSeen → Result ℕ ErrorKind → Type 0
ReadsGatewayType t (Ok number) = gateway_type_form.spells t (number ∷ [])
ReadsGatewayType t (Err e) = GatewayTypeReason t e × ((octets : List ℕ) → gateway_type_form.spells t octets → ⊥)

-- the number that the next token spells is appended, and the token read; or it is rejected
abbrev pub ParsesNumberAs : TokenForm → Room → TokenParser ℕ
ParsesNumberAs f room end tokens old (Ok number) left new = (t : TokenSeen) × (tokens ≡ t ∷ left) × f.spells t (number ∷ []) × (new ≡ old ++ number ∷ [])
ParsesNumberAs f room end tokens old (Err r) left new = ParsesTokenAs room f.begins f.spells f.reason end tokens old (Err r) left new

-- the type of a gateway, and the algorithm of a key, parsed so
abbrev pub ParsesGatewayType : Room → TokenParser ℕ
ParsesGatewayType = ParsesNumberAs gateway_type_form

abbrev pub ParsesAlgorithm : Room → TokenParser ℕ
ParsesAlgorithm = ParsesNumberAs octet_form

-- ---- the gateway of a type

-- a word spells a gateway that is not a name
abbrev pub SpellsAddress : ℕ → TokenSeen → List ℕ → Type 0
SpellsAddress number t octets = (t.is_quoted ≡ false) × ((g : Gateway) × SpellsGateway number t.text g × (octets ≡ gateway_octets g))

-- why a token does not spell one: it is a quoted string, or a word that is not a gateway of the type
abbrev pub AddressReason : TokenSeen → ErrorKind → Type 0
AddressReason t e = ((e ≡ Quoted) × (t.is_quoted ≡ true)) ⊎ ((e ≡ ExpectedGateway) × (t.is_quoted ≡ false))

-- the next word is parsed as such a gateway; or it is rejected
abbrev pub ParsesGatewayAddress : Room → ℕ → TokenParser (Unit {0})
ParsesGatewayAddress room number = ParsesTokenAs room (SpellsAddress number) (SpellsAddress number) AddressReason

-- the octets of a gateway that is not a name
abbrev pub IsAddressOf : ℕ → List ℕ → Type 0
IsAddressOf number octets = (g : Gateway) × IsGateway g × (gateway_type g ≡ number) × (octets ≡ gateway_octets g)

-- the length in octets of the first labels, each after its length octet, up to the empty one and with it; at most `count` labels
abbrev pub labels_size : ℕ → List ℕ → ℕ
labels_size zero octets = 0
labels_size (suc count) [] = 0
labels_size (suc count) (zero ∷ octets) = 1
labels_size (suc count) (suc size ∷ octets) = 2 + size + labels_size count (drop (suc size) octets)

abbrev pub gateway_size : ℕ → List ℕ → ℕ
gateway_size number octets = if number == 0 then 0 else if number == 1 then 4 else if number == 2 then 16 else labels_size (length octets) octets

abbrev pub gateway_word : ℕ → List ℕ → List ℕ
gateway_word number octets = if number == 0 then codes "." else if number == 1 then ipv4_text octets else if number == 2 then shown_ipv6 (segments_of octets) else wire_name_text octets

-- a gateway as a word; the origin is appended to a relative name
abbrev pub gateway_form : Option (List (List ℕ)) → ℕ → TokenForm
gateway_form origin number = record {
  spells = λ t octets. ((number ≡ 3) × SpellsField origin OfName t octets) ⊎ SpellsAddress number t octets;
  begins = λ t octets. ((number ≡ 3) × BeginsField origin OfName t octets) ⊎ SpellsAddress number t octets;
  reason = λ t e. ((number ≡ 3) × FieldReason origin OfName t e) ⊎ ((number ≢ 3) × AddressReason t e);
  is_wire = λ octets. ((number ≡ 3) × IsWireName octets) ⊎ IsAddressOf number octets;
  width = gateway_size number;
  printed = λ octets. plain_word (gateway_word number octets);
}

-- ---- the key

-- a key in base 64, which may be omitted only if the algorithm is 0: this algorithm means that there is no key (RFC 4025 section 2.4)
abbrev pub key_form : ℕ → RestForm
key_form algorithm = record {
  spells = λ tokens octets. (digits_form InBase64).spells tokens octets × (octets ≡ [] → algorithm ≡ 0);
  exceeds = (digits_form InBase64).exceeds;
  reason = λ tokens left e. (digits_form InBase64).reason tokens left e ⊎ ((e ≡ EndOfEntry) × (left ≡ []) × (algorithm ≢ 0) × (digits_form InBase64).spells tokens []);
  is_wire = λ octets. (digits_form InBase64).is_wire octets × (octets ≡ [] → algorithm ≡ 0);
  printed = (digits_form InBase64).printed;
}

-- the type of the gateway, the algorithm of the key, the gateway, and the key
abbrev pub gateway_key_form : Option (List (List ℕ)) → RestForm
gateway_key_form origin =
    then_form gateway_type_form (λ number. then_form octet_form (λ algorithm. then_form (gateway_form origin (slice_index number 0)) (λ gateway. key_form (slice_index algorithm 0))))

-- these are four parts; a rejected token is of this part, by its index, after those before it are read
abbrev pub IsGatewayPart : Option (List (List ℕ)) → List TokenSeen → List TokenSeen → ℕ → Type 0
IsGatewayPart origin =
    PartAfter gateway_type_form (λ number. PartAfter octet_form (λ algorithm. PartAfter (gateway_form origin (slice_index number 0)) (λ gateway tokens left part. part ≡ 0)))

-- all tokens are parsed as these parts, which follow other fields of the RDATA; or one is rejected, and the error has its part
abbrev pub ParsesGatewayParts : Option (List (List ℕ)) → Room → ℕ → TokenParser (Unit {0})
ParsesGatewayParts origin room before = ParsesInParts room (gateway_key_form origin) (IsGatewayPart origin) before
