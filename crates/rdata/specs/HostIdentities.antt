-- A host identity (HIP, RFC 8005 section 5): an algorithm, a host identity tag, a public key, and rendezvous servers.
use Rattle.std.specs.Prelude.{ℕ, ◌≡◌, ◌⊎◌, ◌<◌, ◌≤◌, ◌+◌, true, false, None, Option, Result, Ok, Err, List, [], ◌∷◌, ◌++◌, length, take, drop, slice_index}
use Rattle.std.specs.Int.{from_be_bytes, to_be_bytes, w16}
use Rattle.dns_codec.specs.Base.{base64, encoded}
use Rattle.dns_octets.specs.Appending.{ExceedsRoom}
use Rattle.dns_octets.specs.Room.{Room}
use Rattle.dns_lexer.specs.EntryTokens.{TokenSeen}
use Rattle.rdata_tokens.specs.NameSpelling.{IsWireName}
use Rattle.rdata_tokens.specs.PrintedNames.{wire_name_text}
use Rattle.rdata_tokens.specs.Spelled.{BeginsWithDigits, SpellsDigits}
use Rattle.rdata_tokens.specs.Spelling.{AreOctetValues}
use Rattle.rdata_tokens.specs.Tokens.{DigitsContinue}
use Rattle.rdata_tokens.specs.declared.kind.DigitsKind.TheVariants.{Base64 as InBase64}
use Rattle.rdata_fields.specs.Parsing.{BeginsField, SpellsField}
use Rattle.rdata_fields.specs.TokenParsers.{TokenParser}
use Rattle.rdata_fields.specs.declared.field.Field.TheVariants.{Name as OfName}
use Rattle.rdata_values.specs.Hex.{IsHex, pairs_text}
use Rattle.rdata_values.specs.declared.error.ErrorKind.{ErrorKind}
use Rattle.rdata_values.specs.declared.error.ErrorKind.TheVariants.{ExpectedHit, IncompleteBase64, LongKey, Quoted, ShortBuf}
use Rattle.rdata.specs.Digits.{IsDigitsFault}
use Rattle.rdata.specs.GatewayKeys.{labels_size, octet_form, plain_word}
use Rattle.rdata.specs.HeldForms.{held_form}
use Rattle.rdata.specs.Rests.{ParsesInParts, RestForm}
use Rattle.rdata.specs.TokenForms.{FieldReason, PartAfter, TokenForm, each_form, then_form}

-- ---- the host identity tag

-- 1 to 255 octets
abbrev pub IsHit : List ℕ → Type 0
IsHit octets = AreOctetValues octets × (0 < length octets) × (length octets ≤ 255)

-- a word of hexadecimal digits spells such octets
abbrev pub SpellsHit : TokenSeen → List ℕ → Type 0
SpellsHit t octets = (t.is_quoted ≡ false) × IsHex t.text octets × (0 < length octets) × (length octets ≤ 255)

-- why a token is not a tag: it is a quoted string, or a word of anything else
abbrev pub HitReason : TokenSeen → ErrorKind → Type 0
HitReason t e = ((e ≡ Quoted) × (t.is_quoted ≡ true)) ⊎ ((e ≡ ExpectedHit) × (t.is_quoted ≡ false))

abbrev pub hit_form : TokenForm
hit_form = record {
  spells = SpellsHit;
  begins = SpellsHit;
  reason = HitReason;
  is_wire = IsHit;
  width = length;
  printed = λ octets. plain_word (pairs_text octets);
}

-- the tag that a word spells, or why it spells none
abbrev pub ReadsHit : {V : Type 0} → (V → List ℕ) → TokenSeen → Result V ErrorKind → Type 0
ReadsHit octets_of t (Ok v) = SpellsHit t (octets_of v)
ReadsHit octets_of t (Err e) = HitReason t e × ((octets : List ℕ) → SpellsHit t octets → ⊥)

-- ---- the public key

-- the length of the tag, the algorithm, the length of the key in two octets, the tag, and the key
abbrev pub identity_octets : ℕ → List ℕ → List ℕ → List ℕ
identity_octets algorithm hit key = length hit ∷ algorithm ∷ (to_be_bytes w16 (length key) ++ (hit ++ key))

-- the two octets at an offset of old ones are now a number, and no other octet is changed
abbrev pub SetsCount : ℕ → ℕ → List ℕ → List ℕ → Type 0
SetsCount at count old new = (before : List ℕ) (later : List ℕ) (a b : ℕ) → old ≡ before ++ a ∷ b ∷ later → length before ≡ at → new ≡ before ++ (to_be_bytes w16 count ++ later)

-- 1 to 65535 octets
abbrev pub IsPublicKey : List ℕ → Type 0
IsPublicKey key = AreOctetValues key × (0 < length key) × (length key ≤ 65535)

-- digits of base 64 spell such octets
abbrev pub SpellsPublicKey : List ℕ → List ℕ → Type 0
SpellsPublicKey text key = SpellsDigits base64 text key × (0 < length key) × (length key ≤ 65535)

-- the octets that digits begin with; none at their start
abbrev pub BeginsPublicKey : List ℕ → List ℕ → Type 0
BeginsPublicKey text key = (key ≡ []) ⊎ BeginsWithDigits base64 text key

-- with such octets after those of an algorithm and a tag
abbrev pub SpellsHost : ℕ → List ℕ → List ℕ → List ℕ → Type 0
SpellsHost algorithm hit text octets = (key : List ℕ) × SpellsPublicKey text key × (octets ≡ identity_octets algorithm hit key)

abbrev pub BeginsHost : ℕ → List ℕ → List ℕ → List ℕ → Type 0
BeginsHost algorithm hit text octets = (key : List ℕ) × BeginsPublicKey text key × (octets ≡ identity_octets algorithm hit key)

-- why a word is not a key: it ends within a group of digits, or before the first; or its digits are wrong; or it spells too many octets
abbrev pub PublicKeyTextReason : List ℕ → ErrorKind → Type 0
PublicKeyTextReason text e =
    ((e ≡ IncompleteBase64) × DigitsContinue InBase64 text × ((key : List ℕ) → SpellsDigits base64 text key → key ≡ [])) ⊎ (IsDigitsFault InBase64 text e ⊎ ((e ≡ LongKey) × ((key : List ℕ) × SpellsDigits base64 text key × (65535 < length key))))

-- a text is rejected: the octets that it begins with don't surely fit, or it spells no key
abbrev pub RefusesHost : Room → ℕ → List ℕ → List ℕ → List ℕ → ErrorKind → Type 0
RefusesHost room algorithm hit text old e =
    ((e ≡ ShortBuf) × ExceedsRoom room (BeginsHost algorithm hit text) old) ⊎ (PublicKeyTextReason text e × ((octets : List ℕ) → SpellsHost algorithm hit text octets → ⊥))

abbrev pub PublicKeyReason : TokenSeen → ErrorKind → Type 0
PublicKeyReason t e = ((e ≡ Quoted) × (t.is_quoted ≡ true)) ⊎ ((t.is_quoted ≡ false) × PublicKeyTextReason t.text e)

-- a key, whose octets follow those of an algorithm and a tag
abbrev pub public_key_form : ℕ → List ℕ → TokenForm
public_key_form algorithm hit = record {
  spells = λ t octets. (t.is_quoted ≡ false) × SpellsHost algorithm hit t.text octets;
  begins = λ t octets. (t.is_quoted ≡ false) × BeginsHost algorithm hit t.text octets;
  reason = PublicKeyReason;
  is_wire = λ octets. (key : List ℕ) × IsPublicKey key × (octets ≡ identity_octets algorithm hit key);
  width = λ octets. 4 + slice_index octets 0 + from_be_bytes w16 (take 2 (drop 2 octets));
  printed = λ octets. plain_word (encoded base64 (drop (4 + slice_index octets 0) octets));
}

-- ---- the whole

-- a rendezvous server; the origin is appended to a relative name
abbrev pub server_form : Option (List (List ℕ)) → TokenForm
server_form origin = record {
  spells = SpellsField origin OfName;
  begins = BeginsField origin OfName;
  reason = FieldReason origin OfName;
  is_wire = IsWireName;
  width = λ octets. labels_size (length octets) octets;
  printed = λ octets. plain_word (wire_name_text octets);
}

-- any number of servers
abbrev pub servers_form : Option (List (List ℕ)) → RestForm
servers_form origin = each_form (server_form origin)

-- the algorithm, the tag and the key, and then the servers
abbrev pub host_identity_form : Option (List (List ℕ)) → RestForm
host_identity_form origin =
    held_form (λ octets. slice_index octets 1 ∷ []) octet_form (λ algorithm. held_form (λ octets. take (slice_index octets 0) (drop 4 octets)) hit_form (λ hit. then_form (public_key_form (slice_index algorithm 0) hit) (λ key. servers_form origin)))

-- octets have servers at an offset, after an algorithm, a tag and a key
pub record HasServersAt (octets : List ℕ) (at : ℕ) : Type 0 where
  pub algorithm : ℕ
  pub hit : List ℕ
  pub key : List ℕ
  pub servers : List ℕ
  pub is_octet : octet_form.is_wire (algorithm ∷ [])
  pub is_hit : IsHit hit
  pub is_key : IsPublicKey key
  pub split : octets ≡ identity_octets algorithm hit key ++ servers
  pub place : at ≡ 4 + length hit + length key

-- these are four parts; a rejected token is of this part, by its index, after those before it are read
abbrev pub IsHostPart : Option (List (List ℕ)) → List TokenSeen → List TokenSeen → ℕ → Type 0
IsHostPart origin = PartAfter octet_form (λ algorithm. PartAfter hit_form (λ hit. PartAfter (public_key_form (slice_index algorithm 0) hit) (λ key tokens left part. part ≡ 0)))

-- all tokens are parsed as these parts, which follow other fields of the RDATA; or one is rejected, and the error has its part
abbrev pub ParsesHostParts : Option (List (List ℕ)) → Room → ℕ → TokenParser (Unit {0})
ParsesHostParts origin room before = ParsesInParts room (host_identity_form origin) (IsHostPart origin) before
