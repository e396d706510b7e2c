-- Addresses of network services (NSAP, RFC 1706 section 5).
use Rattle.std.specs.Prelude.{ℕ, ◌≡◌, ◌≢◌, ◌⊎◌, ◌==◌, not, List, [], ◌∷◌, length, ◌≤◌}
use Rattle.std.specs.List.{filter}
use Rattle.dns_octets.specs.Room.{Room}
use Rattle.dns_octets.specs.Appending.{ExceedsRoom}
use Rattle.dns_codec.specs.Base.{base16}
use Rattle.rdata_tokens.specs.Spelled.{SpellsDigits, BeginsWithDigits}
use Rattle.rdata_tokens.specs.Tokens.{DigitsContinue}
use Rattle.rdata_tokens.specs.declared.kind.DigitsKind.TheVariants.{Hex}
use Rattle.rdata_tokens.specs.Spelling.{AreOctetValues}
use Rattle.rdata_values.specs.Hex.{small_pairs}
use Rattle.rdata_values.specs.declared.error.ErrorKind.{ErrorKind}
use Rattle.rdata_values.specs.declared.error.ErrorKind.TheVariants.{ShortBuf, ExpectedNsap, ExpectedHex, UnevenHex}

-- a text without its dots
abbrev pub without_dots : List ℕ → List ℕ
without_dots text = filter (λ c. not (c == 46)) text

-- what follows `0x` or `0X`, without its dots
abbrev pub HasDigits : List ℕ → List ℕ → Type 0
HasDigits text digits = (dotted : List ℕ) × ((text ≡ 48 ∷ 120 ∷ dotted) ⊎ (text ≡ 48 ∷ 88 ∷ dotted)) × (digits ≡ without_dots dotted)

-- `0x`, and pairs of hexadecimal digits with dots anywhere between them
abbrev pub SpellsNsap : List ℕ → List ℕ → Type 0
SpellsNsap text octets = (digits : List ℕ) × HasDigits text digits × SpellsDigits base16 digits octets × (octets ≢ [])

-- a beginning of such a text spells these octets, of which there are some
abbrev pub BeginsNsap : List ℕ → List ℕ → Type 0
BeginsNsap text octets = (digits : List ℕ) × HasDigits text digits × BeginsWithDigits base16 digits octets

-- Why a text is not such an address: no digit follows `0x`; or something that is no digit does; or the
-- digits end within a pair.
abbrev pub NsapFault : List ℕ → ErrorKind → Type 0
NsapFault text e =
    ((e ≡ ExpectedNsap) × ((digits : List ℕ) → HasDigits text digits → digits ≡ []))
    ⊎ ((digits : List ℕ) × HasDigits text digits × (digits ≢ [])
    × (((e ≡ ExpectedHex) × (DigitsContinue Hex digits → ⊥)) ⊎ ((e ≡ UnevenHex) × DigitsContinue Hex digits)))

-- why an address was not appended: octets that a beginning of the text spells don't surely fit; or it spells none
abbrev pub RefusesNsap : Room → List ℕ → List ℕ → ErrorKind → Type 0
RefusesNsap room text old e = ((e ≡ ShortBuf) × ExceedsRoom room (BeginsNsap text) old) ⊎ (NsapFault text e × ((octets : List ℕ) → SpellsNsap text octets → ⊥))

abbrev pub nsap_text : List ℕ → List ℕ
nsap_text octets = 48 ∷ 120 ∷ small_pairs octets

-- What an address prints as spells it, and a text spells one.
pub record AreNsapRead : Type 0 where
  pub back : (octets : List ℕ) → AreOctetValues octets → octets ≢ [] → SpellsNsap (nsap_text octets) octets
  pub once : (text a b : List ℕ) → SpellsNsap text a → SpellsNsap text b → a ≡ b
  pub within : (text front octets : List ℕ) → BeginsNsap text front → SpellsNsap text octets → length front ≤ length octets
