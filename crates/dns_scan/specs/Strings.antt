-- The results of the tokens of an entry that are parsed as character strings.
use Rattle.std.specs.Prelude.{ℕ, List, ◌∷◌, ◌++◌, [], ◌+◌, ◌≡◌, ◌<◌, ◌≤◌, ◌⊎◌, length, All, Result, Ok, Err, MatchResult}
use Rattle.std.specs.List.{AllZip, flat_map}
use Rattle.dns_octets.specs.Room.{Room, within}
use Rattle.dns_charstr.specs.Reading.{HasOctets}
use Rattle.dns_charstr.specs.Wire.{wire_of}
use Rattle.dns_symbol.specs.Cause.{Cause, short_buf}
use Rattle.dns_scan.specs.Reads.{OctetsRead}
use Rattle.dns_scan.specs.Tokens.{Token}
use Rattle.dns_charstr.specs.Limits.{max_string}

-- the octets are the wire formats, one after the other, of the tokens' character strings
pub record AreStrings (tokens : List Token) (octets : List ℕ) : Type 0 where
  pub strings : List (List ℕ)
  pub read : AllZip HasOctets tokens strings
  pub short : All (λ s. length s ≤ max_string) strings
  pub joined : octets ≡ flat_map wire_of strings

-- character strings of at most 255 octets
abbrev pub AreShort : List (List ℕ) → Type 0
AreShort = All (λ s. length s ≤ max_string)

-- the tokens are these character strings, and each has at most 255 octets
abbrev pub HaveStrings : List Token → List (List ℕ) → Type 0
HaveStrings tokens strings = AllZip HasOctets tokens strings × AreShort strings

-- a builder with that room
module _ (room : Room) where
  -- the error of a token after `count` octets: it isn't a character string, or its wire format doesn't fit
  abbrev pub IsStringFault : ℕ → Token → Cause → Type 0
  IsStringFault count token why =
      OctetsRead (within max_string room) token (Err why)
      ⊎ ((octets : List ℕ) × OctetsRead (within max_string room) token (Ok octets) × (why ≡ short_buf) × (room.fits < count + length (wire_of octets)))

  -- the first token that is rejected, and those after it; those before it are character strings, whose wire formats fit
  pub record FirstStringFault (tokens : List Token) (why : Cause) (rest : List Token) : Type 0 where
    pub front : List Token
    pub token : Token
    pub octets : List ℕ
    pub whole : tokens ≡ front ++ token ∷ rest
    pub before : AreStrings front octets
    pub within : length octets ≤ room.capacity
    pub fault : IsStringFault (length octets) token why

  -- the result and the remaining tokens: the wire formats of all, which fit, and no token; or the first error, and the tokens after that one
  abbrev pub AnswersStrings : {O E : Type 0} → (E → Cause) → (O → List ℕ) → List Token → Result O E → List Token → Type 0
  AnswersStrings cause value tokens r rest =
      MatchResult r (λ x. AreStrings tokens (value x) × (length (value x) ≤ room.capacity) × (rest ≡ [])) (λ e. FirstStringFault tokens (cause e) rest)
