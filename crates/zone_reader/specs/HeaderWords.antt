-- The TTL, class and type of a record entry, and which tokens spell them.
use Rattle.std.specs.Prelude.{ℕ, ◌≡◌, ◌&&◌, Bool, false, if◌then◌else◌, ◌^◌, nat_lt, List, [], ◌∷◌, Option, MatchOption}
use Rattle.std.specs.Char.{is_ascii_digit}
use Rattle.rdata_values.specs.Classes.{SpellsClass}
use Rattle.rdata_values.specs.Ttl.{SpellsInterval}
use Rattle.rdata_values.specs.Types.{SpellsType}
use Rattle.rdata_values.specs.declared.error.ErrorKind.{ErrorKind}
use Rattle.rdata_values.specs.declared.error.ErrorKind.TheVariants.{ExpectedTtl, Quoted, UnknownType}
use Rattle.dns_lexer.specs.EntryTokens.{TokenSeen}

-- the TTL of a number of seconds: from 2^31 on it is 0 (RFC 2181 section 8)
abbrev pub ttl_of_seconds : ℕ → ℕ
ttl_of_seconds seconds = if nat_lt seconds (2 ^ 31) then seconds else 0

-- a token without quotes spells seconds, below 2^32, which make this TTL
abbrev pub TokenIsTtl : TokenSeen → ℕ → Type 0
TokenIsTtl t ttl = (t.is_quoted ≡ false) × ((seconds : ℕ) × SpellsInterval t.text seconds × (ttl ≡ ttl_of_seconds seconds))

-- a token spells a class, or a type
abbrev pub TokenIsClass : TokenSeen → ℕ → Type 0
TokenIsClass t class = (t.is_quoted ≡ false) × SpellsClass t.text class

abbrev pub TokenIsType : TokenSeen → ℕ → Type 0
TokenIsType t rtype = (t.is_quoted ≡ false) × SpellsType t.text rtype

-- the value that a token spells, if it spells one of this kind
abbrev pub FindsWord : (TokenSeen → ℕ → Type 0) → TokenSeen → Option ℕ → Type 0
FindsWord Says t r = MatchOption r ((n : ℕ) → Says t n → ⊥) (Says t)

abbrev pub begins_with_digit : List ℕ → Bool
begins_with_digit [] = false
begins_with_digit (c ∷ cs) = is_ascii_digit c

-- why a token is rejected as a type: it is quoted; it looks like a TTL, and no TTL came before; or the type is unknown
abbrev pub type_refusal : Bool → TokenSeen → ErrorKind
type_refusal may_be_ttl t =
    if t.is_quoted then Quoted
    else (if may_be_ttl && begins_with_digit t.text then ExpectedTtl else UnknownType)

-- no word is two of a TTL, a class and a type
pub record HeadWordsApart : Type 0 where
  pub ttl_and_class : (t : TokenSeen) (ttl class : ℕ) → TokenIsTtl t ttl → TokenIsClass t class → ⊥
  pub ttl_and_type : (t : TokenSeen) (ttl rtype : ℕ) → TokenIsTtl t ttl → TokenIsType t rtype → ⊥
  pub class_and_type : (t : TokenSeen) (class rtype : ℕ) → TokenIsClass t class → TokenIsType t rtype → ⊥
