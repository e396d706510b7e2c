-- The words of an entry: its class, its type, and TTLs of 2^31 seconds and more.
use Rattle.std.specs.Prelude.{ℕ, zero, suc, ◌≡◌, ◌+◌, ◌≤◌, ◌^◌, Bool, true, false, List, [], ◌∷◌, drop, map}
use Rattle.dns_lexer.specs.EntryTokens.{TokenSeen, token_seen}
use Rattle.dns_lexer.specs.declared.entry_tokens.EntryToken.{EntryToken}
use Rattle.rdata_values.specs.Ttl.{SpellsInterval}
use Rattle.zone_reader.specs.HeaderWords.{TokenIsClass, TokenIsType}
use Rattle.zone_check.specs.declared.entry_words.WordKind.{WordKind}
use Rattle.zone_check.specs.declared.entry_words.WordKind.TheVariants.{ClassWord, TypeWord, LongTtl}

abbrev pub IsClassToken : TokenSeen → Type 0
IsClassToken t = (class : ℕ) × TokenIsClass t class

abbrev pub IsTypeToken : TokenSeen → Type 0
IsTypeToken t = (rtype : ℕ) × TokenIsType t rtype

-- a TTL without quotes that is read as 0 (RFC 2181 section 8)
abbrev pub IsLongTtl : TokenSeen → Type 0
IsLongTtl t = (t.is_quoted ≡ false) × ((seconds : ℕ) × SpellsInterval t.text seconds × (2 ^ 31 ≤ seconds))

abbrev pub HasWordKind : WordKind → TokenSeen → Type 0
HasWordKind ClassWord t = IsClassToken t
HasWordKind TypeWord t = IsTypeToken t
HasWordKind LongTtl t = IsLongTtl t

-- the first token of a kind has this index; or there is none, and this is the number of tokens
abbrev pub IsFirstWord : WordKind → List TokenSeen → ℕ → Type 0
IsFirstWord kind [] place = place ≡ 0
IsFirstWord kind (t ∷ tokens) zero = HasWordKind kind t
IsFirstWord kind (t ∷ tokens) (suc place) = (HasWordKind kind t → ⊥) × IsFirstWord kind tokens place

-- a record that begins with a blank has no owner of its own
abbrev pub after_owner : {T : Type 0} → (begins_blank : Bool) → List T → List T
after_owner true tokens = tokens
after_owner false tokens = drop 1 tokens

-- the tokens after the type, which is the first word after the owner that spells one
abbrev pub AreDataTokens : (begins_blank : Bool) → (tokens after_type : List EntryToken) → Type 0
AreDataTokens begins_blank tokens after_type =
    (place : ℕ) × IsFirstWord TypeWord (map token_seen (after_owner begins_blank tokens)) place × (after_type ≡ drop (place + 1) (after_owner begins_blank tokens))
