-- The token of an entry at which a location is rejected.
use Rattle.std.specs.Prelude.{ℕ, ◌≡◌, List, [], ◌∷◌, ◌++◌}
use Rattle.dns_lexer.specs.EntryTokens.{TokenSeen}
use Rattle.rdata_tails.specs.Locations.{SpellsLocation}

-- some location begins with these tokens
abbrev pub BeginsLocation : List TokenSeen → Type 0
BeginsLocation tokens = (more : List TokenSeen) × (octets : List ℕ) × SpellsLocation (tokens ++ more) octets

-- no location begins with these tokens and the next; or, if there is no next token, these are not a location
abbrev pub NoLocationContinues : List TokenSeen → List TokenSeen → Type 0
NoLocationContinues taken [] = (octets : List ℕ) → SpellsLocation taken octets → ⊥
NoLocationContinues taken (t ∷ ts) = BeginsLocation (taken ++ t ∷ []) → ⊥

-- the first unread token, or the end, is the first that is wrong
abbrev pub IsFirstRefused : List TokenSeen → List TokenSeen → Type 0
IsFirstRefused tokens left = (taken : List TokenSeen) × (tokens ≡ taken ++ left) × BeginsLocation taken × NoLocationContinues taken left
