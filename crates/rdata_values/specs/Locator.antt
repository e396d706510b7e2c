-- Locators and identifiers of 64 bits (RFC 6742 section 2).
use Rattle.std.specs.Prelude.{ℕ, ◌≡◌, ◌<◌, ◌≤◌, false, List, [], ◌∷◌, ◌++◌, length, All, slice_index, Option, MatchOption}
use Rattle.std.specs.Char.{digit_value}
use Rattle.std.specs.Net.Addr.{octets_of}
use Rattle.std.specs.Net.Grammar.{IsGroup, IsGroups}
use Rattle.rdata_values.specs.Hex.{pair_text}
use Rattle.rdata_values.specs.Kind.{IsKind}
use Rattle.rdata_values.specs.declared.locator.Locator.{Locator}
use Rattle.rdata_values.specs.declared.locator.Group.{Group}

-- four groups of one to four hexadecimal digits with colons between them, each of which writes two octets
pub record SpellsLocator (text : List ℕ) (l : Locator) : Type 0 where
  pub groups : List ℕ
  pub four : length groups ≡ 4
  pub written : IsGroups false text groups
  pub octets : l.0 ≡ octets_of groups

-- a text begins with a group, and no hexadecimal digit follows
pub record BeginsWithGroup (text : List ℕ) (number : ℕ) (rest : List ℕ) : Type 0 where
  pub group : List ℕ
  pub written : text ≡ group ++ rest
  pub value : IsGroup group number
  pub end : 16 ≤ digit_value (slice_index rest 0)

-- a text begins with a colon and then a group, and no hexadecimal digit follows
abbrev pub ContinuesWithGroup : List ℕ → ℕ → List ℕ → Type 0
ContinuesWithGroup text number rest = (more : List ℕ) × (text ≡ 58 ∷ more) × BeginsWithGroup more number rest

-- the result is a group and the text after it, or the text does not begin with one
abbrev pub ParsesGroup : (List ℕ → ℕ → List ℕ → Type 0) → List ℕ → Option Group → Type 0
ParsesGroup Has text r = MatchOption r ((number : ℕ) (rest : List ℕ) → Has text number rest → ⊥) (λ g. Has text g.number g.rest.now)

-- the four groups of a text, if it is exactly four groups
abbrev pub FindsGroups : List ℕ → Option (List ℕ) → Type 0
FindsGroups text r = MatchOption r ((groups : List ℕ) → length groups ≡ 4 → IsGroups false text groups → ⊥) (λ groups. (length groups ≡ 4) × IsGroups false text groups)

-- two octets as four hexadecimal digits in lower case
abbrev pub group_text : ℕ → ℕ → List ℕ
group_text high low = pair_text 97 high ++ pair_text 97 low

-- a group for every two octets, and colons between the groups
abbrev pub locator_text : List ℕ → List ℕ
locator_text [] = []
locator_text (a ∷ []) = []
locator_text (a ∷ b ∷ []) = group_text a b
locator_text (a ∷ b ∷ c ∷ more) = group_text a b ++ 58 ∷ locator_text (c ∷ more)

abbrev pub LocatorsAreKind : Type 0
LocatorsAreKind = IsKind (λ l. (length l.0 ≡ 8) × All (λ o. o < 256) l.0) SpellsLocator (λ l. locator_text l.0)
