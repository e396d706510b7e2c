-- Laws of each kind of tail.
use Rattle.std.specs.Prelude.{ℕ, Option, ◌≡◌, ◌<◌, ◌+◌, List, length}
use Rattle.std.specs.List.{AllByRecursion}
use Rattle.dns_octets.specs.Room.{Room}
use Rattle.rdata_tokens.specs.NameSpelling.{IsOrigin}
use Rattle.rdata_tokens.specs.Spelling.{AreOctetValues}
use Rattle.dns_lexer.specs.EntryTokens.{TokenSeen}
use Rattle.rdata.specs.Rests.{RestForm}
use Rattle.rdata.specs.RestKinds.{rest_form}
use Rattle.rdata.specs.declared.rest.Rest.{Rest}

-- what tokens hold are octets
abbrev pub HoldOctets : List TokenSeen → Type 0
HoldOctets tokens = AllByRecursion (λ t. AreOctetValues t.text) tokens

-- What tokens spell are octets that the kind can have; and tokens spell one list of octets only. If a
-- beginning of them exceeds the room, these octets do.
pub record IsRestForm (f : RestForm) : Type 0 where
  pub are_wire : (tokens : List TokenSeen) (octets : List ℕ) → HoldOctets tokens → f.spells tokens octets → f.is_wire octets
  pub once : (tokens : List TokenSeen) (a b : List ℕ) → f.spells tokens a → f.spells tokens b → a ≡ b
  pub exceeded : (room : Room) (tokens left : List TokenSeen) (old octets : List ℕ) → f.exceeds room tokens left old → f.spells tokens octets → room.fits < length old + length octets

-- each kind is spelled as its form defines
abbrev pub AreRestForms : Type 0
AreRestForms = (origin : Option (List (List ℕ))) → IsOrigin origin → (r : Rest) → IsRestForm (rest_form origin r)
