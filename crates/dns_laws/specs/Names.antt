-- The result of parsing the text of a name.
use Rattle.std.specs.Prelude.{ℕ, List, [], ◌∷◌, ◌++◌, ◌≡◌, ◌≢◌, ◌⊎◌, ◌<◌, All, Result, Ok, encode_utf8_all}
use Rattle.dns_octets.specs.Room.{Room}
use Rattle.dns_wire.specs.Printed.{dotted_text}
use Rattle.dns_wire.specs.Wire.{wire, wire_length, IsName, EndsInRoot}
use Rattle.dns_wire.specs.ZoneText.{zone_text}
use Rattle.dns_name.specs.Reading.{ReadsAs}
use Rattle.dns_name.specs.Uncertain.{IsUncertain}
use Rattle.dns_name.specs.declared.name.UncertainName.TheVariants.{Absolute, Relative}
use Rattle.dns_symbol.specs.Cause.{Cause, IsCause}
use Rattle.dns_scan.specs.Tokens.{Token}
use Rattle.dns_iter.specs.Name.{invalid_name}

-- the result is this name, or an error if its octets exceed the guaranteed capacity
abbrev pub ReturnsName : {E : Type 0} → (E → Cause) → Room → List (List ℕ) → Result (List (List ℕ)) E → Type 0
ReturnsName cause room name r = (r ≡ Ok name) ⊎ (IsCause cause r invalid_name × (room.fits < wire_length name))

-- the result of parsing a token that is a name: that name, with the root appended if the text is relative
pub record NameBack (O : Type 0) (Gives : List (List ℕ) → Type 0) (token : Token) : Type 0 where
  -- a text that is an absolute name
  pub whole : (name : List (List ℕ)) → ReadsAs {O = O} token (Absolute name) → Gives name
  -- the text of a name, with its final dot
  pub dotted : (name : List (List ℕ)) → IsName name → EndsInRoot name → All (λ o. o < 256) (wire name) → token ≡ encode_utf8_all (dotted_text name) → Gives name
  -- its text in a zone file
  pub zone : (name : List (List ℕ)) → IsName name → EndsInRoot name → All (λ o. o < 256) (wire name) → token ≡ zone_text name → Gives name
  -- a text that is a relative name with at least one label
  pub relative : (name : List (List ℕ)) → ReadsAs {O = O} token (Relative name) → name ≢ [] → Gives (name ++ [] ∷ [])
  -- its text in a zone file
  pub relative_zone : (name : List (List ℕ)) → IsUncertain {O = O} (Relative name) → name ≢ [] → All (λ o. o < 256) (wire name) → token ≡ zone_text name
      → Gives (name ++ [] ∷ [])
