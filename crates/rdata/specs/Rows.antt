-- Worked rows of the definitions, each computed.
use Rattle.std.specs.Prelude.{◌≡◌, [], ◌∷◌, codes, refl}
use Rattle.rdata.specs.RestKinds.{strings_wire, strings_in_octets}

-- strings after their lengths; an empty string is its length alone
wire : strings_wire (codes "a" ∷ [] ∷ codes "bc" ∷ []) ≡ 1 ∷ 97 ∷ 0 ∷ 2 ∷ 98 ∷ 99 ∷ []
wire = refl

-- the strings, parsed back
read_strings : strings_in_octets (1 ∷ 97 ∷ 0 ∷ 2 ∷ 98 ∷ 99 ∷ []) ≡ codes "a" ∷ [] ∷ codes "bc" ∷ []
read_strings = refl
