-- Patterns of paths and names, each computed. Those of sets are from glob(7).
use Rattle.std.specs.Prelude.{◌≡◌, ℕ, Bool, true, false, List, [], ◌∷◌, map, codes, refl}
use Rattle.server_config.specs.PathPatterns.{fits_pattern}

abbrev row_fits : List ℕ → List (List ℕ) → List Bool
row_fits pattern names = map (fits_pattern pattern) names

any_octets : row_fits (codes "*.conf") (codes "a.conf" ∷ codes ".conf" ∷ codes "a.conf.bak" ∷ codes "conf" ∷ codes "a/b.conf" ∷ [])
    ≡ true ∷ false ∷ false ∷ false ∷ false ∷ []
any_octets = refl

hidden : row_fits (codes ".*") (codes ".a" ∷ codes "a" ∷ []) ≡ true ∷ false ∷ []
hidden = refl

some_stars : row_fits (codes "a*b*c") (codes "abc" ∷ codes "axbyc" ∷ codes "abcbc" ∷ codes "acb" ∷ []) ≡ true ∷ true ∷ true ∷ false ∷ []
some_stars = refl

last_part : row_fits (codes "*ab") (codes "abab" ∷ codes "aab" ∷ codes "aba" ∷ []) ≡ true ∷ true ∷ false ∷ []
last_part = refl

one_octet : row_fits (codes "?") (codes "a" ∷ codes "ab" ∷ codes "." ∷ codes "" ∷ []) ≡ true ∷ false ∷ false ∷ false ∷ []
one_octet = refl

ranges : row_fits (codes "[a-cx]y") (codes "by" ∷ codes "xy" ∷ codes "dy" ∷ codes "-y" ∷ []) ≡ true ∷ true ∷ false ∷ false ∷ []
ranges = refl

outside : row_fits (codes "[!a-c]") (codes "d" ∷ codes "b" ∷ []) ≡ true ∷ false ∷ []
outside = refl

outside_too : row_fits (codes "[^a-c]") (codes "d" ∷ codes "b" ∷ []) ≡ true ∷ false ∷ []
outside_too = refl

brackets : row_fits (codes "[][!]") (codes "[" ∷ codes "]" ∷ codes "!" ∷ codes "a" ∷ []) ≡ true ∷ true ∷ true ∷ false ∷ []
brackets = refl

hyphens : row_fits (codes "[]-]") (codes "]" ∷ codes "-" ∷ codes "a" ∷ []) ≡ true ∷ true ∷ false ∷ []
hyphens = refl

from_a_hyphen : row_fits (codes "a[--0]") (codes "a-" ∷ codes "a." ∷ codes "a0" ∷ codes "a/" ∷ codes "a1" ∷ []) ≡ true ∷ true ∷ true ∷ false ∷ false ∷ []
from_a_hyphen = refl

open_bracket : row_fits (codes "[a") (codes "[a" ∷ codes "a" ∷ []) ≡ true ∷ false ∷ []
open_bracket = refl
