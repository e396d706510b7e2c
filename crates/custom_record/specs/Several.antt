-- A list of character strings: its parts, its values and its document.
use Rattle.std.specs.Prelude.{ℕ, List, [], ◌∷◌, ◌≡◌, ◌<◌, ◌≤◌, refl, map, length, All, encode_utf8_all}
use Rattle.std.proofs.Common.{ap}
use Rattle.dns_charstr.specs.Printed.{quoted_text}
use Rattle.dns_zone.specs.Layout.{Step, token}
use Rattle.dns_zone.specs.Nesting.{IsNested}
use Rattle.custom_record.specs.Parts.{Part, field, IsLaidOut, string_step, steps_of, values_of}
use Rattle.custom_record.specs.Values.{Value, listed}

-- each between double quotes
abbrev pub string_parts : List (List ℕ) → List Part
string_parts = map (λ s. field (listed s))

abbrev pub strings_of : List (List ℕ) → List Value
strings_of xs = values_of (string_parts xs)

abbrev pub string_steps : List (List ℕ) → List Step
string_steps = map string_step

-- the possible values of a character string
abbrev pub IsString : List ℕ → Type 0
IsString s = All (λ o. o < 256) s × (length s ≤ 255)

pub strings_shown : (xs : List (List ℕ)) → string_steps xs ≡ steps_of (string_parts xs)
strings_shown [] = refl
strings_shown (x ∷ xs) = ap (λ l. token (encode_utf8_all (quoted_text x)) ∷ l) (strings_shown xs)

pub strings_laid_out : (xs : List (List ℕ)) → IsLaidOut (string_parts xs)
strings_laid_out [] = refl
strings_laid_out (x ∷ xs) = strings_laid_out xs

pub strings_nested : (xs : List (List ℕ)) → IsNested (string_steps xs)
strings_nested [] = refl
strings_nested (x ∷ xs) = strings_nested xs
