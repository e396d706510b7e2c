-- How octets of files are shown on a terminal.
use Rattle.std.specs.Prelude.{◌≡◌, ℕ, ◌==◌, ◌||◌, ◌&&◌, nat_lt, if◌then◌else◌, Bool, false, List, [], ◌∷◌, IsUtf8}
use Rattle.std.specs.List.{flat_map}
use Rattle.dns_symbol.specs.Characters.{tab, space}
use Rattle.zone_format.specs.Columns.{width_of}
use Rattle.zone_format.specs.Place.{begins_character}

abbrev pub question_mark : ℕ
question_mark = 63

-- a control character of ASCII
abbrev pub is_control : ℕ → Bool
is_control c = nat_lt c space || c == 127

-- an octet as it is shown: a blank for a tab, a question mark for a control octet; from 128 on the octet itself, or if it isn't kept a question mark for each character
abbrev pub shown_octet : (keeps_high : Bool) → ℕ → List ℕ
shown_octet keeps_high c = if c == tab then space ∷ [] else if is_control c then question_mark ∷ [] else if nat_lt c 128 || keeps_high then c ∷ [] else if begins_character c then question_mark ∷ [] else []

abbrev pub shown_text : (keeps_high : Bool) → List ℕ → List ℕ
shown_text keeps_high octets = flat_map (shown_octet keeps_high) octets

-- if this octet ends a character of two octets, that is a control character from U+0080 on
abbrev pub ends_c1 : List ℕ → Bool
ends_c1 [] = false
ends_c1 (c ∷ cs) = nat_lt c 160

-- text in UTF-8 has one of the control characters from U+0080 to U+009F
abbrev pub has_c1 : List ℕ → Bool
has_c1 [] = false
has_c1 (c ∷ cs) = has_c1 cs || (c == 194 && ends_c1 cs)

-- octets from 128 on can be kept
abbrev pub IsShowable : List ℕ → Type 0
IsShowable octets = IsUtf8 octets × (has_c1 octets ≡ false)

-- each character is shown as one
abbrev pub ShowsEachCharacter : Type 0
ShowsEachCharacter = (keeps_high : Bool) (octets : List ℕ) → width_of (shown_text keeps_high octets) ≡ width_of octets
