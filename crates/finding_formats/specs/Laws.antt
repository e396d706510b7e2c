-- What escaped texts are like, for all octets.
use Rattle.std.specs.Prelude.{◌≡◌, ℕ, ◌==◌, ◌||◌, nat_le, not, if◌then◌else◌, Bool, true, false, List, [], ◌∷◌, ◌++◌, IsUtf8}
use Rattle.std.specs.List.{list_all}
use Rattle.dns_symbol.specs.Characters.{backslash, double_quote}
use Rattle.finding_formats.specs.Escape.{escaped}
use Rattle.finding_formats.specs.declared.escape.Context.{Context}
use Rattle.finding_formats.specs.declared.escape.Context.TheVariants.{Json, Xml, GithubProperty}

-- each escaped text is UTF-8
abbrev pub AreUtf8 : Type 0
AreUtf8 = (context : Context) (octets : List ℕ) → IsUtf8 (escaped context octets)

-- no escaped text has a control octet, so that it has no line end
abbrev pub HaveNoControls : Type 0
HaveNoControls = (context : Context) (octets : List ℕ) → list_all (λ c. nat_le 32 c) (escaped context octets) ≡ true

-- the octets after the double quote that closes a JSON string; a backslash escapes the octet after it
abbrev pub after_string : (is_escaped : Bool) → List ℕ → List ℕ
after_string is_escaped [] = []
after_string true (c ∷ cs) = after_string false cs
after_string false (c ∷ cs) = if c == backslash then after_string true cs else if c == double_quote then cs else after_string false cs

-- a JSON string ends where it is closed
abbrev pub StringsEndWhereClosed : Type 0
StringsEndWhereClosed = (octets rest : List ℕ) → after_string false (escaped Json octets ++ double_quote ∷ rest) ≡ rest

-- no double quote, and no angle bracket
abbrev pub is_xml_plain : ℕ → Bool
is_xml_plain c = not (c == double_quote || (c == 60 || c == 62))

abbrev pub XmlHasNoMarkup : Type 0
XmlHasNoMarkup = (octets : List ℕ) → list_all is_xml_plain (escaped Xml octets) ≡ true

-- no colon and no comma, which end a property of a workflow command
abbrev pub PropertiesHaveNoEnd : Type 0
PropertiesHaveNoEnd = (octets : List ℕ) → list_all (λ c. not (c == 58 || c == 44)) (escaped GithubProperty octets) ≡ true
