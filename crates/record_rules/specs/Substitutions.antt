-- The substitution expressions of NAPTR (RFC 3402 section 3.2): a delimiter, an extended regular expression, a delimiter, a replacement, a delimiter, flags.
use Rattle.std.specs.Prelude.{◌≡◌, ◌<◌, length, take, drop, ℕ, suc, ◌+◌, ◌-◌, ◌==◌, ◌&&◌, ◌||◌, not, nat_le, if◌then◌else◌, Bool, true, false, Option, Some, None, List, [], ◌∷◌}
use Rattle.std.specs.Char.{is_ascii_digit}
use Rattle.std.specs.List.{list_all, list_any}
use Rattle.std.specs.Option.{option_map_or}
use Rattle.dns_symbol.specs.Characters.{backslash}
use Rattle.record_rules.specs.declared.regexp.Spot.{Spot}
use Rattle.record_rules.specs.declared.regexp.Spot.TheVariants.{Plain, Escaped, Opened, Negated, Listed, Nested, Class, Closing}

-- a delimiter is neither a digit nor a backslash nor the flag `i` (RFC 3402 section 3.2 forbids 1 to 9, BIND 0 too)
abbrev pub is_delimiter : ℕ → Bool
is_delimiter o = not (is_ascii_digit o) && (not (o == backslash) && not (o == 105))

-- the octets before the first delimiter that is not escaped; a first octet is escaped or not
abbrev pub before_delimiter : ℕ → Bool → List ℕ → List ℕ
before_delimiter d escaped [] = []
before_delimiter d true (o ∷ octets) = o ∷ before_delimiter d false octets
before_delimiter d false (o ∷ octets) = if o == d then [] else o ∷ before_delimiter d (o == backslash) octets

-- the octets after it
abbrev pub after_delimiter : ℕ → Bool → List ℕ → Option (List ℕ)
after_delimiter d escaped [] = None
after_delimiter d true (o ∷ octets) = after_delimiter d false octets
after_delimiter d false (o ∷ octets) = if o == d then Some octets else after_delimiter d (o == backslash) octets

-- ---- groups

-- what the octets of a bracket expression after its first one are in: it ends at a bracket, but for those of `[:alpha:]`, `[.x.]` and `[=x=]`
abbrev pub spot_listed : ℕ → Spot
spot_listed o = if o == 93 then Plain else (if o == 91 then Nested else Listed)

-- a closing bracket is an element of the expression if it is first
abbrev pub spot_opened : ℕ → Spot
spot_opened o = if o == 91 then Nested else Listed

-- where the next octet of an extended regular expression is (POSIX.1 sections 9.3.5 and 9.4)
abbrev pub spot_after : Spot → ℕ → Spot
spot_after Plain o = if o == backslash then Escaped else (if o == 91 then Opened else Plain)
spot_after Escaped o = Plain
spot_after Opened o = if o == 94 then Negated else spot_opened o
spot_after Negated o = spot_opened o
spot_after Listed o = spot_listed o
spot_after Nested o = if o == 58 || (o == 46 || o == 61) then Class o else spot_listed o
spot_after (Class mark) o = if o == mark then Closing mark else Class mark
spot_after (Closing mark) o = if o == 93 then Listed else (if o == mark then Closing mark else Class mark)

abbrev pub is_plain_spot : Spot → Bool
is_plain_spot Plain = true
is_plain_spot spot = false

-- the number of groups: parentheses that are neither escaped nor in brackets
abbrev pub group_count : Spot → List ℕ → ℕ
group_count spot [] = 0
group_count spot (o ∷ octets) = if is_plain_spot spot && o == 40 then suc (group_count (spot_after spot o) octets) else group_count (spot_after spot o) octets

-- a digit after a backslash is a reference to a group, the first of which is 1
abbrev pub is_reference_within : ℕ → ℕ → Bool
is_reference_within count o = not (is_ascii_digit o) || (nat_le 49 o && nat_le (o - 48) count)

-- each reference in a replacement is to one of `count` groups
abbrev pub refers_within : ℕ → Bool → List ℕ → Bool
refers_within count escaped [] = true
refers_within count true (o ∷ octets) = is_reference_within count o && refers_within count false octets
refers_within count false (o ∷ octets) = refers_within count (o == backslash) octets

-- ---- the whole

-- a replacement, a delimiter, and flags, of which `i` is the only one
abbrev pub is_replacement : ℕ → ℕ → List ℕ → Bool
is_replacement d count octets = refers_within count false (before_delimiter d false octets) && option_map_or (list_all (λ o. o == 105)) (after_delimiter d false octets) false

-- an expression that is not empty, a delimiter, and then this
abbrev pub is_expression : ℕ → List ℕ → Bool
is_expression d [] = false
is_expression d (o ∷ octets) = not (o == d) && option_map_or (is_replacement d (group_count Plain (before_delimiter d false (o ∷ octets)))) (after_delimiter d false (o ∷ octets)) false

-- a substitution expression, without NUL
abbrev pub is_substitution : List ℕ → Bool
is_substitution [] = false
is_substitution (d ∷ octets) = is_delimiter d && (not (list_any (λ o. o == 0) (d ∷ octets)) && is_expression d octets)

-- ---- parts

-- at an offset is the first delimiter that is not escaped
pub record IsDelimiterAt (d : ℕ) (escaped : Bool) (octets : List ℕ) (offset : ℕ) : Type 0 where
  pub before : before_delimiter d escaped octets ≡ take offset octets
  pub after : after_delimiter d escaped octets ≡ Some (drop (offset + 1) octets)
  pub within : offset < length octets

-- the octets before it, and those after it
pub record IsSplitAtDelimiter (d : ℕ) (octets before after : List ℕ) : Type 0 where
  pub is_before : before_delimiter d false octets ≡ before
  pub is_after : after_delimiter d false octets ≡ Some after
