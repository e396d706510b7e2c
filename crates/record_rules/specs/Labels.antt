-- Character strings and names at the beginning of octets, and tests of labels.
use Rattle.std.specs.Prelude.{◌≡◌, ◌<◌, ℕ, zero, suc, ◌+◌, ◌-◌, ◌*◌, ◌==◌, ◌&&◌, ◌||◌, not, nat_le, nat_eq, if◌then◌else◌, Bool, false, Option, Some, None, List, [], ◌∷◌, length, take, drop, codes}
use Rattle.std.specs.Char.{is_ascii_digit, is_ascii_hexdigit}
use Rattle.std.specs.Cmp.Lexicographic.{pointwise}
use Rattle.std.specs.List.{list_any}
use Rattle.dns_octets.specs.Lowered.{same_lowered}
use Rattle.dns_wire.specs.Order.{same_name}
use Rattle.record_rules.specs.declared.labels.LabelTest.{LabelTest}
use Rattle.record_rules.specs.declared.labels.LabelTest.TheVariants.{Asterisk, AtSign, Underscore, Number, HexDigit, KeyZone}

-- ---- octets

-- a character string: as many octets as its first octet says (RFC 1035 section 3.3)
abbrev pub leading_string : List ℕ → List ℕ
leading_string [] = []
leading_string (count ∷ octets) = take count octets

-- the octets after it
abbrev pub beyond_string : List ℕ → List ℕ
beyond_string [] = []
beyond_string (count ∷ octets) = drop count octets

-- the labels of a name before its root (RFC 1035 section 3.1), at most `n`
abbrev pub labels_within : ℕ → List ℕ → List (List ℕ)
labels_within zero octets = []
labels_within (suc n) [] = []
labels_within (suc n) (zero ∷ octets) = []
labels_within (suc n) (suc count ∷ octets) = take (suc count) octets ∷ labels_within n (drop (suc count) octets)

-- the labels of the name that octets begin with, without the root
unfoldable pub name_labels : List ℕ → List (List ℕ)
name_labels octets = labels_within (length octets) octets

-- the octets after at most `n` labels and the root
abbrev pub beyond_labels : ℕ → List ℕ → List ℕ
beyond_labels zero octets = octets
beyond_labels (suc n) [] = []
beyond_labels (suc n) (zero ∷ octets) = octets
beyond_labels (suc n) (suc count ∷ octets) = beyond_labels n (drop (suc count) octets)

-- the octets after the name that octets begin with
unfoldable pub beyond_name : List ℕ → List ℕ
beyond_name octets = beyond_labels (length octets) octets

-- the name in octets is a label, and then the name in fewer octets
pub record HasFirstLabel (name label rest : List ℕ) : Type 0 where
  pub labels : name_labels name ≡ label ∷ name_labels rest
  pub after : beyond_name name ≡ beyond_name rest
  pub fewer : length rest < length name

-- the name in octets has no label, and these octets follow it
pub record IsRootBefore (name rest : List ℕ) : Type 0 where
  pub labels : name_labels name ≡ []
  pub after : beyond_name name ≡ rest

-- ---- labels

-- a decimal number from 0 to 255 without leading zeros: an octet of an address (RFC 1035 section 3.5)
abbrev pub is_octet_label : List ℕ → Bool
is_octet_label (a ∷ []) = is_ascii_digit a
is_octet_label (a ∷ b ∷ []) = is_ascii_digit a && (not (a == 48) && is_ascii_digit b)
is_octet_label (a ∷ b ∷ c ∷ []) =
    is_ascii_digit a && (not (a == 48) && (is_ascii_digit b && (is_ascii_digit c && nat_le (((a - 48) * 10 + (b - 48)) * 10 + (c - 48)) 255)))
is_octet_label label = false

-- a hexadecimal digit: four bits of an address (RFC 3596 section 2.5)
abbrev pub is_nibble_label : List ℕ → Bool
is_nibble_label (a ∷ []) = is_ascii_hexdigit a
is_nibble_label label = false

-- an asterisk (RFC 4592 section 2.1.1)
abbrev pub is_asterisk : List ℕ → Bool
is_asterisk label = pointwise nat_eq label (42 ∷ [])

-- a label with an `@`
abbrev pub has_at_sign : List ℕ → Bool
has_at_sign label = list_any (λ o. o == 64) label

-- a label that begins with `_`, as those of services do (RFC 6763 section 4.1)
abbrev pub begins_underscore : List ℕ → Bool
begins_underscore [] = false
begins_underscore (octet ∷ octets) = octet == 95

-- a label with a slash or a hyphen, as RFC 2317 section 4 divides a network, and as RFC 6763 section 11 names services
abbrev pub has_slash_or_hyphen : List ℕ → Bool
has_slash_or_hyphen label = list_any (λ o. o == 47 || o == 45) label

-- the label below which keys of DKIM are (RFC 6376 section 3.6.2.1)
abbrev pub is_key_zone : List ℕ → Bool
is_key_zone label = same_lowered label (codes "_domainkey")

abbrev pub passes_test : LabelTest → List ℕ → Bool
passes_test Asterisk label = is_asterisk label
passes_test AtSign label = has_at_sign label
passes_test Underscore label = begins_underscore label
passes_test Number label = is_octet_label label
passes_test HexDigit label = is_nibble_label label
passes_test KeyZone label = is_key_zone label

-- ---- names, by their labels without the root

-- the labels after the first `n`, if all these pass a test
abbrev pub beyond_passing : (List ℕ → Bool) → ℕ → List (List ℕ) → Option (List (List ℕ))
beyond_passing test zero labels = Some labels
beyond_passing test (suc n) [] = None
beyond_passing test (suc n) (label ∷ labels) = if test label then beyond_passing test n labels else None

-- a name is another, or below it
abbrev pub ends_in_name : List (List ℕ) → List (List ℕ) → Bool
ends_in_name [] top = same_name [] top
ends_in_name (label ∷ labels) top = same_name (label ∷ labels) top || ends_in_name labels top

-- the last two labels, or all of them if there are fewer
abbrev pub last_two : List (List ℕ) → List (List ℕ)
last_two (a ∷ b ∷ c ∷ labels) = last_two (b ∷ c ∷ labels)
last_two labels = labels

-- the parent of a name is a top or below it, if and only if its end is the top
abbrev pub IsEndBelow : List (List ℕ) → List (List ℕ) → List (List ℕ) → Type 0
IsEndBelow top end labels = ends_in_name (drop 1 labels) top ≡ same_name end top

-- a label with a slash or a hyphen comes before the labels of another name
abbrev pub is_divided_below : List (List ℕ) → List (List ℕ) → Bool
is_divided_below [] top = false
is_divided_below (label ∷ labels) top = not (same_name (label ∷ labels) top) && (has_slash_or_hyphen label || is_divided_below labels top)
