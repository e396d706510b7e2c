-- The path of a template (RFC 9461 section 5), by the grammar of RFC 6570 section 2.
use Rattle.std.specs.Prelude.{ℕ, ◌≡◌, ◌==◌, ◌&&◌, ◌||◌, Bool, true, false, not, nat_le, if◌then◌else◌, List, [], ◌∷◌, length, drop, codes, Some, slice_get}
use Rattle.std.specs.List.{before_first, list_all, list_any, position_or_len, slice_split}
use Rattle.std.specs.Str.{IsUtf8, bytes_eq}

-- a letter, a digit or an underscore
abbrev pub is_variable_octet : ℕ → Bool
is_variable_octet o = (nat_le 65 o && nat_le o 90) || (nat_le 97 o && nat_le o 122) || (nat_le 48 o && nat_le o 57) || o == 95

-- a hexadecimal digit
abbrev pub is_hex_octet : ℕ → Bool
is_hex_octet o = (nat_le 48 o && nat_le o 57) || (nat_le 65 o && nat_le o 70) || (nat_le 97 o && nat_le o 102)

-- a percent sign and two hexadecimal digits
abbrev pub begins_escape : List ℕ → Bool
begins_escape (a ∷ b ∷ c ∷ rest) = a == 37 && is_hex_octet b && is_hex_octet c
begins_escape (a ∷ b ∷ []) = false
begins_escape (a ∷ []) = false
begins_escape [] = false

-- letters, digits, underscores and escapes
unfoldable pub are_variable_octets : List ℕ → Bool
are_variable_octets [] = true
are_variable_octets (a ∷ []) = is_variable_octet a
are_variable_octets (a ∷ b ∷ []) = is_variable_octet a && is_variable_octet b
are_variable_octets (a ∷ b ∷ c ∷ rest) = if is_variable_octet a then are_variable_octets (b ∷ c ∷ rest) else (begins_escape (a ∷ b ∷ c ∷ rest) && are_variable_octets rest)

-- one or more of them
abbrev pub are_some_variable_octets : List ℕ → Bool
are_some_variable_octets [] = false
are_some_variable_octets (o ∷ rest) = are_variable_octets (o ∷ rest)

-- the name of a variable: one or more of them, and one or more after each dot
abbrev pub is_variable_name : List ℕ → Bool
is_variable_name name = list_all are_some_variable_octets (slice_split (λ o. o == 46) name)

abbrev pub is_limit_digit : ℕ → Bool
is_limit_digit o = nat_le 48 o && nat_le o 57

-- a number from 1 to 9999: one to four digits, the first not zero
abbrev pub is_length_limit : List ℕ → Bool
is_length_limit [] = false
is_length_limit (d ∷ digits) = nat_le (length digits) 3 && not (d == 48) && list_all is_limit_digit (d ∷ digits)

-- after the name: nothing, an asterisk, or a colon and such a number
abbrev pub is_modifier : List ℕ → Bool
is_modifier [] = true
is_modifier (o ∷ rest) = if o == 42 then length rest == 0 else (o == 58 && is_length_limit rest)

-- an asterisk or a colon, where the modifier begins
abbrev pub is_modifier_mark : ℕ → Bool
is_modifier_mark o = o == 42 || o == 58

abbrev pub is_variable : List ℕ → Bool
is_variable variable = is_variable_name (before_first is_modifier_mark variable) && is_modifier (drop (position_or_len is_modifier_mark variable) variable)

-- `dns`, perhaps with a modifier
abbrev pub is_named_dns : List ℕ → Bool
is_named_dns variable = bytes_eq (before_first is_modifier_mark variable) (codes "dns")

-- `+`, `#`, `.`, `/`, `;`, `?` and `&`
abbrev pub is_operator : ℕ → Bool
is_operator o = o == 43 || o == 35 || o == 46 || o == 47 || o == 59 || o == 63 || o == 38

abbrev pub without_operator : List ℕ → List ℕ
without_operator [] = []
without_operator (o ∷ rest) = if is_operator o then rest else o ∷ rest

-- the variables of the expression before a text, up to a closing brace: separated by commas, after an operator if there is one
abbrev pub leading_variables : List ℕ → List (List ℕ)
leading_variables text = slice_split (λ o. o == 44) (without_operator (before_first (λ o. o == 125) text))

abbrev pub begins_expression : List ℕ → Bool
begins_expression text = list_any (λ o. o == 125) text && list_all is_variable (leading_variables text)

abbrev pub begins_query : List ℕ → Bool
begins_query text = list_any is_named_dns (leading_variables text)

-- the text after each opening brace, up to the next
abbrev pub after_braces : List ℕ → List (List ℕ)
after_braces text = drop 1 (slice_split (λ o. o == 123) text)

-- UTF-8 that begins with a slash, in which each opening brace begins an expression, and one of these has the variable `dns`
pub record IsQueryPath (octets : List ℕ) : Type 0 where
  pub is_text : IsUtf8 octets
  pub is_path : slice_get octets 0 ≡ Some 47
  pub expressions : list_all begins_expression (after_braces octets) ≡ true
  pub query : list_any begins_query (after_braces octets) ≡ true
