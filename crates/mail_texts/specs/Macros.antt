-- Macro strings and domain-specs (RFC 7208 section 7.1).
use Rattle.std.specs.Prelude.{ℕ, ◌-◌, ◌==◌, ◌&&◌, ◌||◌, not, nat_le, if◌then◌else◌, Bool, true, false, Option, Some, None, List, [], ◌∷◌, length, slice_get, option_and_then}
use Rattle.std.specs.Char.{is_ascii_alphabetic, is_ascii_alphanumeric, is_ascii_digit, to_ascii_lowercase}
use Rattle.std.specs.List.{list_all, list_any}
use Rattle.std.specs.Option.{option_map_or}
use Rattle.mail_texts.specs.Parts.{octets_after, octets_before}
use Rattle.mail_texts.specs.declared.macros.MacroPlace.{MacroPlace}
use Rattle.mail_texts.specs.declared.macros.MacroPlace.TheVariants.{Literal, Expanded, Percent, Open, Digits, Delimiters}

-- macro-literal = %x21-24 / %x26-7E
abbrev pub is_macro_literal : ℕ → Bool
is_macro_literal o = nat_le 33 o && (nat_le o 126 && not (o == 37))

-- macro-letter = "s" / "l" / "o" / "d" / "i" / "p" / "h" / "c" / "r" / "t" / "v", in any case
abbrev pub is_macro_letter : ℕ → Bool
is_macro_letter o = list_any (λ letter. to_ascii_lowercase o == letter) (115 ∷ 108 ∷ 111 ∷ 100 ∷ 105 ∷ 112 ∷ 104 ∷ 99 ∷ 114 ∷ 116 ∷ 118 ∷ [])

-- delimiter = "." / "-" / "+" / "," / "/" / "_" / "="
abbrev pub is_macro_delimiter : ℕ → Bool
is_macro_delimiter o = list_any (λ delimiter. o == delimiter) (46 ∷ 45 ∷ 43 ∷ 44 ∷ 47 ∷ 95 ∷ 61 ∷ [])

-- macro-string = *( macro-expand / macro-literal )
abbrev pub literal_after : ℕ → Option MacroPlace
literal_after o = if o == 37 then Some Percent else (if is_macro_literal o then Some Literal else None)

-- macro-expand = ( "%{" macro-letter transformers *delimiter "}" ) / "%%" / "%_" / "%-"
abbrev pub percent_after : ℕ → Option MacroPlace
percent_after o = if o == 123 then Some Open else (if o == 37 || (o == 95 || o == 45) then Some Expanded else None)

abbrev pub letter_after : ℕ → Option MacroPlace
letter_after o = if is_macro_letter o then Some Digits else None

abbrev pub delimiter_after : ℕ → Option MacroPlace
delimiter_after o = if o == 125 then Some Expanded else (if is_macro_delimiter o then Some Delimiters else None)

-- transformers = *DIGIT [ "r" ]
abbrev pub digit_after : ℕ → Option MacroPlace
digit_after o = if is_ascii_digit o then Some Digits else (if o == 114 || o == 82 then Some Delimiters else delimiter_after o)

-- what may follow at each place of these productions
abbrev pub macro_place_after : MacroPlace → ℕ → Option MacroPlace
macro_place_after Literal o = literal_after o
macro_place_after Expanded o = literal_after o
macro_place_after Percent o = percent_after o
macro_place_after Open o = letter_after o
macro_place_after Digits o = digit_after o
macro_place_after Delimiters o = delimiter_after o

-- the place after octets that begin at a place
abbrev pub macro_end : MacroPlace → List ℕ → Option MacroPlace
macro_end place [] = Some place
macro_end place (o ∷ octets) = option_and_then (λ next. macro_end next octets) (macro_place_after place o)

abbrev pub is_macro_end : Option MacroPlace → Bool
is_macro_end (Some Literal) = true
is_macro_end (Some Expanded) = true
is_macro_end _ = false

abbrev pub is_macro_string : List ℕ → Bool
is_macro_string octets = is_macro_end (macro_end Literal octets)

-- alphanum / "-"
abbrev pub is_label_octet : ℕ → Bool
is_label_octet o = is_ascii_alphanumeric o || o == 45

abbrev pub is_letter_or_hyphen : ℕ → Bool
is_letter_or_hyphen o = is_ascii_alphabetic o || o == 45

abbrev pub has_alphanumeric_ends : List ℕ → Bool
has_alphanumeric_ends octets = option_map_or is_ascii_alphanumeric (slice_get octets 0) false && option_map_or is_ascii_alphanumeric (slice_get octets (length octets - 1)) false

-- toplabel = ( *alphanum ALPHA *alphanum ) / ( 1*alphanum "-" *( alphanum / "-" ) alphanum )
abbrev pub is_top_label : List ℕ → Bool
is_top_label label = list_all is_label_octet label && (list_any is_letter_or_hyphen label && has_alphanumeric_ends label)

abbrev pub has_no_octets : List ℕ → Bool
has_no_octets [] = true
has_no_octets (o ∷ octets) = false

-- toplabel [ "." ]
abbrev pub is_top_end : List ℕ → Bool
is_top_end octets = is_top_label (octets_before 46 octets) && option_map_or has_no_octets (octets_after 46 octets) true

-- octets end with "." toplabel [ "." ]
abbrev pub ends_in_top : List ℕ → Bool
ends_in_top [] = false
ends_in_top (o ∷ octets) = (o == 46 && is_top_end octets) || ends_in_top octets

-- domain-spec = macro-string domain-end
-- domain-end = ( "." toplabel [ "." ] ) / macro-expand
abbrev pub is_domain_end : Option MacroPlace → List ℕ → Bool
is_domain_end (Some Expanded) octets = true
is_domain_end (Some Literal) octets = ends_in_top octets
is_domain_end _ octets = false

abbrev pub is_domain_spec : List ℕ → Bool
is_domain_spec octets = is_domain_end (macro_end Literal octets) octets
