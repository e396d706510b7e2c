-- Numbers of decimal digits.
use Rattle.std.specs.Prelude.{ℕ, suc, ◌<◌, ◌+◌, ◌^◌, Bool, not, ◌&&◌, ◌==◌, nat_lt, nat_le, if◌then◌else◌, List, [], ◌∷◌, length, take, drop, Option, SomeIff, Result, Ok, Err}
use Rattle.std.specs.List.{list_all}
use Rattle.std.specs.Char.{is_digit}
use Rattle.std.specs.Str.Parse.{AllDigits, digits_value}
use Rattle.zone_generate.specs.declared.error.GenerateErrorKind.{GenerateErrorKind}

-- the index of the first such octet, or the length if there is none
abbrev pub octet_index : ℕ → List ℕ → ℕ
octet_index octet [] = 0
octet_index octet (c ∷ text) = if c == octet then 0 else suc (octet_index octet text)

-- whether a text has such an octet; the text before the first, or all of it; and the text after the first, or nothing
abbrev pub has_octet : ℕ → List ℕ → Bool
has_octet octet text = nat_lt (octet_index octet text) (length text)

abbrev pub before_octet : ℕ → List ℕ → List ℕ
before_octet octet text = take (octet_index octet text) text

abbrev pub after_octet : ℕ → List ℕ → List ℕ
after_octet octet text = drop (octet_index octet text + 1) text

-- one decimal digit or more, and nothing else
abbrev pub are_digits : List ℕ → Bool
are_digits text = list_all (λ c. is_digit c 10) text && not (length text == 0)

-- the number that digits write, if it is below 2^32
abbrev pub ReadsDigits : List ℕ → Option ℕ → Type 0
ReadsDigits text r = SomeIff r (AllDigits 10 text × (digits_value 10 text < 2 ^ 32)) (digits_value 10 text)

-- the number that a text writes, or why it is rejected: it isn't a number, or the number exceeds the most
abbrev pub numeral_of : ℕ → GenerateErrorKind → GenerateErrorKind → List ℕ → Result ℕ GenerateErrorKind
numeral_of most bad large text =
    if are_digits text then (if nat_le (digits_value 10 text) most then Ok (digits_value 10 text) else Err large) else Err bad
