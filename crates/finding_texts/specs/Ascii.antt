-- Characters that labels of names may have (RFC 5892).
use Rattle.std.specs.Prelude.{ℕ, ◌==◌, ◌||◌, nat_lt, Bool, true, false, [], ◌∷◌}
use Rattle.std.specs.List.{list_any}
use Rattle.ucd_category.specs.GeneralCategory.{general_category}
use Rattle.ucd_category.specs.declared.GeneralCategory.{GeneralCategory}
use Rattle.ucd_category.specs.declared.GeneralCategory.TheVariants.{LowercaseLetter, UppercaseLetter, OtherLetter, DecimalNumber, ModifierLetter, NonspacingMark, SpacingMark}

-- the categories of LetterDigits
abbrev pub is_letter_category : GeneralCategory → Bool
is_letter_category LowercaseLetter = true
is_letter_category UppercaseLetter = true
is_letter_category OtherLetter = true
is_letter_category DecimalNumber = true
is_letter_category ModifierLetter = true
is_letter_category NonspacingMark = true
is_letter_category SpacingMark = true
is_letter_category _ = false

abbrev pub is_letter_digit : ℕ → Bool
is_letter_digit c = is_letter_category (general_category c)

-- the exceptions that are valid, and those that are valid between certain letters
abbrev pub is_listed_letter : ℕ → Bool
is_listed_letter c = list_any (λ x. x == c) (183 ∷ 885 ∷ 1523 ∷ 1524 ∷ 1789 ∷ 1790 ∷ 3851 ∷ 8204 ∷ 8205 ∷ 12295 ∷ 12539 ∷ [])

abbrev pub may_be_in_label : ℕ → Bool
may_be_in_label c = nat_lt c 128 || (is_letter_digit c || is_listed_letter c)
