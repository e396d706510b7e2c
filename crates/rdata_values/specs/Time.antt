-- Times of signatures, as dates and as seconds since 1970 began (RFC 4034 section 3.2).
use Rattle.std.specs.Prelude.{ℕ, zero, suc, ◌≡◌, ◌<◌, ◌≤◌, ◌*◌, ◌+◌, ◌-◌, ◌/◌, ◌%◌, ◌^◌, ◌⊎◌, ◌==◌, ◌||◌, ◌&&◌, not, Bool, List, [], ◌∷◌, ◌++◌, length, sum, take, Option, MatchOption, slice_index, slice_range, nat_lt, find, unwrap_or, if◌then◌else◌}
use Rattle.std.specs.List.{range_with_len}
use Rattle.std.specs.Str.Parse.{AllDigits, digits_value}
use Rattle.rdata_values.specs.Kind.{IsKind}
use Rattle.rdata_values.specs.Numbers.{SpellsNumber}
use Rattle.rdata_values.specs.declared.time.Date.{Date}

-- every fourth year, and of those that end a century every fourth
abbrev pub is_leap : ℕ → Bool
is_leap year = (year % 4 == 0) && (not (year % 100 == 0) || (year % 400 == 0))

abbrev pub year_days : ℕ → ℕ
year_days year = if is_leap year then 366 else 365

-- the days of the months, from January
abbrev pub months : ℕ → List ℕ
months year = 31 ∷ (if is_leap year then 29 else 28) ∷ 31 ∷ 30 ∷ 31 ∷ 30 ∷ 31 ∷ 31 ∷ 30 ∷ 31 ∷ 30 ∷ 31 ∷ []

abbrev pub month_days : ℕ → ℕ → ℕ
month_days year month = slice_index (months year) (month - 1)

-- the number of days of the first years from 1970 on
abbrev pub days_of_years : ℕ → ℕ
days_of_years zero = 0
days_of_years (suc n) = days_of_years n + year_days (1970 + n)

abbrev pub days_before_year : ℕ → ℕ
days_before_year year = days_of_years (year - 1970)

abbrev pub days_before_month : ℕ → ℕ → ℕ
days_before_month year month = sum (take (month - 1) (months year))

-- a date from 1970 on, and a time of that day
pub record IsDate (d : Date) : Type 0 where
  pub from_1970 : 1970 ≤ d.year
  pub four_digits : d.year < 10000
  pub from_january : 1 ≤ d.month
  pub to_december : d.month ≤ 12
  pub from_first : 1 ≤ d.day
  pub to_last : d.day ≤ month_days d.year d.month
  pub hour : d.hour < 24
  pub minute : d.minute < 60
  pub second : d.second < 60

-- the days from the first of January 1970 to a day
abbrev pub days_at : Date → ℕ
days_at d = days_before_year d.year + days_before_month d.year d.month + (d.day - 1)

abbrev pub seconds_at : Date → ℕ
seconds_at d = ((days_at d * 24 + d.hour) * 60 + d.minute) * 60 + d.second

-- the number that these digits of a text write
abbrev pub field_at : List ℕ → ℕ → ℕ → ℕ
field_at text from to = digits_value 10 (slice_range text from to)

-- YYYYMMDDHHmmSS
abbrev pub date_of : List ℕ → Date
date_of text = record {
  year = field_at text 0 4;
  month = field_at text 4 6;
  day = field_at text 6 8;
  hour = field_at text 8 10;
  minute = field_at text 10 12;
  second = field_at text 12 14;
}

abbrev pub IsDateText : List ℕ → Type 0
IsDateText text = (length text ≡ 14) × AllDigits 10 text × IsDate (date_of text)

-- the text of a number in two digits, and in four
abbrev pub two_digits : ℕ → List ℕ
two_digits n = (48 + n / 10) ∷ (48 + n % 10) ∷ []

abbrev pub four_digits_of : ℕ → List ℕ
four_digits_of n = two_digits (n / 100) ++ two_digits (n % 100)

abbrev pub date_text : Date → List ℕ
date_text d = four_digits_of d.year ++ two_digits d.month ++ two_digits d.day ++ two_digits d.hour ++ two_digits d.minute ++ two_digits d.second

-- A text writes a second from 1970 on, modulo 2^32: fourteen digits of a date, or at most ten of
-- the seconds themselves.
abbrev pub IsTime : List ℕ → ℕ → Type 0
IsTime text seconds =
    (IsDateText text × (seconds ≡ seconds_at (date_of text) % 2 ^ 32)) ⊎ ((length text ≤ 10) × SpellsNumber text seconds × (seconds < 2 ^ 32))

-- the first number from `from` on before whose end a day lies, of `count` numbers; `days_before` counts the days before each
unfoldable pub holding : (ℕ → ℕ) → ℕ → ℕ → ℕ → ℕ
holding days_before from count day = unwrap_or (find (λ k. nat_lt day (days_before (k + 1))) (range_with_len from count)) from

-- the year of a day, by the days since 1970 began
unfoldable pub year_at : ℕ → ℕ
year_at day = holding days_before_year 1970 137 day

-- the month of a day of a year, by the days since the year began
unfoldable pub month_at : ℕ → ℕ → ℕ
month_at year day = holding (days_before_month year) 1 12 day

-- the date of a second, counted from the beginning of 1970, below 2^32
unfoldable pub date_at : ℕ → Date
date_at n =
    let day = n / 86400 in
    let year = year_at day in
    let day_of_year = day - days_before_year year in
    let month = month_at year day_of_year in
    record {
      year = year;
      month = month;
      day = day_of_year - days_before_month year month + 1;
      hour = n % 86400 / 3600;
      minute = n % 3600 / 60;
      second = n % 60;
    }

-- each second of 32 bits has a date, and is the second of that date alone
pub record SecondsHaveDates : Type 0 where
  pub valid : (n : ℕ) → n < 2 ^ 32 → IsDate (date_at n)
  pub same : (n : ℕ) → n < 2 ^ 32 → seconds_at (date_at n) ≡ n
  pub alone : (d : Date) → IsDate d → seconds_at d < 2 ^ 32 → date_at (seconds_at d) ≡ d

abbrev pub FindsSeconds : List ℕ → Option ℕ → Type 0
FindsSeconds text r = MatchOption r ((seconds : ℕ) → IsTime text seconds → ⊥) (IsTime text)

-- the date of the second that a text writes
abbrev pub SpellsDate : List ℕ → Date → Type 0
SpellsDate text d = IsDate d × IsTime text (seconds_at d)

abbrev pub DatesAreKind : Type 0
DatesAreKind = IsKind (λ d. IsDate d × (seconds_at d < 2 ^ 32)) SpellsDate date_text
