-- Days of years and of months.
use Rattle.std.proofs.Common.{ℕ, zero, suc, ◌≡◌, ◌<◌, ◌≤◌, ◌+◌, ◌-◌, ◌*◌, ◌/◌, Bool, true, false, List, [], ◌∷◌, take, get_or, refl, sym, subst, arith, ap, ◌∙◌, ⊎_elim}
use Rattle.std.specs.Prelude.{sum, nat_le, if◌then◌else◌}
use Rattle.std.proofs.Math.Nat.{eq-or-lt_of_le}
use Rattle.std.proofs.lemmas.List.{take-take}
use Rattle.std.specs.List.{list_all}
use Rattle.std.proofs.lemmas.Bool.{and_parts}
use Rattle.std.proofs.lemmas.Bool.Decides.{nat_tests}
use Rattle.std.proofs.lemmas.List.Sums.{sum_by-take-le, sum_by_more}
use Rattle.rdata_values.specs.Time.{is_leap, year_days, months, month_days, days_of_years, days_before_year, days_before_month}

leap_step : (year last : ℕ) → year ≡ last + 1 → year_days year + year / 100 + last / 4 + last / 400 ≡ 365 + year / 4 + year / 400 + last / 100
leap_step year last next = Prim.grind (arith, nat_tests)

-- the leap years up to a year are every fourth, without every hundredth, and with every four
-- hundredth; 477 of them are before 1970
pub days_closed : (n : ℕ) → days_of_years n + (1969 + n) / 100 + 477 ≡ n * 365 + (1969 + n) / 4 + (1969 + n) / 400
days_closed zero = refl
days_closed (suc n) =
    let before = days_closed n in
    let step = leap_step (1970 + n) (1969 + n) (omega arith) in
    let same : 1969 + suc n ≡ 1970 + n = omega arith in
    rw same (omega (arith, before, step))

year_days_le : (year : ℕ) → year_days year ≤ 366
year_days_le year = Prim.grind (arith, nat_tests)

pub days_of_years_le : (n : ℕ) → days_of_years n ≤ 366 * n
days_of_years_le zero = omega arith
days_of_years_le (suc n) = let before = days_of_years_le n in let more = year_days_le (1970 + n) in omega (arith, before, more)

-- the months are the year
pub months_sum : (year : ℕ) → sum (months year) ≡ year_days year
months_sum year = by (is_leap year)
  where
    by : (b : Bool) → sum (31 ∷ (if b then 29 else 28) ∷ 31 ∷ 30 ∷ 31 ∷ 30 ∷ 31 ∷ 31 ∷ 30 ∷ 31 ∷ 30 ∷ 31 ∷ []) ≡ (if b then 366 else 365)
    by true = refl
    by false = refl

pub before_month_le : (year month : ℕ) → days_before_month year month ≤ 366
before_month_le year month =
    let part = sum_by-take-le (λ d. d) (months year) (month - 1) in
    let all = months_sum year in
    let most = year_days_le year in
    omega (arith, part, all, most)

pub before_month_more : (year month : ℕ) → 1 ≤ month → month ≤ 12 → days_before_month year (month + 1) ≡ days_before_month year month + month_days year month
before_month_more year month low high =
    let is : month + 1 - 1 ≡ month - 1 + 1 = omega arith in
    rw is (sum_by_more (λ d. d) (months year) (month - 1) 0 (omega arith))

-- the days before a later year have those of an earlier year among them
pub years_more : (a b : ℕ) → a < b → days_of_years a + year_days (1970 + a) ≤ days_of_years b
years_more a zero h = absurd (omega arith)
years_more a (suc b) h =
    ⊎_elim (λ (same : a ≡ b). subst (λ y. days_of_years y + year_days (1970 + y) ≤ days_of_years b + year_days (1970 + b)) (sym same) (omega arith))
    (λ (less : a < b). let before = years_more a b less in omega (arith, before)) (eq-or-lt_of_le (omega arith))

pub next_year : (year : ℕ) → 1970 ≤ year → days_before_year (year + 1) ≡ days_before_year year + year_days year
next_year year from =
    let next : year + 1 - 1970 ≡ suc (year - 1970) = omega arith in
    let same : 1970 + (year - 1970) ≡ year = omega arith in
    ap days_of_years next ∙ ap (λ y. days_before_year year + year_days y) same

pub days_of_years_ge : (n : ℕ) → 365 * n ≤ days_of_years n
days_of_years_ge zero = omega arith
days_of_years_ge (suc n) = let before = days_of_years_ge n in let more = year_days_ge (1970 + n) in omega (arith, before, more)
  where
    year_days_ge : (year : ℕ) → 365 ≤ year_days year
    year_days_ge year = Prim.grind (arith, nat_tests)

-- and the days before a later month
pub months_more : (year a b : ℕ) → 1 ≤ a → a ≤ 12 → a < b → days_before_month year a + month_days year a ≤ days_before_month year b
months_more year a b from to less =
    let next = before_month_more year a from to in
    let part = sum_by-take-le (λ d. d) (take (b - 1) (months year)) (a + 1 - 1) in
    let same : take (a + 1 - 1) (take (b - 1) (months year)) ≡ take (a + 1 - 1) (months year) = take-take (a + 1 - 1) (b - 1) (months year) (omega arith) in
    let part : days_before_month year (a + 1) ≤ days_before_month year b = rw same at part in
    omega (arith, next, part)

pub in_year : (year month day : ℕ) → 1 ≤ month → month ≤ 12 → 1 ≤ day → day ≤ month_days year month → days_before_month year month + (day - 1) < year_days year
in_year year month day from to first last =
    let more = months_more year month 13 from to (omega arith) in
    let all = months_sum year in
    omega (arith, more, all)

small_at : (xs : List ℕ) → list_all (λ d. nat_le d 31) xs ≡ true → (i : ℕ) → get_or xs i 0 ≤ 31
small_at [] h i = omega arith
small_at (d ∷ ds) h zero = let one = (and_parts (nat_le d 31) (list_all (λ d. nat_le d 31) ds) h).0 in Prim.grind (arith, nat_tests)
small_at (d ∷ ds) h (suc i) = small_at ds (and_parts (nat_le d 31) (list_all (λ d. nat_le d 31) ds) h).1 i

pub month_days_le : (year month : ℕ) → month_days year month ≤ 31
month_days_le year month = small_at (months year) (by (is_leap year)) (month - 1)
  where
    by : (b : Bool) → list_all (λ d. nat_le d 31) (31 ∷ (if b then 29 else 28) ∷ 31 ∷ 30 ∷ 31 ∷ 30 ∷ 31 ∷ 31 ∷ 30 ∷ 31 ∷ 30 ∷ 31 ∷ []) ≡ true
    by true = refl
    by false = refl

pub later_year : (a b : ℕ) → 1970 ≤ a → a < b → days_before_year a + year_days a ≤ days_before_year b
later_year a b from less =
    let more = years_more (a - 1970) (b - 1970) (omega arith) in
    let same : 1970 + (a - 1970) ≡ a = omega arith in
    rw same at more

pub first_of_year : (n : ℕ) → days_before_year (1970 + n) ≡ days_of_years n
first_of_year n = ap days_of_years (omega arith)
