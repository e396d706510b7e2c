-- Each second of 32 bits has a date.
use Rattle.std.proofs.Common.{ℕ, zero, suc, ◌≡◌, ◌<◌, ◌≤◌, ◌+◌, ◌-◌, ◌/◌, ◌%◌, ◌^◌, refl, sym, subst, arith, ap, ◌∙◌, lt-ltb, le-ltb, inl, inr}
use Rattle.std.proofs.lemmas.Bool.{cases_lt}
use Rattle.std.specs.Prelude.{nat_lt, find, unwrap_or}
use Rattle.std.specs.List.{range_with_len}
use Rattle.rdata_values.specs.declared.time.Date.{Date}
use Rattle.rdata_values.specs.Time.{IsDate, days_before_month, days_before_year, year_days, seconds_at, holding, year_at, month_at, date_at, SecondsHaveDates}
use Rattle.rdata_values.proofs.Calendar.{months_sum, next_year, before_month_more}
use Rattle.rdata_values.proofs.DateLaws.{one_date}

-- a day lies in number `k`, after its beginning and before its end, of the `count` numbers from `from` on
pub record Holds (days_before : ℕ → ℕ) (from count day k : ℕ) : Type 0 where
  pub low : from ≤ k
  pub high : k < from + count
  pub begun : days_before k ≤ day
  pub before_end : day < days_before (k + 1)

later : (days_before : ℕ → ℕ) (from count day k : ℕ) → Holds days_before (from + 1) count day k → Holds days_before from (suc count) day k
later days_before from count day k h = record { low = omega (arith, h.low); high = omega (arith, h.high); begun = h.begun; before_end = h.before_end }

found : (days_before : ℕ → ℕ) (from count day d : ℕ) → days_before from ≤ day → day < days_before (from + count)
    → Holds days_before from count day (unwrap_or (find (λ k. nat_lt day (days_before (k + 1))) (range_with_len from count)) d)
found days_before from zero day d low high = let same : days_before (from + 0) ≡ days_before from = ap days_before (omega arith) in absurd (omega (arith, low, high, same))
found days_before from (suc count) day d low high = elim (cases_lt day (days_before (from + 1))) [
  | inl here ↦ rw (lt-ltb day (days_before (from + 1)) here) (record { low = omega arith; high = omega arith; begun = low; before_end = here })
  | inr on ↦ rw (le-ltb day (days_before (from + 1)) on) (later days_before from count day _ (found days_before (from + 1) count day d on (subst (λ k. day < days_before k) (omega arith) high)))
]

holds : (days_before : ℕ → ℕ) (from count day : ℕ) → days_before from ≤ day → day < days_before (from + count) → Holds days_before from count day (holding days_before from count day)
unfolding holding
holds days_before from count day low high = found days_before from count day from low high

year_holds : (day : ℕ) → day < 50038 → Holds days_before_year 1970 137 day (year_at day)
unfolding year_at
year_holds day small = holds days_before_year 1970 137 day (omega arith) small

month_holds : (year day : ℕ) → day < year_days year → Holds (days_before_month year) 1 12 day (month_at year day)
unfolding month_at
month_holds year day small = let all = months_sum year in holds (days_before_month year) 1 12 day (omega arith) (omega (arith, all))

-- the date of a second, by its year and month
abbrev at : ℕ → ℕ → ℕ → Date
at n year month = record {
  year = year;
  month = month;
  day = n / 86400 - days_before_year year - days_before_month year month + 1;
  hour = n % 86400 / 3600;
  minute = n % 3600 / 60;
  second = n % 60;
}

within_year : (n year : ℕ) → Holds days_before_year 1970 137 (n / 86400) year → n / 86400 - days_before_year year < year_days year
within_year n year h = let next = next_year year h.low in omega (arith, next, h.begun, h.before_end)

is_date : (n year month : ℕ) → Holds days_before_year 1970 137 (n / 86400) year → Holds (days_before_month year) 1 12 (n / 86400 - days_before_year year) month → IsDate (at n year month)
is_date n year month h k =
    let next = before_month_more year month k.low (omega (arith, k.high)) in
    record {
      from_1970 = h.low;
      four_digits = omega (arith, h.high);
      from_january = k.low;
      to_december = omega (arith, k.high);
      from_first = omega arith;
      to_last = omega (arith, next, k.begun, k.before_end);
      hour = omega arith;
      minute = omega arith;
      second = omega arith;
    }

is_second : (n year month : ℕ) → Holds days_before_year 1970 137 (n / 86400) year → Holds (days_before_month year) 1 12 (n / 86400 - days_before_year year) month → seconds_at (at n year month) ≡ n
is_second n year month h k = omega (arith, h.begun, k.begun)

module _ (n : ℕ) (small : n < 2 ^ 32) where
  in_year_at : Holds days_before_year 1970 137 (n / 86400) (year_at (n / 86400))
  in_year_at = year_holds (n / 86400) (omega (arith, small))

  in_month_at : Holds (days_before_month (year_at (n / 86400))) 1 12 (n / 86400 - days_before_year (year_at (n / 86400))) (month_at (year_at (n / 86400)) (n / 86400 - days_before_year (year_at (n / 86400))))
  in_month_at = month_holds (year_at (n / 86400)) (n / 86400 - days_before_year (year_at (n / 86400))) (within_year n (year_at (n / 86400)) in_year_at)

  pub valid : IsDate (date_at n)
  unfolding date_at
  valid = is_date n (year_at (n / 86400)) _ in_year_at in_month_at

  pub same : seconds_at (date_at n) ≡ n
  unfolding date_at
  same = is_second n (year_at (n / 86400)) _ in_year_at in_month_at

pub is_date_at : (n : ℕ) (d : Date) → n < 2 ^ 32 → IsDate d → seconds_at d ≡ n → d ≡ date_at n
is_date_at n d small h is = one_date d (date_at n) h (valid n small) (is ∙ sym (same n small))

pub seconds_have_dates : SecondsHaveDates
seconds_have_dates = record { valid = valid; same = same; alone = λ d h small. sym (is_date_at (seconds_at d) d small h refl) }
