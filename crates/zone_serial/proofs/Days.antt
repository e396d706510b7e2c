-- Years of seconds of 32 bits.
use Rattle.std.proofs.Common.{◌≡◌, ℕ, ◌-◌, ◌<◌, ◌≤◌, ◌^◌, arith}
use Rattle.rdata_values.proofs.Calendar.{days_of_years_ge}
use Rattle.rdata_values.specs.Time.{IsDate, seconds_at}
use Rattle.rdata_values.specs.declared.time.Date.{Date}

pub year_at_most : (d : Date) (n : ℕ) → IsDate d → seconds_at d ≡ n → n < 2 ^ 32 → d.year ≤ 2106
year_at_most d n is e p = let least = days_of_years_ge (d.year - 1970) in omega (arith, least, e, is.from_1970)
