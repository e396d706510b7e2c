-- Dates in texts.
use Rattle.std.proofs.Common.{ℕ, ◌≡◌, List}
use Rattle.rdata_values.specs.declared.time.Date.{Date}
use Rattle.rdata_values.specs.Time.{field_at, date_of}

module _ (text : List ℕ) (y m d h n s : ℕ) (year : y ≡ field_at text 0 4) (month : m ≡ field_at text 4 6) (day : d ≡ field_at text 6 8)
    (hour : h ≡ field_at text 8 10) (minute : n ≡ field_at text 10 12) (second : s ≡ field_at text 12 14) where
  abbrev pub fields : Date
  fields = record { year = y; month = m; day = d; hour = h; minute = n; second = s }

  pub date_is : fields ≡ date_of text
  date_is = λ i. record { year = year i; month = month i; day = day i; hour = hour i; minute = minute i; second = second i }
