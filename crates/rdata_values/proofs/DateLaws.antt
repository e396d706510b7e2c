-- A date's text, and that a second has one date.
use Rattle.std.proofs.Common.{ℕ, ◌≡◌, ◌<◌, ◌≤◌, ◌+◌, ◌-◌, ◌*◌, ◌/◌, ◌%◌, ◌^◌, List, [], ◌++◌, refl, sym, subst, arith, ap, ◌∙◌, inl, inr}
use Rattle.std.specs.Char.{digit_value}
use Rattle.std.specs.Str.Parse.{AllDigits, digits_value}
use Rattle.std.proofs.lemmas.Bool.Decides.{nat_tests}
use Rattle.rdata_values.specs.declared.time.Date.{Date}
use Rattle.rdata_values.specs.Time.{IsDate, days_at, seconds_at, date_of, date_text, two_digits, four_digits_of, IsDateText, IsTime, SpellsDate, DatesAreKind, days_before_month, days_before_year, month_days}
use Rattle.rdata_values.proofs.Calendar.{later_year, months_more, month_days_le, in_year}
use Rattle.rdata_values.proofs.ReadBack.{is_kind}
use Rattle.rdata_values.proofs.TimeTexts.{date_is}

glyph : (k : ℕ) → k < 10 → digit_value (48 + k) ≡ k
glyph k small = Prim.grind (arith, nat_tests)

two_value : (n : ℕ) → n < 100 → n ≡ digits_value 10 (two_digits n)
two_value n small =
    let high = glyph (n / 10) (omega arith) in
    let low = glyph (n % 10) (omega arith) in
    omega (arith, high, low)

four_value : (n : ℕ) → n < 10000 → n ≡ digits_value 10 (four_digits_of n)
four_value n small =
    let a = glyph (n / 100 / 10) (omega arith) in
    let b = glyph (n / 100 % 10) (omega arith) in
    let c = glyph (n % 100 / 10) (omega arith) in
    let d = glyph (n % 100 % 10) (omega arith) in
    omega (arith, a, b, c, d)

digit : (k : ℕ) → k < 10 → digit_value (48 + k) < 10
digit k small = let is = glyph k small in omega (arith, is)

date_back : (d : Date) → IsDate d → d ≡ date_of (date_text d)
date_back d h =
    date_is (date_text d) d.year d.month d.day d.hour d.minute d.second (four_value d.year h.four_digits) (two_value d.month (omega (arith, h.to_december))) (two_value d.day (let most = month_days_le d.year d.month in omega (arith, most, h.to_last)))
    (two_value d.hour (omega (arith, h.hour))) (two_value d.minute (omega (arith, h.minute))) (two_value d.second (omega (arith, h.second)))

two_all : (n : ℕ) (rest : List ℕ) → n < 100 → AllDigits 10 rest → AllDigits 10 (two_digits n ++ rest)
two_all n rest small h = (digit (n / 10) (omega arith), (digit (n % 10) (omega arith), h))

is_date_text : (d : Date) → IsDate d → IsDateText (date_text d)
is_date_text d h = (refl, all, subst IsDate (date_back d h) h)
  where
    all : AllDigits 10 (date_text d)
    all =
        let most = month_days_le d.year d.month in
        let seconds : List ℕ = two_digits d.second in
        let minutes : List ℕ = two_digits d.minute ++ seconds in
        let hours : List ℕ = two_digits d.hour ++ minutes in
        let days : List ℕ = two_digits d.day ++ hours in
        let months : List ℕ = two_digits d.month ++ days in
        let years : List ℕ = two_digits (d.year % 100) ++ months in
        two_all (d.year / 100) years (omega (arith, h.four_digits))
        (two_all (d.year % 100) months (omega arith)
        (two_all d.month days (omega (arith, h.to_december))
        (two_all d.day hours (omega (arith, most, h.to_last))
        (two_all d.hour minutes (omega (arith, h.hour)) (two_all d.minute seconds (omega (arith, h.minute)) (two_all d.second [] (omega (arith, h.second)) tt))))))

-- the days, hours, minutes and seconds of a number of seconds
same_parts : (a b h k m n s t : ℕ) → h < 24 → k < 24 → m < 60 → n < 60 → s < 60 → t < 60 → ((a * 24 + h) * 60 + m) * 60 + s ≡ ((b * 24 + k) * 60 + n) * 60 + t
    → (a ≡ b) × (h ≡ k) × (m ≡ n) × (s ≡ t)
same_parts a b h k m n s t h1 h2 h3 h4 h5 h6 is = (omega arith, omega arith, omega arith, omega arith)

no_later_year : (d e : Date) → IsDate d → days_at d ≡ days_at e → d.year < e.year → ⊥
no_later_year d e h same less =
    let within = in_year d.year d.month d.day h.from_january h.to_december h.from_first h.to_last in
    let more = later_year d.year e.year h.from_1970 less in
    omega (arith, within, more, same)

no_later_month : (year a b x y : ℕ) → 1 ≤ a → a ≤ 12 → 1 ≤ x → x ≤ month_days year a → days_before_month year a + (x - 1) ≡ days_before_month year b + (y - 1) → a < b → ⊥
no_later_month year a b x y from to first last same less = let more = months_more year a b from to less in omega (arith, more, first, last, same)

one_day : (d e : Date) → IsDate d → IsDate e → days_at d ≡ days_at e → (d.year ≡ e.year) × (d.month ≡ e.month) × (d.day ≡ e.day)
one_day d e h k same = (year, month, day)
  where
    year : d.year ≡ e.year
    year =
        let up : d.year < e.year → ⊥ = no_later_year d e h same in
        let down : e.year < d.year → ⊥ = no_later_year e d k (sym same) in
        omega (arith, up, down)

    before : days_before_month d.year d.month + (d.day - 1) ≡ days_before_month d.year e.month + (e.day - 1)
    before =
        let years : days_before_year d.year ≡ days_before_year e.year = ap days_before_year year in
        let months : days_before_month d.year e.month ≡ days_before_month e.year e.month = ap (λ y. days_before_month y e.month) year in
        omega (arith, same, years, months)

    month : d.month ≡ e.month
    month =
        let up : d.month < e.month → ⊥ = no_later_month d.year d.month e.month d.day e.day h.from_january h.to_december h.from_first h.to_last before in
        let last : e.day ≤ month_days d.year e.month = subst (λ y. e.day ≤ month_days y e.month) (sym year) k.to_last in
        let down : e.month < d.month → ⊥ = no_later_month d.year e.month d.month e.day d.day k.from_january k.to_december k.from_first last (sym before) in
        omega (arith, up, down)

    day : d.day ≡ e.day
    day =
        let both = before in
        let months : days_before_month d.year d.month ≡ days_before_month d.year e.month = ap (days_before_month d.year) month in
        omega (arith, both, months, h.from_first, k.from_first)

pub one_date : (d e : Date) → IsDate d → IsDate e → seconds_at d ≡ seconds_at e → d ≡ e
one_date d e h k is =
    let parts = same_parts (days_at d) (days_at e) d.hour e.hour d.minute e.minute d.second e.second h.hour k.hour h.minute k.minute h.second k.second is in
    let days = one_day d e h k parts.0 in
    λ i. record { year = days.0 i; month = days.1 i; day = days.2 i; hour = parts.1 i; minute = parts.2 i; second = parts.3 i }

-- a text writes one second
time_once : (text : List ℕ) (n m : ℕ) → IsTime text n → IsTime text m → n ≡ m
time_once text n m (inl h) (inl k) = h.1 ∙ sym k.1
time_once text n m (inl h) (inr k) = absurd (omega (arith, h.0.0, k.0))
time_once text n m (inr h) (inl k) = absurd (omega (arith, k.0.0, h.0))
time_once text n m (inr h) (inr k) = h.1.1 ∙ sym k.1.1

own : (d : Date) → IsDate d → seconds_at d < 2 ^ 32 → IsTime (date_text d) (seconds_at d)
own d h small =
    let same : seconds_at d ≡ seconds_at (date_of (date_text d)) = ap seconds_at (date_back d h) in
    inl (is_date_text d h, omega (arith, same, small))

pub dates_are_kind : DatesAreKind
dates_are_kind = is_kind (λ d. IsDate d × (seconds_at d < 2 ^ 32)) SpellsDate date_text (λ d h. (h.0, own d h.0 h.1)) (λ text d e h k. one_date d e h.0 k.0 (time_once text (seconds_at d) (seconds_at e) h.1 k.1))
