-- Worked examples of the definitions.
use Rattle.std.specs.Prelude.{◌≡◌, ◌-◌, ◌^◌, true, false, [], ◌∷◌, map, refl}
use Rattle.std.proofs.Common.{arith, inl, inr}
use Rattle.rdata_values.specs.Time.{date_at, year_at, month_at, holding}
use Rattle.zone_serial.specs.NextSerials.{IsDatedUpTo, day_of, day_serial, incremented, increments}
use Rattle.zone_serial.specs.SerialArithmetic.{IsLessByDistance, IsSerialAfter, serial_sum}
use Rattle.zone_serial.specs.SerialLaws.{farthest_from}

-- ---- RFC 1982 section 5.1: serials of 2 bits, to which 0 or 1 is added
two_bits : map (λ s. serial_sum 2 s 1) (0 ∷ 1 ∷ 2 ∷ 3 ∷ []) ≡ 1 ∷ 2 ∷ 3 ∷ 0 ∷ []
two_bits = refl

one_after_zero : IsSerialAfter 2 0 1
one_after_zero = (1, omega arith, omega arith, refl)

zero_after_three : IsSerialAfter 2 3 0
zero_after_three = (1, omega arith, omega arith, refl)

-- "it is not defined whether 2 > 0 or 0 > 2"
two_and_zero : IsLessByDistance 2 0 2 → ⊥
two_and_zero (inl h) = omega (arith, h.1)
two_and_zero (inr h) = omega (arith, h.0)

zero_and_two : IsLessByDistance 2 2 0 → ⊥
zero_and_two (inl h) = omega (arith, h.0)
zero_and_two (inr h) = omega (arith, h.1)

-- ---- RFC 1982 section 5.2: serials of 8 bits
eight_bits : serial_sum 8 255 1 ∷ serial_sum 8 100 100 ∷ serial_sum 8 200 100 ∷ [] ≡ 0 ∷ 200 ∷ 44 ∷ []
eight_bits = refl

-- 1 > 0, 44 > 0, 100 > 0, 100 > 44, 200 > 100, 255 > 200, 0 > 255, 100 > 255, 0 > 200, 44 > 200
row_1 : IsSerialAfter 8 0 1
row_1 = (1, omega arith, omega arith, refl)

row_2 : IsSerialAfter 8 0 44
row_2 = (44, omega arith, omega arith, refl)

row_3 : IsSerialAfter 8 0 100
row_3 = (100, omega arith, omega arith, refl)

row_4 : IsSerialAfter 8 44 100
row_4 = (56, omega arith, omega arith, refl)

row_5 : IsSerialAfter 8 100 200
row_5 = (100, omega arith, omega arith, refl)

row_6 : IsSerialAfter 8 200 255
row_6 = (55, omega arith, omega arith, refl)

row_7 : IsSerialAfter 8 255 0
row_7 = (1, omega arith, omega arith, refl)

row_8 : IsSerialAfter 8 255 100
row_8 = (101, omega arith, omega arith, refl)

row_9 : IsSerialAfter 8 200 0
row_9 = (56, omega arith, omega arith, refl)

row_10 : IsSerialAfter 8 200 44
row_10 = (100, omega arith, omega arith, refl)

-- "the comparison of 0 and 128, 1 and 129, 2 and 130 is undefined"
row_11 : IsLessByDistance 8 0 128 → ⊥
row_11 (inl h) = omega (arith, h.1)
row_11 (inr h) = omega (arith, h.0)

row_12 : IsLessByDistance 8 130 2 → ⊥
row_12 (inl h) = omega (arith, h.0)
row_12 (inr h) = omega (arith, h.1)

-- ---- dnssec-signzone -N increment of BIND 9.18: after the greatest serial comes 1
increments_row : map incremented (0 ∷ 5 ∷ 2147483647 ∷ 2026112699 ∷ 4294967294 ∷ 4294967295 ∷ []) ≡ 1 ∷ 6 ∷ 2147483648 ∷ 2026112700 ∷ 4294967295 ∷ 1 ∷ []
increments_row = refl

-- ---- 26 November 2026, 12:00:00, and the last second of 2026
days_row : map (λ now. day_serial (date_at now)) (1795694400 ∷ 1798761599 ∷ 0 ∷ 4294967295 ∷ []) ≡ 2026112601 ∷ 2026123101 ∷ 1970010101 ∷ 2106020701 ∷ []
unfolding date_at year_at month_at holding
days_row = refl

-- in a serial of the day there are 99 numbers, and more are ahead of it
same_day_row : increments 2026112601 2026112601 2026112699 ≡ record { serial = 2026112602; is_ahead = false }
same_day_row = refl

full_day_row : increments 2026112699 2026112601 2026112699 ≡ record { serial = 2026112700; is_ahead = true }
full_day_row = refl

next_year_row : increments 2027010100 2026112601 2026112699 ≡ record { serial = 2027010101; is_ahead = true }
next_year_row = refl

-- ---- serials that are dates, in 2026
day_row : day_of 2026112601 ≡ record { year = 2026; month = 11; day = 26; hour = 0; minute = 0; second = 0 }
day_row = refl

leap_day_row : IsDatedUpTo 2027 2024022901
leap_day_row = (omega arith, omega arith, record { from_1970 = omega arith; four_digits = omega arith; from_january = omega arith; to_december = omega arith; from_first = omega arith; to_last = omega arith; hour = omega arith; minute = omega arith; second = omega arith })

no_leap_day_row : IsDatedUpTo 2027 2023022901 → ⊥
no_leap_day_row h = omega (arith, h.2.to_last)

-- seconds since 1970, and a year too late
seconds_row : IsDatedUpTo 2027 1795694400 → ⊥
seconds_row h = omega (arith, h.0)

late_row : IsDatedUpTo 2027 2028010100 → ⊥
late_row h = omega (arith, h.1)

-- ---- back by 1: the third step reaches it
far_row : map farthest_from (0 ∷ 2026112601 ∷ 4294967295 ∷ []) ≡ 2147483647 ∷ 4173596248 ∷ 2147483646 ∷ []
far_row = refl

-- ---- serials of 32 bits: after the greatest value comes 0
wraps_row : IsLessByDistance 32 (2 ^ 32 - 1) 0
wraps_row = inr (omega arith, omega arith)

rises_row : IsLessByDistance 32 2018031900 2018031901
rises_row = inl (omega arith, omega arith)

farthest_row : IsLessByDistance 32 0 (2 ^ 31 - 1)
farthest_row = inl (omega arith, omega arith)

-- at this distance neither is less
half_row : IsLessByDistance 32 0 (2 ^ 31) → ⊥
half_row (inl h) = omega (arith, h.1)
half_row (inr h) = omega (arith, h.0)

falls_row : IsLessByDistance 32 100 99 → ⊥
falls_row (inl h) = omega (arith, h.0)
falls_row (inr h) = omega (arith, h.1)
