-- The next serial of a zone.
use Rattle.std.specs.Prelude.{ℕ, ◌≡◌, ◌<◌, ◌≤◌, ◌⊎◌, ◌+◌, ◌-◌, ◌*◌, ◌/◌, ◌%◌, ◌^◌, ◌==◌, ◌||◌, nat_lt, if◌then◌else◌, false, Result, Ok, Err}
use Rattle.rdata_values.specs.Time.{IsDate, date_at}
use Rattle.rdata_values.specs.declared.time.Date.{Date}
use Rattle.zone_serial.specs.SerialArithmetic.{IsSerialAfter, serial_sum}
use Rattle.zone_serial.specs.declared.mode.SerialMode.{SerialMode}
use Rattle.zone_serial.specs.declared.mode.SerialMode.TheVariants.{Dated, UnixTime, Increment, Set}
use Rattle.zone_serial.specs.declared.next.NextSerial.{NextSerial}
use Rattle.zone_serial.specs.declared.next.SerialError.{SerialError}
use Rattle.zone_serial.specs.declared.next.SerialError.TheVariants.{Same, Less, Undefined}

-- a serial plus 1, without 0: after the greatest serial comes 1
abbrev pub incremented : ℕ → ℕ
incremented serial = if serial == 2 ^ 32 - 1 then 1 else serial + 1

-- YYYYMMDD01, the first serial of a day; YYYYMMDD99 is the last
abbrev pub day_serial : Date → ℕ
day_serial d = d.year * 1000000 + d.month * 10000 + 100 * d.day + 1

-- the day of a serial YYYYMMDDnn
abbrev pub day_of : ℕ → Date
day_of serial = record { year = serial / 1000000; month = serial / 10000 % 100; day = serial / 100 % 100; hour = 0; minute = 0; second = 0 }

-- a serial is YYYYMMDDnn for a day from 1980 up to the end of a year
abbrev pub IsDatedUpTo : ℕ → ℕ → Type 0
IsDatedUpTo last serial = (1980 ≤ serial / 1000000) × (serial / 1000000 ≤ last) × IsDate (day_of serial)

abbrev pub next_is : ℕ → NextSerial
next_is serial = record { serial = serial; is_ahead = false }

-- the old serial is incremented, and is ahead of the numbers from one up to another unless it is then among them
abbrev pub increments : ℕ → ℕ → ℕ → NextSerial
increments old number last = record { serial = incremented old; is_ahead = nat_lt (incremented old) number || nat_lt last (incremented old) }

-- a number can be the next serial: it is greater than the old one, and isn't 0
abbrev pub CanFollow : ℕ → ℕ → Type 0
CanFollow old number = (0 < number) × IsSerialAfter 32 old number

-- a number is the next serial if it can be, and otherwise the old serial is incremented
abbrev pub IsNextFor : ℕ → ℕ → ℕ → NextSerial → Type 0
IsNextFor old number last next =
    (CanFollow old number × (next ≡ next_is number)) ⊎ ((CanFollow old number → ⊥) × (next ≡ increments old number last))

-- a number is set, or isn't greater: it is the old serial, less, or as far before it as after it
abbrev pub IsSetTo : ℕ → ℕ → Result NextSerial SerialError → Type 0
IsSetTo old number (Ok next) = IsSerialAfter 32 old number × (next ≡ next_is number)
IsSetTo old number (Err Same) = number ≡ old
IsSetTo old number (Err Less) = IsSerialAfter 32 number old
IsSetTo old number (Err Undefined) = number ≡ serial_sum 32 old (2 ^ 31)

-- the next serial by a mode, or why there is none
abbrev pub IsNextSerial : ℕ → SerialMode → Result NextSerial SerialError → Type 0
IsNextSerial old (Dated now) r = (next : NextSerial) × (r ≡ Ok next) × IsNextFor old (day_serial (date_at now)) (day_serial (date_at now) + 98) next
IsNextSerial old (UnixTime now) r = (next : NextSerial) × (r ≡ Ok next) × IsNextFor old now now next
IsNextSerial old Increment r = r ≡ Ok (next_is (incremented old))
IsNextSerial old (Set number) r = IsSetTo old number r
