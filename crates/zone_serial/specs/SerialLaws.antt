-- Laws of serials of 32 bits.
use Rattle.std.specs.Prelude.{ℕ, ◌<◌, ◌⊎◌, ◌↔◌, ◌-◌, ◌^◌}
use Rattle.zone_serial.specs.SerialArithmetic.{IsLessByDistance, IsSerialAfter, serial_sum}

-- the farthest serial that is greater
abbrev pub farthest_from : ℕ → ℕ
farthest_from serial = serial_sum 32 serial (2 ^ 31 - 1)

-- a serial is reached at once, from the farthest serial, or from the farthest serial after that
abbrev pub ThreeStepsReach : Type 0
ThreeStepsReach = (old new : ℕ) → old < 2 ^ 32 → new < 2 ^ 32
    → IsSerialAfter 32 old new ⊎ (IsSerialAfter 32 (farthest_from old) new ⊎ IsSerialAfter 32 (farthest_from (farthest_from old)) new)

-- the sum and the distance of RFC 1982 order serials alike
abbrev pub SumsMatchDistances : Type 0
SumsMatchDistances = (old new : ℕ) → old < 2 ^ 32 → new < 2 ^ 32 → IsSerialAfter 32 old new ↔ IsLessByDistance 32 old new

-- of two serials at most one is greater
abbrev pub NeverBothGreater : Type 0
NeverBothGreater = (old new : ℕ) → old < 2 ^ 32 → new < 2 ^ 32 → IsSerialAfter 32 old new → IsSerialAfter 32 new old → ⊥
