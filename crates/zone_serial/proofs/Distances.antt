-- Distances of serials.
use Rattle.std.proofs.Common.{◌≡◌, ℕ, ◌+◌, ◌-◌, ◌<◌, ◌%◌, ◌^◌, arith}
use Rattle.zone_serial.specs.SerialArithmetic.{IsSerialAfter}

-- the sum of a serial and its distance to another is the other
sum_of : (old new : ℕ) → old < 2 ^ 32 → new < 2 ^ 32 → new ≡ (old + (new + (2 ^ 32 - old)) % 2 ^ 32) % 2 ^ 32
sum_of old new p q = omega arith

pub after_by : (old new : ℕ) → old < 2 ^ 32 → new < 2 ^ 32 → 0 < (new + (2 ^ 32 - old)) % 2 ^ 32 → (new + (2 ^ 32 - old)) % 2 ^ 32 < 2 ^ 31 → IsSerialAfter 32 old new
after_by old new p q h k = ((new + (2 ^ 32 - old)) % 2 ^ 32, h, k, sum_of old new p q)

-- the distance is the number that was added
distance_is : (old new n : ℕ) → old < 2 ^ 32 → n < 2 ^ 31 → new ≡ (old + n) % 2 ^ 32 → (new + (2 ^ 32 - old)) % 2 ^ 32 ≡ n
distance_is old new n p q e = omega arith

pub distance_of : (old new : ℕ) → old < 2 ^ 32 → IsSerialAfter 32 old new → (0 < (new + (2 ^ 32 - old)) % 2 ^ 32) × ((new + (2 ^ 32 - old)) % 2 ^ 32 < 2 ^ 31)
distance_of old new p a = let e = distance_is old new a.0 p a.2 a.3 in (omega (arith, e, a.1), omega (arith, e, a.2))

pub plus_one : (serial : ℕ) → serial + 1 < 2 ^ 32 → IsSerialAfter 32 serial (serial + 1)
plus_one serial p = (1, omega arith, omega arith, omega arith)

pub one_after_greatest : (serial : ℕ) → serial ≡ 2 ^ 32 - 1 → IsSerialAfter 32 serial 1
one_after_greatest serial e = (2, omega arith, omega arith, omega arith)
