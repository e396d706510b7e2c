-- Serial number arithmetic (RFC 1982), for serials of a number of bits.
use Rattle.std.specs.Prelude.{ℕ, ◌≡◌, ◌<◌, ◌⊎◌, ◌+◌, ◌-◌, ◌%◌, ◌^◌}

-- a serial plus a number below 2^(bits - 1) (RFC 1982 section 3.1)
abbrev pub serial_sum : ℕ → ℕ → ℕ → ℕ
serial_sum bits serial n = (serial + n) % 2 ^ bits

-- the second serial is the first plus such a number other than 0, and so it is greater
abbrev pub IsSerialAfter : ℕ → ℕ → ℕ → Type 0
IsSerialAfter bits old new = (n : ℕ) × (0 < n) × (n < 2 ^ (bits - 1)) × (new ≡ serial_sum bits old n)

-- the first serial is less than the second, by their distance (RFC 1982 section 3.2)
abbrev pub IsLessByDistance : ℕ → ℕ → ℕ → Type 0
IsLessByDistance bits first second =
    ((first < second) × (second - first < 2 ^ (bits - 1))) ⊎ ((second < first) × (2 ^ (bits - 1) < first - second))
