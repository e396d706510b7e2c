-- The guaranteed and the maximum capacity of a builder.
use Rattle.std.specs.Prelude.{ℕ, min}
use Rattle.dns_octets.specs.Octets.{greatest_length}

-- the guaranteed capacity, and the maximum capacity, in octets
pub record Room : Type 0 where
  pub fits : ℕ
  pub capacity : ℕ

-- the room of a buffer of fixed size
abbrev pub exactly : ℕ → Room
exactly n = record { fits = n; capacity = n }

-- the room of a vector, for which an allocation can fail
abbrev pub of_memory : Room
of_memory = record { fits = 0; capacity = greatest_length }

-- the room that remains if no more than n octets are used
abbrev pub within : ℕ → Room → Room
within n room = record { fits = min room.fits n; capacity = min room.capacity n }
