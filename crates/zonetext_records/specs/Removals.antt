-- How many of some records may be removed.
use Rattle.std.specs.Prelude.{ℕ, ◌*◌, ◌/◌, min}

-- a percentage, rounded down; more than 100 percent are all
abbrev pub percent_of : (total percent : ℕ) → ℕ
percent_of total percent = total * min percent 100 / 100
