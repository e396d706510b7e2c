-- The serial of an update of several messages.
use Rattle.std.specs.Prelude.{ℕ, ◌<◌, ◌≤◌, ◌-◌, ◌^◌, ◌⊎◌}

-- the serial rises (RFC 1982 section 3.2), and by the number of messages or more: up to the new serial, or past the greatest serial to it
abbrev pub AllowsMessages : ℕ → ℕ → ℕ → Type 0
AllowsMessages old new count =
    ((old < new) × (new - old < 2 ^ 31) × (count ≤ new - old)) ⊎ ((new < old) × (2 ^ 31 < old - new) × (count ≤ 2 ^ 32 - (old - new)))
