-- The rest of a line.
use Rattle.std.specs.Prelude.{◌≡◌, ◌≤◌, ℕ, List, ◌++◌, drop, length, Option, Some, None}
use Rattle.std.specs.Io.BufRead.{drop_through}
use Rattle.dns_symbol.specs.Characters.{line_feed}

-- the text after the first line feed is that from this offset on, whatever follows; or the octets have no line feed, and the first one of what follows counts
abbrev pub EndsLineAt : List ℕ → Option ℕ → Type 0
EndsLineAt octets (Some at) = (at ≤ length octets) × ((more : List ℕ) → drop_through line_feed (octets ++ more) ≡ drop at octets ++ more)
EndsLineAt octets None = (more : List ℕ) → drop_through line_feed (octets ++ more) ≡ drop_through line_feed more
