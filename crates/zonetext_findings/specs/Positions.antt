-- Positions in a file, and among a part of its octets.
use Rattle.std.specs.Prelude.{ℕ, ◌+◌, ◌<◌, ◌^◌, List, ◌++◌}
use Rattle.dns_lexer.specs.declared.position.Position.{Position}
use Rattle.zone_format.specs.Place.{IsAt}

-- whatever octets are before `start`: if those after it end at `within`, counted by themselves, they end at p in the file
abbrev pub IsFollowedBy : (start within p : Position) → Type 0
IsFollowedBy start within p = (lines : ℕ) (before octets : List ℕ) → start.line + within.line < 2 ^ 64 → start.column + within.column < 2 ^ 64
    → IsAt lines before start → IsAt 0 octets within → IsAt lines (before ++ octets) p
