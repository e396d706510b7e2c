-- The result of looking up the line and the column of an offset.
use Rattle.std.specs.Prelude.{◌≡◌, ℕ, ◌<◌, ◌≤◌, List, length, take}
use Rattle.dns_lexer.specs.Position.{IsPosition}
use Rattle.c_calls.specs.Reports.{number_of}
use Rattle.c_calls.specs.declared.outcome.Refusal.TheVariants.{BadPlace}
use Rattle.c_calls.specs.declared.position.Position.{Position}

-- the line and the column after the octets before the offset; an offset past the end is rejected, and nothing was written
pub record ReportsPosition (text : List ℕ) (place status : ℕ) (old new : ℕ × ℕ) : Type 0 where
  pub within : place ≤ length text → (status ≡ 0) × IsPosition (take place text) new.0 new.1
  pub past : length text < place → (status ≡ number_of BadPlace) × (new ≡ old)

-- the position is the line and the column of its offset
abbrev pub IsPositionIn : List ℕ → Position → Type 0
IsPositionIn text p = IsPosition (take p.offset text) p.line p.column

-- a position of the text moves to another offset; an offset past the end is rejected, and nothing was written
pub record MovesPosition (text : List ℕ) (offset status : ℕ) (old new : Position) : Type 0 where
  pub within : offset ≤ length text → (status ≡ 0) × (new.offset ≡ offset) × (IsPositionIn text old → IsPositionIn text new)
  pub back : offset < old.offset → offset ≤ length text → IsPositionIn text new
  pub past : length text < offset → (status ≡ number_of BadPlace) × (new ≡ old)
