-- The contract of a formatter.
use Rattle.std.specs.Prelude.{◌≡◌, ℕ, true, List, ◌++◌}
use Rattle.zone_format.specs.Form.{form}
use Rattle.zone_format.specs.Marks.{Mark, HasMarks}
use Rattle.zone_format.specs.Refusal.{has_form}

-- the octets are of the grammar and have a form, which was appended
pub record Formats (octets old new : List ℕ) : Type 0 where
  pub marks : List Mark
  pub read : HasMarks octets marks
  pub formed : has_form marks ≡ true
  pub out : new ≡ old ++ form marks
