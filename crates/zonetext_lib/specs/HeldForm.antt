-- Octets that are stored, and the state at which their form continues.
use Rattle.zone_format.specs.declared.line_state.FormatState.{FormatState}
use Rattle.zonetext_lib.specs.Held.{Held}

pub record Forming : Type 0 where
  pub held : Held
  pub seam : FormatState
