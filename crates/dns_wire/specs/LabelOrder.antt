-- A label's octets for comparisons.
use Rattle.std.specs.Prelude.{ℕ, List}
use Rattle.dns_wire.specs.Label.{label_octets}
use Rattle.dns_octets.specs.Lowered.{lowered}
use Rattle.dns_wire.specs.declared.label.Label.{Label}

-- its octets in lower case
abbrev pub lowered_label : Label → List ℕ
lowered_label label = lowered (label_octets label)
