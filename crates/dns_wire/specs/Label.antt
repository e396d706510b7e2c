-- What a label shows.
use Rattle.std.specs.Prelude.{ℕ, List}
use Rattle.dns_wire.specs.declared.label.Label.{Label}

-- its octets
abbrev pub label_octets : Label → List ℕ
label_octets label = label.octets.now
