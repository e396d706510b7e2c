use Rattle.std.proofs.Common.{◌≡◌, ◌++◌, take}
use Rattle.std.specs.List.{flat_map}
use Rattle.finding_formats.specs.Shown.{shown_octet}
use Rattle.finding_formats.proofs.shown.push_shown.Given as goal

abbrev pub invariant-loop-octet : goal.invariant-loop-octet
invariant-loop-octet g l = l.out.items ≡ l.initial.out.items ++ flat_map (shown_octet l.keeps_high) (take l.octet-index l.octets)
