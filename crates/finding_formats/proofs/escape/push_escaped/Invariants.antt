use Rattle.std.proofs.Common.{◌≡◌, ◌++◌, take}
use Rattle.std.specs.List.{flat_map}
use Rattle.finding_formats.specs.Escape.{escaped_octet}
use Rattle.finding_formats.proofs.escape.push_escaped.Given as goal

abbrev pub invariant-loop-octet : goal.invariant-loop-octet
invariant-loop-octet g l = l.out.items ≡ l.fn.out.items ++ flat_map (escaped_octet l.context l.is_kept) (take l.octet-index l.octets)
