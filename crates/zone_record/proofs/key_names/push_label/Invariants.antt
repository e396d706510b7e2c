use Rattle.std.proofs.Common.{◌≡◌, ◌++◌, ◌∷◌, length, take}
use Rattle.zone_record.proofs.key_names.push_label.Given as goal

abbrev pub invariant-loop-octet : goal.invariant-loop-octet
invariant-loop-octet l = l.name.items ≡ l.fn.name.items ++ length l.label ∷ take l.octet-index l.label
