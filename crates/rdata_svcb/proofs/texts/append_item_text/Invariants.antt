use Rattle.std.proofs.Common.{◌≡◌, ◌++◌, take}
use Rattle.rdata_svcb.specs.Texts.{item_text}
use Rattle.rdata_svcb.proofs.texts.append_item_text.Given as goal

abbrev pub invariant-loop-octet : goal.invariant-loop-octet
invariant-loop-octet g l = g.B.AsOctets.octets l.target ≡ g.B.AsOctets.octets l.initial.target ++ item_text (take l.octet-index l.item)
