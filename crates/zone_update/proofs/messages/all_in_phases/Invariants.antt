use Rattle.std.proofs.Common.{◌≡◌, map, take}
use Rattle.zone_update.specs.Messages.{in_phases, sent}
use Rattle.zone_update.specs.Parts.{seen}
use Rattle.zone_update.proofs.messages.all_in_phases.Given as goal

abbrev pub invariant-loop-part : goal.invariant-loop-part
invariant-loop-part g l = sent l.messages.items ≡ map (in_phases l.apex) (seen (take l.part-index l.parts))
