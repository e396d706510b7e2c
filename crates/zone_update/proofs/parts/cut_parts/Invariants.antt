use Rattle.std.proofs.Common.{length}
use Rattle.zone_update.specs.Parts.{seen}
use Rattle.zone_update.proofs.Cutting.{CutsSoFar}
use Rattle.zone_update.proofs.parts.cut_parts.Given as goal

abbrev pub invariant-parts : goal.invariant-parts
invariant-parts g l = CutsSoFar l.names l.limit l.operations (seen l.parts.items) l.rest

abbrev pub decreases-parts : goal.decreases-parts
decreases-parts g l = length l.rest
