use Rattle.std.proofs.Common.{drop}
use Rattle.zone_record.proofs.PartWalks.{PartWalk}
use Rattle.zone_record.proofs.parts.leading_part.Given as goal

-- the part is the one at the index that is left, among the fields that are left
abbrev pub invariant-loop-field : goal.invariant-loop-field
invariant-loop-field l = PartWalk l.fields (drop l.field-index l.fields) l.place l.count l.octets l.rest
