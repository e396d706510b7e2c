use Rattle.std.proofs.Common.{drop}
use Rattle.rdata.proofs.FieldFronts.{HasSplit}
use Rattle.rdata.proofs.wire.split_fields.Given as goal

-- what follows the fields from the index on is what follows all of them
abbrev pub invariant-loop-field : goal.invariant-loop-field
invariant-loop-field l = HasSplit l.fields l.octets (drop l.field-index l.fields) l.left
