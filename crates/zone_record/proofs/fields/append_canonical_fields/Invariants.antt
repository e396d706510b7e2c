use Rattle.std.proofs.Common.{drop}
use Rattle.zone_record.proofs.FieldWalks.{FieldWalk}
use Rattle.zone_record.proofs.fields.append_canonical_fields.Given as goal

abbrev pub invariant-loop-field : goal.invariant-loop-field
invariant-loop-field g l = FieldWalk l.fields (drop l.field-index l.fields) l.octets l.rest (g.B.AsOctets.octets l.fn.target) (g.B.AsOctets.octets l.target)
