use Rattle.std.proofs.Common.{◌∙◌, sym}
use Rattle.dns_wire.specs.Labelled.{wire_same}
use Rattle.zone_parts.proofs.head.last_record.Goals as goal

pub returns-in-Some-clause-owner : goal.returns-in-Some-clause-owner
returns-in-Some-clause-owner c = wire_same c.in-Some.record.owner c.args.owner.now (sym c.in-Some.ensures.found.owner ∙ c.as_slice.ensures.value)
