use Rattle.std.proofs.Common.{refl}
use Rattle.zone_contents.proofs.stored.add_record.Goals as goal

pub returns-clause-valid : goal.returns-clause-valid
returns-clause-valid g c =
    record { owner = record { name = c.args.«record».now.owner; is_name = c.octets_of-owner.ensures.is_wire; is = refl }; rdata = c.as_slice-rdata.ensures.is_data }
