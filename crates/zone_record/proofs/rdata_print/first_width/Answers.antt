use Rattle.rdata.proofs.Sizes.{front_sized}
use Rattle.zone_record.proofs.rdata_print.first_width.Goals as goal

pub returns-clause-size : goal.returns-clause-size
returns-clause-size c = front_sized c.args.field c.args.octets.now c.requires.0 c.in-Some.width c.requires.1 c.in-Some.ensures
