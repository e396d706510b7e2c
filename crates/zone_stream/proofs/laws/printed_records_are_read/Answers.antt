use Rattle.zone_stream.proofs.ReadBack.{printed_read}
use Rattle.zone_stream.proofs.laws.printed_records_are_read.Goals as goal

pub returns : goal.returns
returns g c = printed_read c.args.one.now c.records_hold_values.ensures c.records_are_read_back.ensures c.printed_owners_are_owners.ensures c.whole_records_are_independent.ensures
