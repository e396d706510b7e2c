use Rattle.zone_record.proofs.RecordBack.{record_back}
use Rattle.zone_record.proofs.laws.records_are_read_back.Goals as goal

pub returns : goal.returns
returns g c = λ origin tokens known small printed. record_back c.args.one.now origin tokens c.records_hold_values.ensures known small printed
