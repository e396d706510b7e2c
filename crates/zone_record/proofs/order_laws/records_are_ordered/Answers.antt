use Rattle.zone_record.proofs.Orders.{records_total, records_tied}
use Rattle.zone_record.proofs.order_laws.records_are_ordered.Goals as goal

pub returns : goal.returns
returns c = record { total = records_total; equal = records_tied }
