use Rattle.zone_record.proofs.Orders.{names_total, names_tied, names_absent}
use Rattle.zone_record.proofs.order_laws.names_are_ordered.Goals as goal

pub returns : goal.returns
returns c = record { total = names_total; equal = names_tied; below = names_absent }
