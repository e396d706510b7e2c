use Rattle.zone_record.proofs.Orders.{octets_total, octets_tied, octets_absent}
use Rattle.zone_record.proofs.order_laws.octets_are_ordered.Goals as goal

pub returns : goal.returns
returns c = record { total = octets_total; equal = octets_tied; absent = λ octets more octet. octets_absent octets octet more }
