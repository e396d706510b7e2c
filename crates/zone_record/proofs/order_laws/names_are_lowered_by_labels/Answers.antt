use Rattle.zone_record.proofs.LoweredNames.{lowered_labels, lowered_name, lowered_again}
use Rattle.zone_record.proofs.order_laws.names_are_lowered_by_labels.Goals as goal

pub returns : goal.returns
returns c = record { labels = lowered_labels; name = lowered_name; again = lowered_again }
