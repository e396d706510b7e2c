use Rattle.zone_record.proofs.BelowKeys.{begins_below}
use Rattle.zone_record.proofs.KeyOrders.{key_order, keys_tied, key_length, key_more}
use Rattle.zone_record.proofs.order_laws.keys_are_ordered_as_names.Goals as goal

pub returns-clause-order : goal.returns-clause-order
returns-clause-order c = key_order

pub returns-clause-equal : goal.returns-clause-equal
returns-clause-equal c = keys_tied

pub returns-clause-below : goal.returns-clause-below
returns-clause-below c = key_more

pub returns-clause-within : goal.returns-clause-within
returns-clause-within c = begins_below

pub returns-clause-length : goal.returns-clause-length
returns-clause-length c = key_length
