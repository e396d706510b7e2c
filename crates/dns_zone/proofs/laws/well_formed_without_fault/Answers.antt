use Rattle.dns_zone.specs.Documents.{item_steps}
use Rattle.dns_zone.proofs.Scanned.{well_formed_without_fault}
use Rattle.dns_zone.proofs.laws.well_formed_without_fault.Goals as goal

pub returns : goal.returns
returns c = well_formed_without_fault (item_steps c.args.items.now) c.first_fault-fault.result c.first_fault-fault.ensures.fine c.first_fault-fault.ensures.fault
