use Rattle.zone_check.proofs.ScanLanes.{load_has}
use Rattle.zone_check.proofs.scan.has_in_load.Goals as goal

pub returns : goal.returns
returns c = load_has c.args.kind c.args.octets.now c.args.at _ c.type_inv.octets c.marks-bits.ensures
