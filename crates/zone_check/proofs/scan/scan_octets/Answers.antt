use Rattle.std.proofs.Common.{◌∙◌, sym}
use Rattle.zone_check.proofs.ScanLanes.{nothing_marked}
use Rattle.zone_check.proofs.scan.scan_octets.Goals as goal

pub returns-then-not-has_kind : goal.returns-then-not-has_kind
returns-then-not-has_kind c = nothing_marked c.args.octets.now (sym c.has_kind.ensures ∙ c.if-not-has_kind.true)
