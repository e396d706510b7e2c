use Rattle.std.proofs.Common.{◌∙◌, sym, arith}
use Rattle.zone_check.specs.Scan.{is_kind}
use Rattle.zone_check.proofs.ScanLanes.{last_load, none_on, some_here}
use Rattle.zone_check.proofs.scan.has_kind.Goals as goal

pub loads-preserved : goal.loads-preserved
loads-preserved c =
    none_on (is_kind c.args.kind) c.args.octets.now c.loads.start c.loads.invariant (sym c.has_in_load.ensures ∙ c.if-has_in_load.false)

pub returns-then-has_in_load : goal.returns-then-has_in_load
returns-then-has_in_load c = sym (some_here (is_kind c.args.kind) c.args.octets.now c.loads.start (sym c.has_in_load.ensures ∙ c.if-has_in_load.true))

pub returns : goal.returns
returns c =
    c.has_in_load-2.ensures ∙ last_load (is_kind c.args.kind) c.args.octets.now c.loads.start _ (omega arith) (omega arith) c.loads.invariant
