use Rattle.std.proofs.Common.{◌∙◌}
use Rattle.zone_cuts.specs.Signers.{is_fitting_ds}
use Rattle.zone_cuts.proofs.OwnRecords.{has_is}
use Rattle.zone_cuts.proofs.signers.has_fitting_ds.Goals as goal

pub returns : goal.returns
returns g c =
    c.is_some.ensures
    ∙ has_is (is_fitting_ds c.args.name.now (g.C.ZoneRecords.contents c.args.child.now)) c.args.name.now (g.P.ZoneRecords.contents c.args.parent.now) c.places-first.result.0 c.places-first.result.1 c.places-first.ensures
    c.find_fitting.result c.find_fitting.ensures
