use Rattle.std.proofs.Common.{sym, ◌∙◌, arith}
use Rattle.zone_dnssec.specs.SigningAlgorithms.{signs_set}
use Rattle.zone_dnssec.specs.ZoneViews.{zone_with}
use Rattle.zone_dnssec.proofs.ChainSearch.{none_at_all, none_more, one_found}
use Rattle.zone_dnssec.proofs.algorithms.signs_some.Goals as goal

pub returns-then-signs_set_at : goal.returns-then-signs_set_at
returns-then-signs_set_at g c =
    let records = g.Z.ZoneRecords.contents c.args.records.now in
    one_found (signs_set c.args.keys.now (zone_with c.args.origin.now records) c.args.algorithm c.args.is_of_keys) records c.loop-place.place (sym c.signs_set_at.ensures ∙ c.if-signs_set_at.true)

pub loop-place-preserved : goal.loop-place-preserved
loop-place-preserved g c =
    let records = g.Z.ZoneRecords.contents c.args.records.now in
    none_more (signs_set c.args.keys.now (zone_with c.args.origin.now records) c.args.algorithm c.args.is_of_keys) records c.loop-place.place (omega (arith, c.loop-place-test.true, c.len-place-end.ensures)) c.loop-place.invariant
    (sym c.signs_set_at.ensures ∙ c.if-signs_set_at.false)

pub returns : goal.returns
returns g c =
    let records = g.Z.ZoneRecords.contents c.args.records.now in
    none_at_all (signs_set c.args.keys.now (zone_with c.args.origin.now records) c.args.algorithm c.args.is_of_keys) records c.loop-place.place (omega (arith, c.loop-place-test.false, c.len-place-end.ensures)) c.loop-place.invariant
