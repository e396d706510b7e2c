use Rattle.std.proofs.Common.{sym, ◌∙◌, arith}
use Rattle.zone_dnssec.specs.KeyRequests.{is_unpaired}
use Rattle.zone_dnssec.proofs.ChainSearch.{none_at_all, none_more, one_found}
use Rattle.zone_dnssec.proofs.requests.has_unpaired.Goals as goal

pub returns-then-is_unpaired_at : goal.returns-then-is_unpaired_at
returns-then-is_unpaired_at g c =
    let records = g.Z.ZoneRecords.contents c.args.records.now in
    one_found (is_unpaired c.args.origin.now records) records c.loop-place.place (sym c.is_unpaired_at.ensures ∙ c.if-is_unpaired_at.true)

pub loop-place-preserved : goal.loop-place-preserved
loop-place-preserved g c =
    let records = g.Z.ZoneRecords.contents c.args.records.now in
    none_more (is_unpaired c.args.origin.now records) records c.loop-place.place (omega (arith, c.loop-place-test.true, c.len-place-end.ensures)) c.loop-place.invariant
    (sym c.is_unpaired_at.ensures ∙ c.if-is_unpaired_at.false)

pub returns : goal.returns
returns g c =
    let records = g.Z.ZoneRecords.contents c.args.records.now in
    none_at_all (is_unpaired c.args.origin.now records) records c.loop-place.place (omega (arith, c.loop-place-test.false, c.len-place-end.ensures)) c.loop-place.invariant
