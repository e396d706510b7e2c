use Rattle.std.proofs.Common.{sym, ◌∙◌, arith}
use Rattle.zone_dnssec.specs.SignedApex.{is_inner_signature}
use Rattle.zone_dnssec.proofs.ChainSearch.{none_at_all, none_more, one_found}
use Rattle.zone_dnssec.proofs.apex.has_inner_signature.Goals as goal

pub returns-then-is_inner_at : goal.returns-then-is_inner_at
returns-then-is_inner_at g c =
    let records = g.Z.ZoneRecords.contents c.args.records.now in
    one_found (is_inner_signature c.args.origin.now records) records c.loop-place.place (sym c.is_inner_at.ensures ∙ c.if-is_inner_at.true)

pub loop-place-preserved : goal.loop-place-preserved
loop-place-preserved g c =
    let records = g.Z.ZoneRecords.contents c.args.records.now in
    none_more (is_inner_signature c.args.origin.now records) records c.loop-place.place (omega (arith, c.loop-place-test.true, c.len-place-end.ensures)) c.loop-place.invariant
    (sym c.is_inner_at.ensures ∙ c.if-is_inner_at.false)

pub returns : goal.returns
returns g c =
    let records = g.Z.ZoneRecords.contents c.args.records.now in
    none_at_all (is_inner_signature c.args.origin.now records) records c.loop-place.place (omega (arith, c.loop-place-test.false, c.len-place-end.ensures)) c.loop-place.invariant
