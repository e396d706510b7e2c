use Rattle.std.proofs.Common.{◌<◌, length, sym, ◌∙◌, arith}
use Rattle.zone_dnssec.specs.OptOutFlags.{is_flagged_link}
use Rattle.zone_dnssec.proofs.Counts.{no_more, one_more}
use Rattle.zone_dnssec.proofs.flags.count_flags.Goals as goal
use Rattle.zone_dnssec.proofs.flags.count_flags.Goals.{then-is_flagged_at, else-is_flagged_at}

pub loop-place-preserved : goal.loop-place-preserved
loop-place-preserved g c =
    let records = g.Z.ZoneRecords.contents c.args.records.now in
    let test = is_flagged_link c.args.chain.now c.args.is_set in
    let lt : c.loop-place.place < length records = omega (arith, c.loop-place-test.true, c.len-place-end.ensures) in
    elim c.if-is_flagged_at.branch [
      | then-is_flagged_at w ↦ (w.count-is ∙ one_more test records c.loop-place.place c.loop-place.count lt c.loop-place.invariant.0 (sym c.is_flagged_at.ensures ∙ w.if-is_flagged_at.true), omega (arith, w.count-is, c.loop-place.invariant.1))
      | else-is_flagged_at w ↦ (w.count-is ∙ no_more test records c.loop-place.place c.loop-place.count lt c.loop-place.invariant.0 (sym c.is_flagged_at.ensures ∙ w.if-is_flagged_at.false), omega (arith, w.count-is, c.loop-place.invariant.1))
    ]
