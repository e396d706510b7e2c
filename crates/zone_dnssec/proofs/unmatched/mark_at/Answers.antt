use Rattle.zone_dnssec.specs.ZoneViews.{zone_with}
use Rattle.zone_dnssec.proofs.Marks.{more_marks_of}
use Rattle.zone_dnssec.proofs.unmatched.mark_at.Goals as goal

pub returns : goal.returns
returns g c =
    let records = g.Z.ZoneRecords.contents c.args.records.now in
    more_marks_of (zone_with c.args.origin.now records) c.args.chain.now c.args.place _ _ c.record-one.result c.requires.place c.record-one.ensures c.requires.marks c.mark_record.ensures
