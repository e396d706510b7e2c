use Rattle.std.proofs.Common.{◌∙◌}
use Rattle.zone_record.specs.CanonicalData.{record_key}
use Rattle.zone_record.specs.CanonicalRecords.{record_order}
use Rattle.zone_contents.proofs.Distinct.{has_place, record_is}
use Rattle.zone_contents.proofs.changes.compare_records.Goals as goal

pub record-record-requires : goal.record-record-requires
record-record-requires g c = has_place c.args.old.now c.args.at c.requires.old

pub record-requires : goal.record-requires
record-requires g c = has_place c.args.new.now c.args.to c.requires.new

pub returns : goal.returns
returns g c =
    let left = record_is c.args.old.now c.args.at c.record-record.result c.requires.old c.record-record.ensures in
    let right = record_is c.args.new.now c.args.to c.record.result c.requires.new c.record.ensures in
    c.compare.ensures ∙ (λ i. record_order (record_key (left i)) (record_key (right i)))
