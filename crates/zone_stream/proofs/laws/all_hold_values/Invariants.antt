use Rattle.std.proofs.Common.{take}
use Rattle.std.specs.List.{AllByRecursion}
use Rattle.zone_record.specs.RecordLaws.{AreRecordValues}
use Rattle.zone_stream.proofs.laws.all_hold_values.Given as goal

abbrev pub invariant-loop-one : goal.invariant-loop-one
invariant-loop-one g l = AllByRecursion AreRecordValues (take l.one-index l.records)
