use Rattle.std.proofs.Common.{arith, subst}
use Rattle.std.specs.List.{AllByRecursion}
use Rattle.std.proofs.lemmas.List.{take_all}
use Rattle.zone_record.specs.RecordLaws.{AreRecordValues}
use Rattle.zone_stream.proofs.PrintedTexts.{all_next}
use Rattle.zone_stream.proofs.laws.all_hold_values.Goals as goal

pub loop-one-preserved : goal.loop-one-preserved
loop-one-preserved g c = all_next AreRecordValues c.args.records.now c.loop-one.one-index c.one-item.result c.loop-one-test.true c.one-item.is c.loop-one.invariant c.records_hold_values.ensures

pub returns : goal.returns
returns g c = subst (AllByRecursion AreRecordValues) (take_all c.loop-one.one-index c.args.records.now (omega (arith, c.loop-one-test.false))) c.loop-one.invariant
