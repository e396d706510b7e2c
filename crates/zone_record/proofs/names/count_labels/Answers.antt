use Rattle.std.proofs.Common.{length, sym, arith}
use Rattle.std.proofs.lemmas.Bool.{eqb-true, eqb-false}
use Rattle.zone_record.proofs.NameWalks.{walked_none, walked_more, walked_begins, walked_few, walked_all}
use Rattle.zone_record.proofs.names.count_labels.Goals as goal

pub loop-rest-init : goal.loop-rest-init
loop-rest-init c = walked_none c.args.octets.now 0 c.requires

pub split_label-requires : goal.split_label-requires
split_label-requires c = walked_begins _ c.loop-rest.rest.now _ c.loop-rest.invariant (omega (arith, eqb-false (length c.loop-rest.rest.now) 0 (sym c.loop-rest-test.ensures)))

pub overflow_add-count : goal.overflow_add-count
overflow_add-count c = let w = walked_few _ c.loop-rest.rest.now _ c.loop-rest.invariant (omega (arith, eqb-false (length c.loop-rest.rest.now) 0 (sym c.loop-rest-test.ensures))) in omega (arith, w, c.well_formed)

pub loop-rest-preserved : goal.loop-rest-preserved
loop-rest-preserved c = walked_more _ c.loop-rest.rest.now _ c.split_label.result.label.now c.split_label.result.rest.now c.loop-rest.invariant c.split_label.ensures

pub returns : goal.returns
returns c = walked_all _ c.loop-rest.rest.now _ c.loop-rest.invariant (eqb-true (length c.loop-rest.rest.now) 0 (sym c.loop-rest-test.ensures))
