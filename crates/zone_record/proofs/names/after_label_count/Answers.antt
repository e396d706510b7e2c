use Rattle.std.proofs.Common.{ℕ, ◌≡◌, drop, subst, arith}
use Rattle.dns_wire.specs.Wire.{wire}
use Rattle.zone_record.proofs.NameWalks.{walked_more, walked_within, walked_behind}
use Rattle.zone_record.proofs.names.after_label_count.Goals as goal

pub split_label-requires : goal.split_label-requires
split_label-requires c = walked_within _ c.loop.rest.now c.loop.counter c.args.count c.loop.invariant c.requires c.loop-test.true

pub loop-preserved : goal.loop-preserved
loop-preserved c = walked_more _ c.loop.rest.now _ c.split_label.result.label.now c.split_label.result.rest.now c.loop.invariant c.split_label.ensures

pub returns : goal.returns
returns c = λ labels h. subst (λ (n : ℕ). c.loop.rest.now ≡ wire (drop n labels)) (omega arith) (walked_behind _ c.loop.rest.now c.loop.counter c.loop.invariant labels h)
