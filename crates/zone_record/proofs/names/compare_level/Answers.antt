use Rattle.std.proofs.Common.{length, sym, subst, arith, ap, ◌∙◌, length-append}
use Rattle.std.proofs.lemmas.Bool.{eqb-true, eqb-false}
use Rattle.std.specs.Cmp.Lexicographic.{same_text}
use Rattle.std.specs.Ordering.{ordering_then}
use Rattle.zone_record.proofs.Orders.{level_same}
use Rattle.zone_record.proofs.NameWalks.{level_none, level_left, level_right, level_more, level_end, LevelWalk}
use Rattle.zone_record.proofs.names.compare_level.Goals as goal

pub loop-left_rest-init : goal.loop-left_rest-init
loop-left_rest-init c = level_none c.args.left.now c.args.right.now c.args.otherwise c.requires

pub split_label-first-requires : goal.split_label-first-requires
split_label-first-requires c =
    level_left _ _ _ c.loop-left_rest.left_rest.now _ _ c.loop-left_rest.invariant (omega (arith, eqb-false (length c.loop-left_rest.left_rest.now) 0 (sym c.loop-left_rest-test.ensures)))

pub split_label-second-requires : goal.split_label-second-requires
split_label-second-requires c =
    level_right _ _ _ c.loop-left_rest.left_rest.now _ _ c.loop-left_rest.invariant (omega (arith, eqb-false (length c.loop-left_rest.left_rest.now) 0 (sym c.loop-left_rest-test.ensures)))

pub loop-left_rest-smaller : goal.loop-left_rest-smaller
loop-left_rest-smaller c = omega (arith, ap length c.split_label-first.ensures, length-append c.split_label-first.result.label.now c.split_label-first.result.rest.now)

pub loop-left_rest-preserved : goal.loop-left_rest-preserved
loop-left_rest-preserved c =
    let order = c.then-order.ensures ∙ ap (λ o. ordering_then o c.loop-left_rest.order) c.compare_label.ensures in
    subst (LevelWalk c.args.left.now c.args.right.now c.args.otherwise c.split_label-first.result.rest.now c.split_label-second.result.rest.now) (sym order)
    (level_more _ _ _ c.loop-left_rest.left_rest.now c.loop-left_rest.right_rest.now c.loop-left_rest.order c.split_label-first.result.label.now c.split_label-first.result.rest.now c.split_label-second.result.label.now c.split_label-second.result.rest.now
    c.loop-left_rest.invariant c.split_label-first.ensures c.split_label-second.ensures)

pub returns-then-eq : goal.returns-then-eq
returns-then-eq c = level_same _ _ _ c.loop-left_rest.left_rest.now c.loop-left_rest.right_rest.now _ c.loop-left_rest.invariant (same_text _ _ (c.if-eq.ensures))

pub returns : goal.returns
returns c = level_end _ _ _ c.loop-left_rest.left_rest.now _ _ c.loop-left_rest.invariant (eqb-true (length c.loop-left_rest.left_rest.now) 0 (sym c.loop-left_rest-test.ensures))
