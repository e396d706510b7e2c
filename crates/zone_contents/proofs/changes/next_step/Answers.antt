use Rattle.std.proofs.Common.{refl, sym}
use Rattle.zone_contents.specs.Changes.{contents_at}
use Rattle.zone_contents.specs.Steps.{distinct_from}
use Rattle.zone_contents.proofs.ComparedZones.{added_above, below_none, removed_above, step_added, step_both, step_removed}
use Rattle.zone_contents.proofs.changes.next_step.Goals as goal

pub returns-in-true-false : goal.returns-in-true-false
returns-in-true-false g c =
    let old = c.args.old.now in
    let new = c.args.new.now in
    let left = c.in-true-false.ensures in
    let right = c.in-true-false.ensures' in
    step_removed old new c.args.at c.args.to left.ordered right.ordered c.past_duplicates-in-true-false.result (left.inside refl) c.past_duplicates-in-true-false.ensures
    (below_none (contents_at old c.args.at) (distinct_from new c.args.to) (right.none refl))

pub returns-in-false-true : goal.returns-in-false-true
returns-in-false-true g c =
    let old = c.args.old.now in
    let new = c.args.new.now in
    let left = c.in-false-true.ensures in
    let right = c.in-false-true.ensures' in
    step_added old new c.args.at c.args.to left.ordered right.ordered c.past_duplicates-in-false-true.result (right.inside refl) c.past_duplicates-in-false-true.ensures
    (below_none (contents_at new c.args.to) (distinct_from old c.args.at) (left.none refl))

pub returns-in-Less : goal.returns-in-Less
returns-in-Less g c =
    let left = c.in-true-true.ensures in
    let right = c.in-true-true.ensures' in
    step_removed c.args.old.now c.args.new.now c.args.at c.args.to left.ordered right.ordered c.past_duplicates.result (left.inside refl) c.past_duplicates.ensures
    (removed_above c.args.old.now c.args.new.now c.args.at c.args.to left.ordered right.ordered right (sym c.in-Less.ensures))

pub returns-in-Greater : goal.returns-in-Greater
returns-in-Greater g c =
    let left = c.in-true-true.ensures in
    let right = c.in-true-true.ensures' in
    step_added c.args.old.now c.args.new.now c.args.at c.args.to left.ordered right.ordered c.past_duplicates-in-Greater.result (right.inside refl) c.past_duplicates-in-Greater.ensures
    (added_above c.args.old.now c.args.new.now c.args.at c.args.to left.ordered right.ordered left (sym c.in-Greater.ensures))

pub returns-in-Equal : goal.returns-in-Equal
returns-in-Equal g c =
    step_both c.args.old.now c.args.new.now c.args.at c.args.to c.in-true-true.ensures.ordered c.in-true-true.ensures'.ordered c.past_duplicates-in-Equal.result
    c.past_duplicates-in-Equal-2.result c.ttl_change.result c.past_duplicates-in-Equal.ensures c.past_duplicates-in-Equal-2.ensures (sym c.in-Equal.ensures) c.ttl_change.ensures
