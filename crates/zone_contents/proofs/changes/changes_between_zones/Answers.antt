use Rattle.std.proofs.Common.{◌++◌, sym, ap, ◌∙◌}
use Rattle.std.specs.Option.{option_to_list}
use Rattle.zone_contents.specs.Changes.{changes_of}
use Rattle.zone_contents.specs.Contents.{contents}
use Rattle.zone_contents.proofs.ComparedZones.{all_compared, more_compared, same_or_differ}
use Rattle.zone_contents.proofs.Patches.{makes}
use Rattle.zone_contents.proofs.changes.changes_between_zones.Goals as goal

pub loop-step-preserved-in_ok-push-in-Some-change : goal.loop-step-preserved-in_ok-push-in-Some-change
loop-step-preserved-in_ok-push-in-Some-change g c =
    let done = c.loop-step.changes.items in
    more_compared c.args.old.now c.args.new.now c.loop-step.from c.loop-step.to done _ c.in-Some.step c.loop-step.invariant c.in-Some.ensures
    (c.in_ok-push-in-Some-change.ensures.items ∙ ap (λ o. done ++ option_to_list o) (sym c.in-Some-change.is))

pub returns-clause-inside : goal.returns-clause-inside
returns-clause-inside g c = c.loop-step.invariant.inside

pub returns-clause-changes : goal.returns-clause-changes
returns-clause-changes g c = all_compared c.args.old.now c.args.new.now c.loop-step.from c.loop-step.to c.loop-step.changes.items c.loop-step.invariant c.in_default.ensures.0 c.in_default.ensures.1

pub returns-clause-makes : goal.returns-clause-makes
returns-clause-makes g c =
    let old = c.args.old.now in
    let new = c.args.new.now in
    makes (contents old) (contents new) (changes_of old new c.loop-step.changes.items) (returns-clause-changes g c)

pub returns-clause-same : goal.returns-clause-same
returns-clause-same g c = same_or_differ c.args.old.now c.args.new.now c.loop-step.changes.items (returns-clause-changes g c)
