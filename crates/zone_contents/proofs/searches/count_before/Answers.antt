use Rattle.std.proofs.Common.{subst, ◌∙◌}
use Rattle.zone_contents.proofs.Listings.{count_is}
use Rattle.zone_store.specs.Stored.{CountsBeforeKey}
use Rattle.zone_contents.proofs.searches.count_before.Goals as goal

pub returns-clause-point : goal.returns-clause-point
returns-clause-point g c =
    count_is c.args.apex.now c.args.store.now c.requires.are c.args.name.now c.count_before.result c.count_before.ensures.bound
    (subst (λ k. CountsBeforeKey k c.args.store.now c.count_before.result) (c.as_slice.ensures.value ∙ c.write.ensures) c.count_before.ensures.point)
