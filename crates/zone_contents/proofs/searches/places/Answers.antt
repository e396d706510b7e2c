use Rattle.std.proofs.Common.{subst, ◌∙◌}
use Rattle.zone_contents.specs.Searches.{EndsKey}
use Rattle.zone_contents.proofs.Listings.{owned_from}
use Rattle.zone_store.specs.Stored.{CountsBeforeKey}
use Rattle.zone_contents.proofs.searches.places.Goals as goal

pub returns-clause-from : goal.returns-clause-from
returns-clause-from g c = c.past_key.ensures.from

pub returns-clause-owned : goal.returns-clause-owned
returns-clause-owned g c =
    let records = c.args.store.now in
    let first = c.count_before_key-first.result in
    owned_from c.args.apex.now records c.requires.are c.requires.sorted c.args.name.now first c.past_key.result
    (subst (λ k. CountsBeforeKey k records first) (c.as_slice.ensures.value ∙ c.write.ensures) c.count_before_key-first.ensures.point)
    (subst (λ k. EndsKey k records first c.past_key.result) (c.as_slice-2.ensures.value ∙ c.write.ensures) c.past_key.ensures)
