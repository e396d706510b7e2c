use Rattle.std.proofs.Common.{ap, subst, sym, ◌≡◌, ◌∙◌}
use Rattle.std.specs.Prelude.{All}
use Rattle.zone_contents.proofs.Listings.{rrset_is}
use Rattle.zone_store.specs.Stored.{has_stored_rrset}
use Rattle.zone_contents.proofs.lookups.has_type.Goals as goal

pub returns-in-Some : goal.returns-in-Some
returns-in-Some g c =
    let class = c.in-Some.class in
    c.has_type.ensures
    ∙ ap (λ k. has_stored_rrset k class c.args.rtype c.args.store.now) (c.as_slice.ensures.value ∙ c.of.ensures)
    ∙ rrset_is c.args.apex.now c.args.name.now class c.args.rtype c.args.store.now c.requires.records.are
    (subst (λ n. All (λ r. r.parts.class ≡ n) c.args.store.now) (sym c.in-Some.ensures.1) (c.requires.class c.in-Some.ensures.0))
