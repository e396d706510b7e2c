use Rattle.std.proofs.Common.{◌≡◌, ◌≤◌, true, sym, ap, ◌∙◌, arith, rules}
use Rattle.std.specs.Prelude.{◌==◌}
use Rattle.zone_contents.proofs.Listings.{within_found, within_none}
use Rattle.zone_store.specs.Stored.{record_at}
use Rattle.zone_contents.proofs.lookups.has_type_within.Goals as goal

pub returns : goal.returns
returns g c =
    sym (within_none c.args.rtype c.args.store.now c.args.first c.args.past c.requires (λ i d low lt. c.loop-place.invariant i d low (omega (arith, lt, c.loop-place-test.false))))

pub returns-then-eq : goal.returns-then-eq
returns-then-eq g c =
    let low : c.args.first ≤ c.loop-place.place = search rules in
    let typed : ((record_at c.args.store.now c.loop-place.place).parts.code == c.args.rtype) ≡ true = ap (λ n. n == c.args.rtype) (sym c.rtype.ensures) ∙ sym c.eq.ensures ∙ c.if-eq.true in
    sym (within_found c.args.rtype c.args.store.now c.args.first c.args.past c.requires c.loop-place.place low c.loop-place-test.true typed)
