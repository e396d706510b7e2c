use Rattle.std.proofs.Common.{[], ◌++◌, refl, ap, subst, arith, ◌∙◌}
use Rattle.zone_contents.specs.Digests.{first_at, zone_octets}
use Rattle.zone_contents.proofs.DigestSteps.{hashing_all, hashing_more}
use Rattle.zone_contents.specs.Hashed.{hashed_octets}
use Rattle.zone_contents.proofs.hashing.hash_zone.Goals as goal

pub loop-place-init : goal.loop-place-init
loop-place-init g c = ([], c.new-hasher.ensures, record { are = refl })

pub loop-place-preserved : goal.loop-place-preserved
loop-place-preserved g c =
    let apex = c.args.apex.now in
    let z = c.args.zone.now in
    let place = c.loop-place.place in
    let w = c.loop-place.invariant in
    let more = hashed_octets apex (first_at z place) in
    let form = c.as_slice.ensures.value ∙ c.in_ok-append_hashed.ensures.ok ∙ ap (λ l. l ++ more) c.clear.ensures.items in (
      w.0 ++ more,
      subst (λ m. g.D.Digest.holds c.update.new.self (w.0 ++ m)) form (c.update.ensures w.0 w.1),
      hashing_more apex z c.count-place-end.ensures.sorted place _ w.0 (omega (arith, c.loop-place-test.true, c.count-place-end.ensures.count)) (omega arith) w.2,
    )

pub returns-clause-ok : goal.returns-clause-ok
returns-clause-ok g c =
    let apex = c.args.apex.now in
    let z = c.args.zone.now in
    let w = c.loop-place.invariant in
    c.finalize.ensures (zone_octets apex z)
    (subst (g.D.Digest.holds c.loop-place.hasher) (hashing_all apex z c.loop-place.place w.0 (omega (arith, c.loop-place-test.false, c.count-place-end.ensures.count)) w.2) w.1)
