use Rattle.std.proofs.Common.{◌≡◌, sym, ◌∙◌}
use Rattle.dns_octets.specs.Lowered.{same_lowered}
use Rattle.zone_contents.specs.Hashed.{is_apex}
use Rattle.zone_contents.proofs.Scopes.{apex_found}
use Rattle.zone_contents.proofs.scope.is_in_zone.Goals as goal

pub returns : goal.returns
returns g c =
    let same : same_lowered c.as_slice.result.now c.as_slice-in-loop-above.result.now ≡ is_apex c.args.apex.now c.loop-above.above =
    λ i. same_lowered (c.as_slice.ensures i) (c.as_slice-in-loop-above.ensures.value i) in
    sym (apex_found c.args.apex.now c.loop-above.above c.as_slice-in-loop-above.ensures.absolute (sym same ∙ sym c.loop-above-test.ensures)) ∙ c.loop-above.invariant
