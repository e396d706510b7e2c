use Rattle.std.proofs.Common.{◌≡◌, ◌+◌, ◌++◌, [], ◌∷◌, cond, not, true, is_ok, get_or, map, take, sym, ap, subst, ◌∙◌}
use Rattle.std.proofs.lemmas.Grind.{get_or_default_zero}
use Rattle.rdata_values.specs.Rtype as Rtype
use Rattle.zone_contents.specs.Digests.{data_at, zone_apex_data, zone_octets, HasZoneVerdict}
use Rattle.zone_contents.proofs.DigestSteps.{verdict_next}
use Rattle.zone_contents.specs.Checks.{HaveVerdicts}
use Rattle.zone_contents.proofs.digests.check_digests.Goals as goal

pub loop-place-preserved : goal.loop-place-preserved
loop-place-preserved g c =
    let apex = c.args.apex.now in
    let z = c.args.zone.now in
    let i = c.loop-place.place-index in
    let all = c.as_slice-all.result.now in
    let old = c.loop-place.verdicts.items in
    let p = get_or all i 0 in
    let lt = c.loop-place-test.true in
    let zonemds = zone_apex_data Rtype.zonemd apex z in
    let v = c.in_ok-verdict.verdict in
    let serial = c.in-Some.serial in
    let ok : is_ok c.push.result ≡ true = c.is_err.ensures.negation ∙ ap not c.if-is_err.false in
    let items = c.push.ensures.items ∙ ap (λ b. cond b (old ++ v ∷ []) old) ok in
    let has = subst (λ d. HasZoneVerdict serial apex z d v) c.data.ensures c.in_ok-verdict.ensures.ok in
    subst (HaveVerdicts serial (zone_octets apex z) zonemds (map (data_at z) (take (i + 1) all))) (sym items)
    (verdict_next z all i p lt (sym (get_or_default_zero all i p lt)) serial (zone_octets apex z) zonemds old v c.loop-place.invariant has)
