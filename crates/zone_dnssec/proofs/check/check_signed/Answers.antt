use Rattle.std.proofs.Common.{[], get_or, sym, ap, ◌∙◌, arith}
use Rattle.std.proofs.lemmas.Option.{get_or_from_slice_get}
use Rattle.zone_dnssec.specs.SecurityFindings.{insecure_at}
use Rattle.zone_dnssec.specs.ZoneViews.{zone_with}
use Rattle.zone_rules.proofs.Steps.{zone_more}
use Rattle.zone_dnssec.proofs.check.check_signed.Goals as goal

pub faults_by_number-here-requires : goal.faults_by_number-here-requires
faults_by_number-here-requires g c = omega (arith, c.loop-place-test.true, c.len-place-end.ensures, c.in_ok-faults.ensures.size)

pub add_broken-requires-clause-faults : goal.add_broken-requires-clause-faults
add_broken-requires-clause-faults g c =
    let here = c.faults_by_number-here.result in
    sym (get_or_from_slice_get c.as_slice-in-loop-place.result.now c.loop-place.place here here (sym c.faults_by_number-here.ensures))
    ∙ ap (λ l. get_or l c.loop-place.place here) c.as_slice-in-loop-place.ensures.value
    ∙ c.in_ok-faults.ensures.each c.loop-place.place here (omega (arith, c.loop-place-test.true, c.len-place-end.ensures))

pub loop-place-init : goal.loop-place-init
loop-place-init g c = (c.new-found.ensures.items, tt)

pub loop-place-preserved : goal.loop-place-preserved
loop-place-preserved g c = (
  zone_more (insecure_at (zone_with c.view-apex.result (g.Z.ZoneRecords.contents c.args.records.now)) c.args.times) c.loop-place.place [] c.loop-place.found.items c.add_broken.new.found.items c.loop-place.invariant.0
      c.in_ok-add_broken.ensures.found,
  c.in_ok-add_broken.ensures.known,
)
