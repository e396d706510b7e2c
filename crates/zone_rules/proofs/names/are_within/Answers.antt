use Rattle.std.proofs.Common.{◌≡◌, false, refl, sym, ap, ◌∙◌}
use Rattle.std.specs.Prelude.{not}
use Rattle.dns_wire.specs.Order.{same_name}
use Rattle.dns_wire.proofs.Comparing.{same_octets}
use Rattle.zone_rules.proofs.NameParts.{ends_some}
use Rattle.zone_rules.proofs.SharedNames.{within_end, within_here, within_next}
use Rattle.zone_rules.proofs.names.are_within.Goals as goal

pub loop-above-init : goal.loop-above-init
loop-above-init c = (c.requires, refl)

pub returns-then-is_none : goal.returns-then-is_none
returns-then-is_none c =
    within_end c.loop-above.above c.next.new.self c.args.top.now c.args.labels c.next.result c.loop-above.invariant.1 (ends_some c.args.top.now c.octets_of-octets.ensures.absolute) (c.is_none.ensures ∙ ap not c.if-is_none.true) c.next.ensures.steps

pub loop-above-preserved : goal.loop-above-preserved
loop-above-preserved c =
    let above = c.loop-above.above in
    let top = c.args.top.now in
    let off : same_name above top ≡ false =
    sym (same_octets above top _ _ _ c.loop-above.invariant.0 c.octets_of-octets.ensures.is_name.short c.as_slice.ensures c.as_slice-in-loop-above.ensures.value c.are_alike.ensures) ∙ c.loop-above-test.true in
    within_next above c.next.new.self top c.args.labels c.next.result c.loop-above.invariant.0 c.loop-above.invariant.1 off (ends_some top c.octets_of-octets.ensures.absolute) c.next.ensures.steps

pub returns : goal.returns
returns c =
    let above = c.loop-above.above in
    let top = c.args.top.now in
    sym
    (within_here above top
    (sym (same_octets above top _ _ _ c.loop-above.invariant.0 c.octets_of-octets.ensures.is_name.short c.as_slice.ensures c.as_slice-in-loop-above.ensures.value c.are_alike.ensures) ∙ c.loop-above-test.false))
    ∙ c.loop-above.invariant.1
