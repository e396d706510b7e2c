use Rattle.std.proofs.Common.{ℕ, ◌≡◌, ◌≤◌, ◌<◌, Some, false, length, sym, ap, subst, ◌∙◌, arith}
use Rattle.std.specs.Option.{option_map}
use Rattle.dns_wire.specs.Order.{same_name}
use Rattle.dns_wire.specs.Wire.{wire_length}
use Rattle.dns_wire.proofs.Comparing.{same_octets}
use Rattle.dns_wire.proofs.Wires.{length_wire}
use Rattle.zone_rules.proofs.SharedNames.{Nearing, nearing_none, nearing_above, nearing_rest, nearing_end}
use Rattle.zone_rules.proofs.names.shared_length.Goals as goal

pub loop-rest-init : goal.loop-rest-init
loop-rest-init c =
    let name = c.args.name.now in
    let other = c.args.other.now in
    let a = c.iter_labels-above.ensures in
    let b = c.iter_labels-rest.ensures in
    subst (λ x. Nearing name other x c.iter_labels-rest.result) (sym a.value)
    (subst (λ y. Nearing name other name y) (sym b.value)
    (nearing_none name other (record { is_name = a.is_name; absolute = a.absolute }) (record { is_name = b.is_name; absolute = b.absolute })))

pub loop-rest-preserved-then-as_slice : goal.loop-rest-preserved-then-as_slice
loop-rest-preserved-then-as_slice c =
    let above = c.loop-rest.above in
    let rest = c.loop-rest.rest in
    let held = c.loop-rest.invariant in
    let off : same_name rest above ≡ false =
    sym (same_octets rest above _ _ _ held.rest_end.is_name.short held.above_end.is_name.short c.as_slice.ensures c.as_slice-in-loop-rest.ensures c.same_octets.ensures) ∙ c.loop-rest-test.true in
    let le : wire_length rest ≤ wire_length above =
    omega (arith, c.if-as_slice.true, ap length c.as_slice-in-loop-rest-2.ensures, ap length c.as_slice-in-loop-rest-3.ensures, length_wire above, length_wire rest) in
    (nearing_above c.args.name.now c.args.other.now above rest c.next.new.self c.next.result held off le c.next.ensures.steps).0

pub loop-rest-preserved : goal.loop-rest-preserved
loop-rest-preserved c =
    let above = c.loop-rest.above in
    let rest = c.loop-rest.rest in
    let lt : wire_length above < wire_length rest =
    omega (arith, c.if-as_slice.false, ap length c.as_slice-in-loop-rest-2.ensures, ap length c.as_slice-in-loop-rest-3.ensures, length_wire above, length_wire rest) in
    (nearing_rest c.args.name.now c.args.other.now above rest c.next-else-as_slice.new.self c.next-else-as_slice.result c.loop-rest.invariant lt c.next-else-as_slice.ensures.steps).0

pub returns : goal.returns
returns c =
    let above = c.loop-rest.above in
    let rest = c.loop-rest.rest in
    let held = c.loop-rest.invariant in
    ap (option_map wire_length)
    (nearing_end c.args.name.now c.args.other.now above rest held
    (sym (same_octets rest above _ _ _ held.rest_end.is_name.short held.above_end.is_name.short c.as_slice.ensures c.as_slice-in-loop-rest.ensures c.same_octets.ensures) ∙ c.loop-rest-test.false))
    ∙ ap (λ (n : ℕ). Some n) (sym (ap length c.as_slice-2.ensures ∙ length_wire above))
