use Rattle.std.proofs.Common.{◌++◌, length, ap, ◌∙◌, arith}
use Rattle.zone_record.specs.KeyNames.{key_name}
use Rattle.dns_wire.specs.Wire.{wire}
use Rattle.zone_contents.proofs.ZoneNames.{other_labels, other_room, within_labels, within_octets, within_room}
use Rattle.zone_contents.proofs.zone_key.write_name.Goals as goal

pub push_labels-requires-clause-labels : goal.push_labels-requires-clause-labels
push_labels-requires-clause-labels c =
    within_labels c.args.apex.now c.args.key.now c.requires c.in-Some.mark.now c.in-Some.rest.now c.in-Some.ensures.cases.0 c.if-mark-eq-WITHIN.true

pub push_labels-requires-clause-room : goal.push_labels-requires-clause-room
push_labels-requires-clause-room c =
    omega (arith, within_room c.args.apex.now c.args.key.now c.requires c.in-Some.mark.now c.in-Some.rest.now c.in-Some.ensures.cases.0 c.if-mark-eq-WITHIN.true c.octets-octets.ensures.lower, ap length c.clear.ensures)

pub append-requires : goal.append-requires
append-requires c =
    omega (
      arith,
      within_room c.args.apex.now c.args.key.now c.requires c.in-Some.mark.now c.in-Some.rest.now c.in-Some.ensures.cases.0 c.if-mark-eq-WITHIN.true c.octets-octets.ensures.lower,
      ap length (c.push_labels.ensures ∙ ap (λ l. l ++ wire (key_name c.in-Some.rest.now)) c.clear.ensures),
      ap length c.octets-octets.ensures.value,
    )

pub push_labels-requires-else-mark-eq-WITHIN-clause-labels :
    goal.push_labels-requires-else-mark-eq-WITHIN-clause-labels
push_labels-requires-else-mark-eq-WITHIN-clause-labels c =
    other_labels c.args.apex.now c.args.key.now c.requires c.in-Some.mark.now c.in-Some.rest.now c.in-Some.ensures.cases.0 c.if-mark-eq-WITHIN.false

pub push_labels-requires-else-mark-eq-WITHIN-clause-room :
    goal.push_labels-requires-else-mark-eq-WITHIN-clause-room
push_labels-requires-else-mark-eq-WITHIN-clause-room c =
    omega (arith, other_room c.args.apex.now c.args.key.now c.requires c.in-Some.mark.now c.in-Some.rest.now c.in-Some.ensures.cases.0 c.if-mark-eq-WITHIN.false, ap length c.clear.ensures)

pub returns-then-mark-eq-WITHIN : goal.returns-then-mark-eq-WITHIN
returns-then-mark-eq-WITHIN c =
    c.append.ensures
    ∙ (λ i. (c.push_labels.ensures ∙ ap (λ l. l ++ wire (key_name c.in-Some.rest.now)) c.clear.ensures) i ++ c.octets-octets.ensures.value i)
    ∙ within_octets c.args.apex.now c.args.key.now c.requires c.in-Some.mark.now c.in-Some.rest.now c.in-Some.ensures.cases.0 c.if-mark-eq-WITHIN.true c.octets-octets.ensures.lower
