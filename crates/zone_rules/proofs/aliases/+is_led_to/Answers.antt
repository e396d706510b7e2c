use Rattle.std.proofs.Common.{suc, ◌-◌, Some, false, subst, sym, ◌∙◌}
use Rattle.zone_rules.specs.Subjects.{IsLedFrom}
use Rattle.zone_rules.proofs.LedNames.{led_from, led_none, led_nowhere, led_on, led_there, led_zero}
use Rattle.zone_rules.proofs.aliases.+is_led_to.Goals as goal

pub returns-then-count-eq0 : goal.returns-then-count-eq0
returns-then-count-eq0 g t c =
    let records = g.Z.ZoneRecords.contents c.args.records.now in
    subst (λ n. IsLedFrom n records c.args.goal.now c.args.from false) (sym c.if-count-eq0.true) (led_zero records c.args.goal.now c.args.from)

pub returns-in_default : goal.returns-in_default
returns-in_default g t c =
    let records = g.Z.ZoneRecords.contents c.args.records.now in
    subst (λ p. IsLedFrom c.args.count records c.args.goal.now p false) (sym c.in_default.is) (led_none records c.args.goal.now c.args.count)

pub returns-in-None : goal.returns-in-None
returns-in-None g t c =
    let records = g.Z.ZoneRecords.contents c.args.records.now in
    led_from records c.args.goal.now c.args.count c.args.from false c.in-Some.place c.in-Some.is c.if-count-eq0.false
    (led_nowhere records c.args.goal.now c.in-Some.place c.record-record.result c.record-record.ensures (c.args.count - 1) (sym c.alias_target.ensures ∙ c.in-None.is))

pub returns-then-is_same : goal.returns-then-is_same
returns-then-is_same g t c =
    let records = g.Z.ZoneRecords.contents c.args.records.now in
    led_from records c.args.goal.now c.args.count c.args.from c.is_same.result c.in-Some.place c.in-Some.is c.if-count-eq0.false
    (subst (λ b. IsLedFrom (suc (c.args.count - 1)) records c.args.goal.now (Some c.in-Some.place) b) (sym c.if-is_same.true)
    (led_there records c.args.goal.now c.in-Some.place c.record-record.result c.record-record.ensures (c.args.count - 1) c.in-Some-alias_target.next
    (sym c.alias_target.ensures ∙ c.in-Some-alias_target.is) (sym c.is_same.ensures ∙ c.if-is_same.true)))

pub returns-else-is_same : goal.returns-else-is_same
returns-else-is_same g t c =
    let records = g.Z.ZoneRecords.contents c.args.records.now in
    led_from records c.args.goal.now c.args.count c.args.from c.is_led_to.result c.in-Some.place c.in-Some.is c.if-count-eq0.false
    (led_on records c.args.goal.now c.in-Some.place c.record-record.result c.record-record.ensures (c.args.count - 1) c.in-Some-alias_target.next c.is_led_to.result
    (sym c.alias_target.ensures ∙ c.in-Some-alias_target.is) (sym c.is_same.ensures ∙ c.if-is_same.false)
    (c.is_led_to.ensures c.in-Some-alias_target.next c.alias_place.ensures.value))
