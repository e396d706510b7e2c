use Rattle.std.proofs.Common.{◌-◌, ap, sym, ◌∙◌}
use Rattle.std.specs.Prelude.{◌==◌, option_and_then, slice_get}
use Rattle.std.specs.Option.{option_map}
use Rattle.std.proofs.lemmas.Bool.{not-false, not-true}
use Rattle.zone_rules.specs.Subjects.{alike}
use Rattle.zone_rules.specs.Zones.{as_listed}
use Rattle.zone_rules.proofs.AlikeBefore.{alike_found, before_is, other_owners, other_types}
use Rattle.zone_rules.proofs.check.alike_before.Goals as goal

pub returns-then-ne : goal.returns-then-ne
returns-then-ne g c =
    let records = g.Z.ZoneRecords.contents c.args.records.now in
    other_types _ _ (slice_get records (c.args.place - 1)) (slice_get records c.args.place) c.type_at.result c.type_at-2.result c.type_at.ensures c.type_at-2.ensures
    (not-true (c.type_at.result == c.type_at-2.result) (sym c.ne.ensures ∙ c.if-ne.true))
    ∙ ap (λ p. option_map as_listed (option_and_then (λ r. option_and_then (alike r) p) (slice_get records c.args.place))) (before_is records c.args.place c.if-place-eq0.false)

pub returns-then-not-have_one_owner : goal.returns-then-not-have_one_owner
returns-then-not-have_one_owner g c =
    let records = g.Z.ZoneRecords.contents c.args.records.now in
    other_owners _ _ (slice_get records (c.args.place - 1)) (slice_get records c.args.place) (sym c.have_one_owner.ensures ∙ c.if-not-have_one_owner.true)
    ∙ ap (λ p. option_map as_listed (option_and_then (λ r. option_and_then (alike r) p) (slice_get records c.args.place))) (before_is records c.args.place c.if-place-eq0.false)

pub returns : goal.returns
returns g c =
    let records = g.Z.ZoneRecords.contents c.args.records.now in
    alike_found (slice_get records (c.args.place - 1)) (slice_get records c.args.place) c.type_at.result c.type_at-2.result c.record.result c.type_at.ensures c.type_at-2.ensures
    (not-false (c.type_at.result == c.type_at-2.result) (sym c.ne.ensures ∙ c.if-ne.false)) (sym c.have_one_owner.ensures ∙ c.if-not-have_one_owner.false) c.record.ensures
    ∙ ap (λ p. option_map as_listed (option_and_then (λ r. option_and_then (alike r) p) (slice_get records c.args.place))) (before_is records c.args.place c.if-place-eq0.false)
