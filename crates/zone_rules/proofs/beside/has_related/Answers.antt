use Rattle.std.proofs.Common.{inl, inr, sym, ◌∙◌, arith}
use Rattle.std.proofs.lemmas.Bool.{cases_lt}
use Rattle.zone_rules.specs.Subjects.{relates}
use Rattle.zone_rules.proofs.OwnRecords.{listed_within, owned_by_it}
use Rattle.zone_rules.proofs.Subjects.{any_found, none_related, one_before}
use Rattle.zone_rules.proofs.beside.has_related.Goals as goal

pub places_at-first-requires : goal.places_at-first-requires
places_at-first-requires g c = listed_within (g.Z.ZoneRecords.contents c.args.records.now) c.args.place c.args.one.now c.requires

pub back-preserved : goal.back-preserved
back-preserved g c =
    let records = g.Z.ZoneRecords.contents c.args.records.now in
    let lt = listed_within records c.args.place c.args.one.now c.requires in (
      omega (arith, c.back.invariant.0),
      one_before (relates c.args.relation c.args.one.now) records c.back.from c.args.place (omega (arith, c.back-test.true)) (omega (arith, lt, c.back.invariant.0)) c.back.invariant.1
          (sym c.is_related_at.ensures ∙ c.if-is_related_at.false),
    )

pub returns-then-is_related_at : goal.returns-then-is_related_at
returns-then-is_related_at g c =
    sym (any_found (relates c.args.relation c.args.one.now) (g.Z.ZoneRecords.contents c.args.records.now) _ (sym c.is_related_at.ensures ∙ c.if-is_related_at.true))

pub returns-then-is_related_at-2 : goal.returns-then-is_related_at-2
returns-then-is_related_at-2 g c =
    sym (any_found (relates c.args.relation c.args.one.now) (g.Z.ZoneRecords.contents c.args.records.now) _ (sym c.is_related_at-in-loop-other.ensures ∙ c.if-is_related_at-2.true))

pub returns : goal.returns
returns g c =
    sym (none_related c.args.relation c.args.one.now (g.Z.ZoneRecords.contents c.args.records.now) c.places_at-first.result.0 c.places_at-first.result.1
    (owned_by_it (g.Z.ZoneRecords.contents c.args.records.now) c.args.place c.args.one.now c.requires c.places_at-first.result.0 c.places_at-first.result.1 c.places_at-first.ensures)
    (λ i d low lt. elim (cases_lt i c.args.place) [
      | inl before ↦ c.back.invariant.1 i d (omega (arith, low, c.back-test.false)) before
      | inr after ↦ c.loop-other.invariant i d after (omega (arith, lt, c.loop-other-test.false))
    ]))
