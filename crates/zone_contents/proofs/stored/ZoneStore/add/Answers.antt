use Rattle.std.proofs.Common.{[], ◌∷◌, ◌++◌, ap, subst, sym, ◌∙◌}
use Rattle.zone_contents.specs.Contents.{contents, listing, stored_in_zone, with_lower_owner, AreZoneRecords}
use Rattle.zone_contents.specs.Summaries.{summary_with}
use Rattle.zone_contents.proofs.Summed.{listed_more, zone_more}
use Rattle.zone_contents.proofs.stored.ZoneStore.add.Goals as goal

pub invariant_of-self-2 : goal.invariant_of-self-2
invariant_of-self-2 g c =
    let apex = c.self.inside.apex in
    let old = c.self.inside.store in
    let s = c.self.inside.summary in
    let r = c.args.«record».now in
    subst (AreZoneRecords apex c.add_record.new.store) (sym c.with-self-inside.ensures)
    (subst (λ rs. AreZoneRecords apex rs (summary_with s r)) (sym c.in_ok-add_record.ensures.ok) (zone_more apex old s r c.args.file c.args.offset c.self.invariant c.in_ok-add_record.ensures.valid))

pub returns-clause-ok : goal.returns-clause-ok
returns-clause-ok g c =
    let apex = c.self.inside.apex in
    let old = c.self.inside.store in
    let r = c.args.«record».now in (
      ap (λ z. z.apex) c.self.view_is,
      c.in_ok-add_record.ensures.ok ∙ ap (λ z. z.records ++ stored_in_zone z.apex r c.args.file c.args.offset ∷ []) c.self.view_is,
      ap (listing apex) c.in_ok-add_record.ensures.ok ∙ listed_more apex old c.self.inside.summary r c.args.file c.args.offset ∙ ap (λ z. contents z ++ with_lower_owner r ∷ []) c.self.view_is,
    )
