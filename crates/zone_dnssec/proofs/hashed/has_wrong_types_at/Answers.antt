use Rattle.std.proofs.Common.{false, refl, ◌∙◌}
use Rattle.std.specs.Prelude.{not, slice_get}
use Rattle.zone_rules.specs.Rules.{is_zone_cut}
use Rattle.zone_dnssec.specs.Nsec3Chain.{hashed_bitmap}
use Rattle.zone_dnssec.specs.NsecTypes.{lists_exactly}
use Rattle.zone_dnssec.proofs.OwnedRecords.{of_listed}
use Rattle.zone_dnssec.proofs.hashed.has_wrong_types_at.Goals as goal

pub returns : goal.returns
returns g c =
    let records = g.Z.ZoneRecords.contents c.args.records.now in
    let name = c.args.name.now in
    (λ i. not (c.lists_types.ensures i)) ∙ (λ i. not (lists_exactly (c.is_cut.ensures i) records name (c.bitmap.ensures i)))
    ∙ of_listed (λ link. not (lists_exactly (is_zone_cut c.args.origin.now records name) records name (hashed_bitmap link)))
    (λ link. not (lists_exactly (is_zone_cut c.args.origin.now records name) records name (hashed_bitmap link))) (λ r. refl) (slice_get records c.args.place) c.record-one.result false c.record-one.ensures
