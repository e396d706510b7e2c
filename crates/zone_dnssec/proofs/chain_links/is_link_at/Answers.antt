use Rattle.std.proofs.Common.{false, refl, ◌∙◌}
use Rattle.std.specs.Prelude.{slice_get}
use Rattle.zone_dnssec.specs.Nsec3Chain.{is_link}
use Rattle.zone_dnssec.proofs.OwnedRecords.{of_listed}
use Rattle.zone_dnssec.proofs.chain_links.is_link_at.Goals as goal

pub returns : goal.returns
returns g c =
    c.is_of_chain.ensures
    ∙ of_listed (is_link c.args.chain.now) (is_link c.args.chain.now) (λ r. refl) (slice_get (g.Z.ZoneRecords.contents c.args.records.now) c.args.place) c.record-one.result false c.record-one.ensures
