use Rattle.std.proofs.Common.{false, refl, ◌∙◌}
use Rattle.std.specs.Prelude.{slice_get}
use Rattle.zone_dnssec.specs.ChainFaults.{faults_with}
use Rattle.zone_dnssec.specs.HashedLinks.{is_out_of_order}
use Rattle.zone_dnssec.specs.ZoneViews.{zone_with}
use Rattle.zone_dnssec.specs.declared.hashed.LinkFault.TheVariants.{Missing, DifferentTypes}
use Rattle.zone_dnssec.proofs.ChainTests.{beside_is}
use Rattle.zone_dnssec.proofs.OwnedRecords.{of_listed}
use Rattle.zone_dnssec.proofs.faults.faults_at.Goals as goal

pub returns : goal.returns
returns g c =
    let records = g.Z.ZoneRecords.contents c.args.records.now in
    let zone = zone_with c.args.origin.now records in
    let chain = c.args.chain.now in
    let place = c.args.place in
    λ i. faults_with
    ((c.first_faults-names.ensures.missing ∙ beside_is Missing zone chain place c.record_before-before.result c.record-one.result c.record_before-before.ensures c.record-one.ensures) i)
    ((c.first_faults-names.ensures.types ∙ beside_is DifferentTypes zone chain place c.record_before-before.result c.record-one.result c.record_before-before.ensures c.record-one.ensures) i)
    ((c.has_wrong_next_hash.ensures ∙ of_listed (λ r. is_out_of_order zone r chain) (λ r. is_out_of_order zone r chain) (λ r. refl) (slice_get records place) c.record-one.result false c.record-one.ensures) i) false
    false
