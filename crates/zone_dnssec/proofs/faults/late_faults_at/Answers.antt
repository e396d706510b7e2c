use Rattle.std.proofs.Common.{false, refl, ◌∙◌}
use Rattle.std.specs.Prelude.{slice_get}
use Rattle.zone_dnssec.specs.ChainFaults.{faults_with}
use Rattle.zone_dnssec.specs.OptOutFlags.{is_lone_flag}
use Rattle.zone_dnssec.specs.UnmatchedLinks.{is_unmatched}
use Rattle.zone_dnssec.specs.ZoneViews.{zone_with}
use Rattle.zone_dnssec.proofs.OwnedRecords.{of_listed}
use Rattle.zone_dnssec.proofs.faults.late_faults_at.Goals as goal

pub returns : goal.returns
returns g c =
    let records = g.Z.ZoneRecords.contents c.args.records.now in
    let zone = zone_with c.args.origin.now records in
    let chain = c.args.chain.now in
    λ i. faults_with false false false
    ((c.is_unmatched.ensures ∙ of_listed (λ r. is_unmatched zone r chain) (λ r. is_unmatched zone r chain) (λ r. refl) (slice_get records c.args.place) c.record-one.result false c.record-one.ensures) i)
    ((c.has_lone_flag.ensures ∙ of_listed (λ r. is_lone_flag records r chain) (λ r. is_lone_flag records r chain) (λ r. refl) (slice_get records c.args.place) c.record-one.result false c.record-one.ensures) i)
