use Rattle.std.proofs.Common.{◌≡◌, true, false, Bool, refl, ◌∙◌}
use Rattle.std.specs.Prelude.{slice_get}
use Rattle.zone_record.specs.declared.record.Record.{Record}
use Rattle.zone_rules.specs.Zones.{as_listed}
use Rattle.zone_dnssec.specs.OptOutFlags.{is_flagged_link}
use Rattle.zone_dnssec.proofs.OwnedRecords.{of_listed}
use Rattle.zone_dnssec.proofs.flags.is_flagged_at.Goals as goal

flagged_listed : {N O M P : Type 0} (R S : Type 0) (chain : Record M P) (is_set : Bool) (r : Record N O) → is_flagged_link {N = R} {O = S} chain is_set (as_listed r) ≡ is_flagged_link chain is_set r
flagged_listed R S chain true r = refl
flagged_listed R S chain false r = refl

pub returns : goal.returns
returns g c =
    c.is_flagged.ensures
    ∙ of_listed (is_flagged_link c.args.chain.now c.args.is_set) (is_flagged_link c.args.chain.now c.args.is_set) (flagged_listed _ _ c.args.chain.now c.args.is_set) (slice_get (g.Z.ZoneRecords.contents c.args.records.now) c.args.place) c.record-one.result false c.record-one.ensures
