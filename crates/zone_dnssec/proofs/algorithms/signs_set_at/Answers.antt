use Rattle.std.proofs.Common.{◌≡◌, ℕ, Bool, Option, Some, List, true, false, refl, ◌∙◌}
use Rattle.std.specs.Prelude.{slice_get}
use Rattle.std.specs.Option.{option_map, option_map_or}
use Rattle.zone_record.specs.declared.record.Record.{Record}
use Rattle.zone_rules.specs.Zones.{as_listed}
use Rattle.zone_dnssec.specs.SigningAlgorithms.{signs_set}
use Rattle.zone_dnssec.specs.ZoneViews.{ZoneView, zone_with}
use Rattle.zone_dnssec.specs.declared.keys.Key.{Key}
use Rattle.zone_dnssec.proofs.OwnedRecords.{of_listed}
use Rattle.zone_dnssec.proofs.algorithms.signs_set_at.Goals as goal

signs_listed : {N O : Type 0} (R S : Type 0) (keys : List Key) (zone : ZoneView N O) (algorithm : ℕ) (is_of_keys : Bool) (r : Record N O)
    → signs_set {M = R} {P = S} keys zone algorithm is_of_keys (as_listed r) ≡ signs_set keys zone algorithm is_of_keys r
signs_listed R S keys zone algorithm true r = refl
signs_listed R S keys zone algorithm false r = refl

signs_in : {N O R S : Type 0} (keys : List Key) (zone : ZoneView N O) (algorithm : ℕ) (is_of_keys : Bool) (o : Option (Record N O)) (x : Record R S) → Some x ≡ option_map as_listed o
    → signs_set keys zone algorithm is_of_keys x ≡ option_map_or (signs_set keys zone algorithm is_of_keys) o false
signs_in {R = R} {S = S} keys zone algorithm is_of_keys o x e =
    of_listed (signs_set keys zone algorithm is_of_keys) (signs_set keys zone algorithm is_of_keys) (signs_listed R S keys zone algorithm is_of_keys) o x false e

pub returns : goal.returns
returns g c =
    let records = g.Z.ZoneRecords.contents c.args.records.now in
    c.signs_set.ensures ∙ signs_in c.args.keys.now (zone_with c.args.origin.now records) c.args.algorithm c.args.is_of_keys (slice_get records c.args.place) c.record-one.result c.record-one.ensures
