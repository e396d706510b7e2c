use Rattle.std.proofs.Common.{◌≡◌, ℕ, Option, Some, List, false, refl, ◌∙◌}
use Rattle.std.specs.Prelude.{slice_get}
use Rattle.std.specs.Option.{option_map, option_map_or}
use Rattle.zone_record.specs.declared.record.Record.{Record}
use Rattle.zone_rules.specs.Zones.{as_listed}
use Rattle.zone_dnssec.specs.KeyRequests.{is_unpaired}
use Rattle.zone_dnssec.proofs.OwnedRecords.{of_listed}
use Rattle.zone_dnssec.proofs.requests.is_unpaired_at.Goals as goal

unpaired_in : {N O R S : Type 0} (origin : List (List ℕ)) (records : List (Record N O)) (o : Option (Record N O)) (x : Record R S) → Some x ≡ option_map as_listed o
    → is_unpaired origin records x ≡ option_map_or (is_unpaired origin records) o false
unpaired_in origin records o x e = of_listed (is_unpaired origin records) (is_unpaired origin records) (λ r. refl) o x false e

pub returns : goal.returns
returns g c =
    let records = g.Z.ZoneRecords.contents c.args.records.now in
    c.is_unpaired.ensures ∙ unpaired_in c.args.origin.now records (slice_get records c.args.place) c.record-one.result c.record-one.ensures
