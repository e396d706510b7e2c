use Rattle.std.proofs.Common.{◌≡◌, ◌++◌, [], refl, subst}
use Rattle.std.specs.Prelude.{OnOk, slice_get}
use Rattle.zone_dnssec.specs.ZoneKeys.{keys_of}
use Rattle.zone_dnssec.proofs.OwnedRecords.{of_listed}
use Rattle.zone_dnssec.proofs.keys.add_key_at.Goals as goal

pub returns : goal.returns
returns g c =
    subst (λ l. OnOk c.add_key.result (c.add_key.new.keys.items ≡ c.args.keys.now.items ++ l))
    (of_listed keys_of keys_of (λ r. refl) (slice_get (g.Z.ZoneRecords.contents c.args.records.now) c.args.place) c.record-one.result [] c.record-one.ensures)
    c.add_key.ensures
