use Rattle.std.proofs.Common.{◌∙◌}
use Rattle.std.specs.Prelude.{slice_get}
use Rattle.zone_dnssec.proofs.OwnedRecords.{wanted_in}
use Rattle.zone_dnssec.proofs.owned.is_wanted_at.Goals as goal

pub returns : goal.returns
returns g c = c.is_wanted.ensures ∙ wanted_in c.args.wanted.now (slice_get (g.Z.ZoneRecords.contents c.args.records.now) c.args.place) c.record-one.result c.record-one.ensures
