use Rattle.std.proofs.Common.{refl, sym, ◌∙◌}
use Rattle.zone_rules.proofs.Subjects.{no_faults}
use Rattle.zone_rules.proofs.hosts.host_faults.Goals as goal

pub returns-in-None : goal.returns-in-None
returns-in-None g c =
    no_faults c.args.origin.now (g.Z.ZoneRecords.contents c.args.records.now) c.args.refused.now c.args.record.now _ (sym c.host.ensures ∙ c.in-None.is) refl refl refl refl refl
