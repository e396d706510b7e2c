use Rattle.std.proofs.Common.{sym, ◌∙◌}
use Rattle.std.specs.Prelude.{slice_get}
use Rattle.zone_delegations.proofs.Listed.{listed_delegating, other_delegating}
use Rattle.zone_delegations.proofs.cuts.is_delegating_at.Goals as goal

pub returns : goal.returns
returns g c = c.is_delegating.ensures ∙ listed_delegating c.args.origin.now (slice_get (g.Z.ZoneRecords.contents c.args.records.now) c.args.place) c.record-record.result c.record-record.ensures

pub returns-then-not-is_ns_at : goal.returns-then-not-is_ns_at
returns-then-not-is_ns_at g c = other_delegating c.args.origin.now (slice_get (g.Z.ZoneRecords.contents c.args.records.now) c.args.place) (sym c.is_ns_at.ensures ∙ c.if-not-is_ns_at.true)
