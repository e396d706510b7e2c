use Rattle.std.proofs.Common.{sym, ◌∙◌}
use Rattle.std.specs.Prelude.{slice_get}
use Rattle.zone_delegations.proofs.SameOwners.{below_alike}
use Rattle.zone_delegations.proofs.cuts.is_below_after.Goals as goal

pub returns-then-have_one_owner : goal.returns-then-have_one_owner
returns-then-have_one_owner g c =
    let records = g.Z.ZoneRecords.contents c.args.records.now in
    c.requires.known ∙ below_alike c.args.origin.now records (slice_get records c.args.before) (slice_get records c.args.place) (sym c.have_one_owner.ensures ∙ c.if-have_one_owner.true)
