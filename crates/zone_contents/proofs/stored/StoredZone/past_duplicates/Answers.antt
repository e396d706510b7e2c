use Rattle.std.proofs.Common.{◌<◌, length, subst, sym}
use Rattle.zone_contents.specs.Steps.{SkipsDuplicates}
use Rattle.zone_contents.proofs.Distinct.{zone_skips}
use Rattle.zone_contents.proofs.stored.StoredZone.past_duplicates.Goals as goal

pub returns : goal.returns
returns g c =
    subst (λ z. SkipsDuplicates z c.args.place c.past_duplicates.result) c.self.view_is
    (zone_skips c.self.inside.apex c.self.inside.store c.self.invariant.records_are c.args.place c.past_duplicates.result
    (subst (λ z. c.args.place < length z.records) (sym c.self.view_is) c.requires) c.past_duplicates.ensures)
