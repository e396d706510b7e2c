use Rattle.std.proofs.Common.{sym, ◌∙◌, arith}
use Rattle.zone_rules.proofs.Searches.{none_passes}
use Rattle.zone_rules.proofs.Subjects.{one_more}
use Rattle.zone_delegations.specs.Hidden.{is_delegating}
use Rattle.zone_delegations.proofs.HiddenRecords.{any_found}
use Rattle.zone_delegations.proofs.cuts.has_delegation.Goals as goal

pub returns-then-is_delegating_at : goal.returns-then-is_delegating_at
returns-then-is_delegating_at g c =
    sym (any_found (is_delegating c.args.origin.now) (g.Z.ZoneRecords.contents c.args.records.now) c.loop-place.place (sym c.is_delegating_at.ensures ∙ c.if-is_delegating_at.true))

pub loop-place-preserved : goal.loop-place-preserved
loop-place-preserved g c =
    one_more (is_delegating c.args.origin.now) (g.Z.ZoneRecords.contents c.args.records.now) 0 c.loop-place.place (omega (arith, c.loop-place-test.true, c.len-place-end.ensures)) c.loop-place.invariant
    (sym c.is_delegating_at.ensures ∙ c.if-is_delegating_at.false)

pub returns : goal.returns
returns g c =
    sym (none_passes (is_delegating c.args.origin.now) (g.Z.ZoneRecords.contents c.args.records.now) (λ i d lt. c.loop-place.invariant i d (omega arith) (omega (arith, lt, c.loop-place-test.false, c.len-place-end.ensures))))
