use Rattle.std.proofs.Common.{subst, sym, ◌∙◌}
use Rattle.zone_delegations.specs.Hidden.{is_delegating}
use Rattle.zone_delegations.specs.Owners.{AreAllCutMarks, AreAllServerMarks}
use Rattle.zone_delegations.proofs.HiddenRecords.{any_some}
use Rattle.zone_delegations.proofs.hidden.hidden_records.Goals as goal

pub hidden_by-requires-clause-some : goal.hidden_by-requires-clause-some
hidden_by-requires-clause-some g c =
    any_some (is_delegating c.view-apex.result) (g.Z.ZoneRecords.contents c.args.records.now) (sym c.has_delegation.ensures ∙ c.if-not-has_delegation.false)

pub hidden_by-requires-clause-cuts : goal.hidden_by-requires-clause-cuts
hidden_by-requires-clause-cuts g c =
    subst (AreAllCutMarks c.view-apex.result (g.Z.ZoneRecords.contents c.args.records.now)) (sym c.as_slice.ensures.value) c.in_ok-marks.ensures.cuts

pub hidden_by-requires-clause-servers : goal.hidden_by-requires-clause-servers
hidden_by-requires-clause-servers g c =
    subst (AreAllServerMarks c.view-apex.result (g.Z.ZoneRecords.contents c.args.records.now)) (sym c.as_slice-2.ensures.value) c.in_ok-marks.ensures.servers
