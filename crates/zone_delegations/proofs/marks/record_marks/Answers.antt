use Rattle.std.proofs.Common.{subst, arith}
use Rattle.std.proofs.lemmas.List.{take_all}
use Rattle.zone_delegations.specs.Hidden.{delegation_of, server_of}
use Rattle.zone_delegations.specs.Owners.{AreMarks}
use Rattle.zone_delegations.proofs.OwnerMarks.{marks_none}
use Rattle.zone_delegations.proofs.marks.record_marks.Goals as goal

pub loop-place-init : goal.loop-place-init
loop-place-init g c = record {
  cuts = marks_none (delegation_of c.args.origin.now) (g.Z.ZoneRecords.contents c.args.records.now) c.len.result _ c.len.ensures c.in_ok-cuts.ensures;
  servers = marks_none (server_of c.args.origin.now) (g.Z.ZoneRecords.contents c.args.records.now) c.len-2.result _ c.len-2.ensures c.in_ok-servers.ensures;
}

pub returns : goal.returns
returns g c =
    let records = g.Z.ZoneRecords.contents c.args.records.now in
    record {
      cuts = subst (λ some. AreMarks (delegation_of c.args.origin.now) some records c.loop-place.cuts.items) (take_all c.loop-place.place records (omega arith)) c.loop-place.invariant.cuts;
      servers = subst (λ some. AreMarks (server_of c.args.origin.now) some records c.loop-place.servers.items) (take_all c.loop-place.place records (omega arith)) c.loop-place.invariant.servers;
    }
