use Rattle.zone_delegations.specs.Owners.{AreCutMarks, AreServerMarks}
use Rattle.zone_delegations.proofs.marks.record_marks.Given as goal

abbrev pub invariant-loop-place : goal.invariant-loop-place
invariant-loop-place g l = record {
  cuts : AreCutMarks l.origin (g.Z.ZoneRecords.contents l.records) l.place l.cuts.items;
  servers : AreServerMarks l.origin (g.Z.ZoneRecords.contents l.records) l.place l.servers.items;
}
