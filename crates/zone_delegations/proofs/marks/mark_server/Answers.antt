use Rattle.std.proofs.Common.{take, sym, ◌∙◌}
use Rattle.std.specs.Prelude.{slice_get}
use Rattle.zone_delegations.specs.Hidden.{server_of}
use Rattle.zone_delegations.proofs.Listed.{listed_server, other_server}
use Rattle.zone_delegations.proofs.OwnerMarks.{marks_more, marks_same, owner_marks}
use Rattle.zone_delegations.proofs.marks.mark_server.Goals as goal

pub returns-in_default : goal.returns-in_default
returns-in_default g c =
    marks_same (server_of c.args.origin.now) (g.Z.ZoneRecords.contents c.args.records.now) c.args.place c.args.marks.now.items c.requires.place
    (sym (listed_server c.args.origin.now (slice_get (g.Z.ZoneRecords.contents c.args.records.now) c.args.place) c.data_at-data.result c.data_at-data.ensures) ∙ sym c.server_in.ensures ∙ c.in_default.is) c.requires.marks

pub mark_owners-requires-clause-marks : goal.mark_owners-requires-clause-marks
mark_owners-requires-clause-marks g c = owner_marks (server_of c.args.origin.now) (g.Z.ZoneRecords.contents c.args.records.now) (take c.args.place (g.Z.ZoneRecords.contents c.args.records.now)) c.args.marks.now.items c.requires.marks

pub returns : goal.returns
returns g c =
    marks_more (server_of c.args.origin.now) (g.Z.ZoneRecords.contents c.args.records.now) c.args.place c.in-Some.name c.args.marks.now.items c.mark_owners.new.marks.items c.requires.place
    (sym (listed_server c.args.origin.now (slice_get (g.Z.ZoneRecords.contents c.args.records.now) c.args.place) c.data_at-data.result c.data_at-data.ensures) ∙ sym c.server_in.ensures ∙ c.in-Some.is) c.requires.marks c.mark_owners.ensures

pub returns-then-not-is_ns_at : goal.returns-then-not-is_ns_at
returns-then-not-is_ns_at g c =
    marks_same (server_of c.args.origin.now) (g.Z.ZoneRecords.contents c.args.records.now) c.args.place c.args.marks.now.items c.requires.place
    (other_server c.args.origin.now (slice_get (g.Z.ZoneRecords.contents c.args.records.now) c.args.place) (sym c.is_ns_at.ensures ∙ c.if-not-is_ns_at.true)) c.requires.marks
