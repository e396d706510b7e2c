use Rattle.std.proofs.Common.{◌≡◌, false, length, take, sym, subst, ◌∙◌}
use Rattle.std.proofs.lemmas.List.{get_or_read_under}
use Rattle.std.specs.Prelude.{slice_get}
use Rattle.zone_delegations.specs.Hidden.{delegation_of}
use Rattle.zone_delegations.proofs.Listed.{delegation_is, listed_delegation, other_delegation}
use Rattle.zone_delegations.proofs.OwnerMarks.{marked_before, marks_more, marks_same, owner_marks}
use Rattle.zone_rules.specs.Searches.{AreOwnedFrom}
use Rattle.zone_rules.proofs.OwnRecords.{owned_by_it}
use Rattle.zone_delegations.proofs.marks.mark_delegation.Goals as goal

pub returns-in_default : goal.returns-in_default
returns-in_default g c =
    marks_same (delegation_of c.args.origin.now) (g.Z.ZoneRecords.contents c.args.records.now) c.args.place c.args.marks.now.items c.requires.place
    (sym (listed_delegation c.args.origin.now (slice_get (g.Z.ZoneRecords.contents c.args.records.now) c.args.place) c.record-record.result c.record-record.ensures) ∙ sym c.delegation_of.ensures ∙ c.in_default.is) c.requires.marks

pub returns-then-is_marked : goal.returns-then-is_marked
returns-then-is_marked g c =
    let records = g.Z.ZoneRecords.contents c.args.records.now in
    marked_before c.args.origin.now records c.args.place c.args.marks.now.items c.requires.place c.requires.marks
    (sym (get_or_read_under c.args.marks.now.items c.args.place (length records) c.index-is_marked.result.now false c.index-is_marked.ensures c.requires.place (sym c.requires.marks.count)) ∙ c.if-is_marked.true)

pub places_at-first-requires : goal.places_at-first-requires
places_at-first-requires g c = c.requires.place

pub mark_owners-requires-clause-owned : goal.mark_owners-requires-clause-owned
mark_owners-requires-clause-owned g c =
    let records = g.Z.ZoneRecords.contents c.args.records.now in
    let owner : c.in-Some.name ≡ c.record-record.result.owner = delegation_is c.args.origin.now c.record-record.result c.in-Some.name (sym c.delegation_of.ensures ∙ c.in-Some.is) in
    subst (λ n. AreOwnedFrom n records c.places_at-first.result.0 c.places_at-first.result.1) (sym owner)
    (owned_by_it records c.args.place c.record-record.result c.record-record.ensures c.places_at-first.result.0 c.places_at-first.result.1 c.places_at-first.ensures)

pub mark_owners-requires-clause-marks : goal.mark_owners-requires-clause-marks
mark_owners-requires-clause-marks g c = owner_marks (delegation_of c.args.origin.now) (g.Z.ZoneRecords.contents c.args.records.now) (take c.args.place (g.Z.ZoneRecords.contents c.args.records.now)) c.args.marks.now.items c.requires.marks

pub returns : goal.returns
returns g c =
    marks_more (delegation_of c.args.origin.now) (g.Z.ZoneRecords.contents c.args.records.now) c.args.place c.in-Some.name c.args.marks.now.items c.mark_owners.new.marks.items c.requires.place
    (sym (listed_delegation c.args.origin.now (slice_get (g.Z.ZoneRecords.contents c.args.records.now) c.args.place) c.record-record.result c.record-record.ensures) ∙ sym c.delegation_of.ensures ∙ c.in-Some.is) c.requires.marks c.mark_owners.ensures

pub returns-then-not-is_ns_at : goal.returns-then-not-is_ns_at
returns-then-not-is_ns_at g c =
    marks_same (delegation_of c.args.origin.now) (g.Z.ZoneRecords.contents c.args.records.now) c.args.place c.args.marks.now.items c.requires.place
    (other_delegation c.args.origin.now (slice_get (g.Z.ZoneRecords.contents c.args.records.now) c.args.place) (sym c.is_ns_at.ensures ∙ c.if-not-is_ns_at.true)) c.requires.marks
