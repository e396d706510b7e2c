use Rattle.std.proofs.Common.{false, length, sym, ◌∙◌, arith}
use Rattle.std.proofs.lemmas.List.{get_or_read_under}
use Rattle.zone_delegations.proofs.OwnerMarks.{first_marked, marked_none, marked_set}
use Rattle.zone_delegations.proofs.marks.mark_owners.Goals as goal

pub returns-then-first-past : goal.returns-then-first-past
returns-then-first-past g c =
    marked_none c.args._name.now (g.Z.ZoneRecords.contents c.args._records.now) c.args.marks.now.items c.args.first c.args.past c.requires.owned (omega arith)

pub returns-then-is_marked : goal.returns-then-is_marked
returns-then-is_marked g c =
    first_marked c.args._name.now (g.Z.ZoneRecords.contents c.args._records.now) c.args.marks.now.items c.args.first c.args.past c.requires.owned (omega arith) c.requires.marks (sym (get_or_read_under c.args.marks.now.items c.args.first (length (g.Z.ZoneRecords.contents c.args._records.now)) c.index-is_marked.result.now false c.index-is_marked.ensures
    (omega (arith, c.if-first-past.false, c.requires.owned.bound)) (sym c.requires.marks.count)) ∙ c.if-is_marked.true)

pub returns : goal.returns
returns g c =
    marked_set c.args._name.now (g.Z.ZoneRecords.contents c.args._records.now) c.args.marks.now.items c.set_marks.new.marks.items c.args.first c.args.past c.requires.owned c.set_marks.ensures
