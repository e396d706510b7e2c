use Rattle.std.proofs.Common.{sym, ◌∙◌}
use Rattle.zone_rules.proofs.OwnRecords.{listed_within, owner_has}
use Rattle.zone_rules.proofs.present.has_own_type.Goals as goal

pub is_of_type_before-requires : goal.is_of_type_before-requires
is_of_type_before-requires g c = listed_within (g.Z.ZoneRecords.contents c.args.records.now) c.args.place c.args.record.now c.requires

pub returns-then-is_of_type_before : goal.returns-then-is_of_type_before
returns-then-is_of_type_before g c =
    c.if-is_of_type_before.true
    ∙ sym (owner_has (g.Z.ZoneRecords.contents c.args.records.now) c.args.place c.args.rtype c.args.record.now c.requires (c.is_of_type_before.ensures c.if-is_of_type_before.true))
