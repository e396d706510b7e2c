use Rattle.std.proofs.Common.{sym, ◌∙◌}
use Rattle.zone_rules.specs.Above.{names_above}
use Rattle.zone_rules.proofs.Lookups.{none_at_names}
use Rattle.zone_dnssec.proofs.unmatched.is_under_dname.Goals as goal

pub returns-else-has_dname : goal.returns-else-has_dname
returns-else-has_dname g c =
    c.if-has_dname.false ∙ sym (none_at_names 39 (g.Z.ZoneRecords.contents c.args.records.now) (names_above c.args.name.now) (sym c.has_dname.ensures ∙ c.if-has_dname.false))
