use Rattle.std.proofs.Common.{◌≡◌, subst, sym}
use Rattle.std.specs.Prelude.{◌++◌, OnOk}
use Rattle.zone_rules.proofs.ByType.{all_found, has_rules}
use Rattle.zone_rules.proofs.check.add_broken.Goals as goal

pub add_each-requires : goal.add_each-requires
add_each-requires g c = record { found = c.record-one.ensures; before = c.alike_before.ensures; faults = c.host_faults-faults.ensures }

pub returns : goal.returns
returns g c =
    subst (λ l. OnOk c.add_each.result (c.add_each.new.found.items ≡ c.args.found.now.items ++ l))
    (all_found c.args.origin.now (g.Z.ZoneRecords.contents c.args.records.now) c.args.refused.now c.args.place c.record-one.result c.rules_of-rules.result.now c.record-one.ensures
    (has_rules c.record-one.result.«data».rtype c.rtype.result c.rules_of-rules.result.now (sym c.rtype.ensures) c.rules_of-rules.ensures))
    c.add_each.ensures
