use Rattle.std.proofs.Common.{sym, ap, ◌∙◌}
use Rattle.std.specs.Prelude.{◌==◌}
use Rattle.rdata_values.specs.Rtype as Rtype
use Rattle.zone_rules.proofs.LedNames.{led_back, not_false}
use Rattle.zone_rules.proofs.aliases.is_loop.Goals as goal

pub own_alias_place-from-requires : goal.own_alias_place-from-requires
own_alias_place-from-requires g c = c.requires

pub is_led_to-requires : goal.is_led_to-requires
is_led_to-requires g c = c.own_alias_place-from.ensures.bound

pub returns : goal.returns
returns g c =
    led_back (g.Z.ZoneRecords.contents c.args.records.now) c.args.record.now c.view-goal.result c.own_alias_place-from.result c.is_led_to.result
    c.view-goal.ensures c.own_alias_place-from.ensures.value c.is_led_to.ensures
    (ap (λ t. t == Rtype.cname) (sym c.rtype.ensures) ∙ not_false (c.rtype.result == Rtype.cname) (sym c.ne.ensures ∙ c.if-ne.false))
