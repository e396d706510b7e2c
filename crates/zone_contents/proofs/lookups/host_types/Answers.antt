use Rattle.std.proofs.Common.{sym, ◌∙◌}
use Rattle.rdata_values.specs.Rtype as Rtype
use Rattle.zone_contents.proofs.WithinZone.{has_no_type}
use Rattle.zone_contents.proofs.lookups.host_types.Goals as goal

pub returns-then-not-is_within_zone-clause-a : goal.returns-then-not-is_within_zone-clause-a
returns-then-not-is_within_zone-clause-a g c =
    c.no_types.ensures.a
    ∙ sym (has_no_type c.args.apex.now c.args.name.now c.is_within_zone.ensures.some (sym c.is_within_zone.ensures.value ∙ c.if-not-is_within_zone.true) Rtype.a c.args.store.now c.requires.records.are
    (c.requires.within c.if-are_within.true))

pub returns-then-not-is_within_zone-clause-aaaa : goal.returns-then-not-is_within_zone-clause-aaaa
returns-then-not-is_within_zone-clause-aaaa g c =
    c.no_types.ensures.aaaa
    ∙ sym (has_no_type c.args.apex.now c.args.name.now c.is_within_zone.ensures.some (sym c.is_within_zone.ensures.value ∙ c.if-not-is_within_zone.true) Rtype.aaaa c.args.store.now c.requires.records.are
    (c.requires.within c.if-are_within.true))

pub returns-then-not-is_within_zone-clause-cname : goal.returns-then-not-is_within_zone-clause-cname
returns-then-not-is_within_zone-clause-cname g c =
    c.no_types.ensures.cname
    ∙ sym (has_no_type c.args.apex.now c.args.name.now c.is_within_zone.ensures.some (sym c.is_within_zone.ensures.value ∙ c.if-not-is_within_zone.true) Rtype.cname c.args.store.now c.requires.records.are
    (c.requires.within c.if-are_within.true))
