use Rattle.std.proofs.Common.{sym, ◌∙◌, arith}
use Rattle.zone_rules.proofs.CnameTargets.{first_alias, no_alias, one_more_other}
use Rattle.zone_rules.proofs.aliases.first_alias.Goals as goal

pub returns-then-is_alias_at-clause-value : goal.returns-then-is_alias_at-clause-value
returns-then-is_alias_at-clause-value g c =
    first_alias c.args._name.now (g.Z.ZoneRecords.contents c.args.records.now) c.args.first c.args.past c.requires c.loop-place.place
    (omega (arith, c.loop-place.auto.place)) (omega (arith, c.loop-place-test.true)) c.loop-place.invariant (sym c.is_alias_at.ensures ∙ c.if-is_alias_at.true)

pub loop-place-preserved : goal.loop-place-preserved
loop-place-preserved g c =
    one_more_other (g.Z.ZoneRecords.contents c.args.records.now) c.args.first c.loop-place.place
    (omega (arith, c.loop-place-test.true, c.requires.bound)) c.loop-place.invariant (sym c.is_alias_at.ensures ∙ c.if-is_alias_at.false)

pub returns-clause-value : goal.returns-clause-value
returns-clause-value g c =
    no_alias c.args._name.now (g.Z.ZoneRecords.contents c.args.records.now) c.args.first c.args.past c.requires
    (λ i d low lt. c.loop-place.invariant i d low (omega (arith, lt, c.loop-place-test.false)))
