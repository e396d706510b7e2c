use Rattle.std.proofs.Common.{[], ap, sym, ◌∙◌, ◌++◌, arith}
use Rattle.zone_rules.proofs.Steps.{zone_more}
use Rattle.zone_delegations.specs.Hidden.{hidden_if, is_hidden_at}
use Rattle.zone_delegations.proofs.HiddenRecords.{glue_is, hidden_is, none_added}
use Rattle.zone_delegations.proofs.hidden.hidden_by.Goals as goal

pub loop-place-preserved : goal.loop-place-preserved
loop-place-preserved g c = record {
  within = omega (arith, c.loop-place-test.true, c.len-place-end.ensures);
  known = c.is_below_after-is_below.ensures;
  found =
      zone_more (λ place. hidden_if (is_hidden_at c.args.origin.now (g.Z.ZoneRecords.contents c.args.records.now) c.args.refused.now place) place) c.loop-place.place [] c.loop-place.found.items c.add_if.new.found.items c.loop-place.invariant.found
      (c.in_ok-add_if.ensures
      ∙ ap (λ b. c.loop-place.found.items ++ hidden_if b c.loop-place.place)
      (c.hides-is_hidden.ensures
      ∙ hidden_is c.args.origin.now (g.Z.ZoneRecords.contents c.args.records.now) c.args.refused.now c.loop-place.place _ _ _ _ _ c.type_at-rtype.ensures c.is_below_after-is_below.ensures
      (c.requires.cuts.marked c.loop-place.place (omega (arith, c.loop-place-test.true, c.len-place-end.ensures))) c.lists_type-may_be_server.ensures
      (c.requires.servers.marked c.loop-place.place (omega (arith, c.loop-place-test.true, c.len-place-end.ensures)))));
}

pub loop-place-preserved-then-is_glue : goal.loop-place-preserved-then-is_glue
loop-place-preserved-then-is_glue g c = record {
  within = c.loop-place.invariant.within;
  known = c.loop-place.invariant.known;
  found =
      zone_more (λ place. hidden_if (is_hidden_at c.args.origin.now (g.Z.ZoneRecords.contents c.args.records.now) c.args.refused.now place) place) c.loop-place.place [] c.loop-place.found.items c.loop-place.found.items c.loop-place.invariant.found
      (none_added c.loop-place.found.items c.loop-place.place (is_hidden_at c.args.origin.now (g.Z.ZoneRecords.contents c.args.records.now) c.args.refused.now c.loop-place.place)
      (glue_is c.args.origin.now (g.Z.ZoneRecords.contents c.args.records.now) c.args.refused.now c.loop-place.place _ _ _ c.type_at-rtype.ensures c.lists_type-may_be_server.ensures
      (c.requires.servers.marked c.loop-place.place (omega (arith, c.loop-place-test.true, c.len-place-end.ensures))) (sym c.is_glue.ensures ∙ c.if-is_glue.true)));
}
