use Rattle.std.proofs.Common.{get_or}
use Rattle.server_config.proofs.SetSteps.{has_passed, lacking, not_ended, passed_within}
use Rattle.server_config.proofs.path_pattern.set_has.Goals as goal

pub loop-at-preserved : goal.loop-at-preserved
loop-at-preserved c =
    let l = c.loop-at in
    let text = c.args.text.now in
    let lacks = lacking text l.at c.args.octet c.range_has.result c.range_has.ensures c.if-range_has.false in
    record {
      within = passed_within text l.at c.range_more.result c.loop-at-test.true c.range_more.ensures;
      rest = has_passed text l.at c.range_more.result c.loop-at-test.true c.range_more.ensures c.args.octet (not_ended (get_or text l.at 0) l.at c.else-low-eq93.either) lacks l.invariant.rest;
    }
