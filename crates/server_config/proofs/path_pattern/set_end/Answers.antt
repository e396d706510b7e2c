use Rattle.std.proofs.Common.{get_or}
use Rattle.server_config.proofs.SetSteps.{end_passed, not_ended, passed_within}
use Rattle.server_config.proofs.path_pattern.set_end.Goals as goal

pub loop-at-preserved : goal.loop-at-preserved
loop-at-preserved c =
    let l = c.loop-at in
    let text = c.args.text.now in
    record {
      within = passed_within text l.at c.range_more.result c.loop-at-test.true c.range_more.ensures;
      rest = end_passed text l.at c.range_more.result c.loop-at-test.true c.range_more.ensures (not_ended (get_or text l.at 0) l.at c.else-text-at-eq93.either) l.invariant.rest;
    }
