use Rattle.std.proofs.lemmas.Result.{on_ok_weaker}
use Rattle.dns_zone.proofs.Runs.{runs_block}
use Rattle.dns_zone.proofs.zonefile_fmt.Formatter.block.Goals as goal

pub returns : goal.returns
returns g c =
    on_ok_weaker c.end_block.result (runs_block _ _ _ _ _ _ _ (c.in_ok-begin_block.ensures.gives) (c.in_ok-write_show.ensures)) c.end_block.ensures.gives
