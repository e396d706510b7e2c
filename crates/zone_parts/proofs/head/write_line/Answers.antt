use Rattle.std.proofs.Common.{refl}
use Rattle.std.proofs.lemmas.Result.{on_ok_weaker}
use Rattle.dns_zone.specs.Layout.{newline}
use Rattle.dns_zone.proofs.Runs.{runs_then_step}
use Rattle.zone_parts.proofs.head.write_line.Goals as goal

pub returns : goal.returns
returns g c = on_ok_weaker c.newline.result (λ step. runs_then_step _ _ _ _ _ newline _ c.in_ok-write_show.ensures step refl) c.newline.ensures.gives
