use Rattle.zone_format.proofs.Moving.{writes_end}
use Rattle.zone_format.proofs.format.write_end.Goals as goal

pub returns : goal.returns
returns g c = writes_end c.args.octets.now _ _ _ c.args.progress c.args.at _ _ c.in_ok-line_state.ensures c.blank_at.ensures c.led_if.ensures c.requires.reaches c.requires.order c.requires.within
