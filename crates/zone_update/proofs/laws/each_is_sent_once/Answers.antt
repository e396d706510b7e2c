use Rattle.zone_update.proofs.Sending.{all_sent}
use Rattle.zone_update.proofs.laws.each_is_sent_once.Goals as goal

pub returns : goal.returns
returns g c = λ apex servers limit soa messages h. all_sent apex servers limit c.args.operations.now soa messages h
