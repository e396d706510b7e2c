use Rattle.dns_name.proofs.OneUncertain.{uncertain_same}
use Rattle.dns_name.proofs.laws.octets_have_one_answer.Goals as goal

pub returns : goal.returns
returns g c = uncertain_same c.args.octets.now
