use Rattle.dns_name.proofs.OneAnswer.{one_answer}
use Rattle.dns_name.proofs.laws.texts_have_one_answer.Goals as goal

pub returns : goal.returns
returns g c = one_answer c.args.text.now
