use Rattle.dns_name.proofs.WholeName.{one_name}
use Rattle.dns_name.proofs.laws.texts_have_one_name.Goals as goal

pub returns : goal.returns
returns g c = λ other is same. one_name c.args.text.now other c.args.name.now same is
