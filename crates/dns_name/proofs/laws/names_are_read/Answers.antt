use Rattle.dns_name.proofs.WholeName.{whole_or_short}
use Rattle.dns_name.proofs.laws.names_are_read.Goals as goal

pub returns : goal.returns
returns g c = λ room r reads is. whole_or_short c.args.text.now room c.args.name.now r reads is
