use Rattle.zone_edit.proofs.Replaced.{tokens_replaced}
use Rattle.zone_edit.proofs.laws.tokens_stay.Goals as goal

pub returns : goal.returns
returns g c = λ text ls ms spelled valid nested r. tokens_replaced c.args.edits.now text ls ms spelled valid nested r
