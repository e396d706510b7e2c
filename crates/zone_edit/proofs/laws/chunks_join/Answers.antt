use Rattle.zone_edit.proofs.Outside.{chunks_joined}
use Rattle.zone_edit.proofs.laws.chunks_join.Goals as goal

pub returns : goal.returns
returns g c = λ old middle new first second before between after p q. chunks_joined c.args.edits.now old middle new first second before between after p q
