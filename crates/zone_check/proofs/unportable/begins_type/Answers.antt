use Rattle.zone_check.proofs.UnportableSteps.{without_front}
use Rattle.zone_check.proofs.unportable.begins_type.Goals as goal

pub returns-in-None : goal.returns-in-None
returns-in-None c = without_front c.args.text.now c.in-None.ensures.lookup.0
