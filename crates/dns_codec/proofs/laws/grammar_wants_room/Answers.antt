use Rattle.dns_codec.proofs.Refusals.{wants}
use Rattle.dns_codec.proofs.laws.grammar_wants_room.Goals as goal

pub returns : goal.returns
returns c = wants
