use Rattle.zone_stream.proofs.AlikeRows.{give_alike}
use Rattle.zone_stream.proofs.AlikeStates.{read_alike}
use Rattle.zone_stream.proofs.cut_laws.alike_states_read_alike.Goals as goal

pub returns : goal.returns
returns c = record { entry = read_alike; row = give_alike }
