use Rattle.zone_reader.proofs.PastStates.{known_once, known_on, starts}
use Rattle.zone_reader.proofs.state_laws.past_leaves_one_state.Goals as goal

pub returns : goal.returns
returns c = record {
  once = known_once;
  start = starts;
  goes_on = λ start middle end past later h k. known_on start middle past h later end k;
}
