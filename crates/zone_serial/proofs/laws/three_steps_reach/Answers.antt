use Rattle.zone_serial.proofs.Orders as orders
use Rattle.zone_serial.proofs.laws.three_steps_reach.Goals as goal

pub returns : goal.returns
returns c = orders.three_steps_reach
