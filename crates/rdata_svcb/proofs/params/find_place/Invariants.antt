use Rattle.std.proofs.Common.{◌≡◌, ℕ, List, ◌-◌, ◌≤◌, length}
use Rattle.rdata_svcb.specs.Params.{params_wire, HasFittingValues}
use Rattle.rdata_svcb.proofs.Settling.{StandsAt}
use Rattle.rdata_svcb.proofs.params.find_place.Given as goal

abbrev pub invariant-loop-front : goal.invariant-loop-front
invariant-loop-front l = record {
  within : l.place ≤ length l.octets;
  stands : (params : List (ℕ × List ℕ)) → HasFittingValues params → l.octets ≡ params_wire params → StandsAt params l.key l.place;
}

abbrev pub decreases-loop-front : goal.decreases-loop-front
decreases-loop-front l = length l.octets - l.place
