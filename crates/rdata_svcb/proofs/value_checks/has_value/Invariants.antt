use Rattle.std.proofs.Common.{◌≡◌, length}
use Rattle.std.specs.Option.{is_some}
use Rattle.rdata_svcb.specs.Params.{params_of, value_at}
use Rattle.rdata_svcb.proofs.value_checks.has_value.Given as goal

-- the key is in the rest if it is anywhere
abbrev pub invariant-loop-front : goal.invariant-loop-front
invariant-loop-front l = is_some (value_at (params_of l.params) l.key) ≡ is_some (value_at (params_of l.rest) l.key)

abbrev pub decreases-loop-front : goal.decreases-loop-front
decreases-loop-front l = length l.rest
