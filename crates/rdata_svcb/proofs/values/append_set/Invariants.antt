use Rattle.std.proofs.Common.{◌≡◌, ◌++◌}
use Rattle.rdata_svcb.specs.ParamValues.{keys_from}
use Rattle.rdata_svcb.proofs.values.append_set.Given as goal

abbrev pub invariant-loop-key : goal.invariant-loop-key
invariant-loop-key g l = g.B.AsOctets.octets l.target ≡ g.B.AsOctets.octets l.initial.target ++ keys_from l.keys 0 l.key
