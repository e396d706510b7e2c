use Rattle.std.proofs.Common.{◌≡◌, length}
use Rattle.rdata_svcb.specs.Template.{are_variable_octets}
use Rattle.rdata_svcb.proofs.template.are_variable_octets.Given as goal

abbrev pub invariant-loop-rest : goal.invariant-loop-rest
invariant-loop-rest l = are_variable_octets l.rest ≡ are_variable_octets l.text

abbrev pub decreases-loop-rest : goal.decreases-loop-rest
decreases-loop-rest l = length l.rest
