use Rattle.std.proofs.Common.{◌≡◌, length}
use Rattle.mail_texts.specs.Parts.{parts_between}
use Rattle.record_rules.specs.CaaValues.{are_parameters}
use Rattle.record_rules.proofs.caa_values.are_parameters.Given as goal

abbrev pub invariant-loop-part : goal.invariant-loop-part
invariant-loop-part l = are_parameters (parts_between 59 l.rest) ≡ are_parameters (parts_between 59 l.fn.octets)

abbrev pub decreases-loop-part : goal.decreases-loop-part
decreases-loop-part l = length l.rest
