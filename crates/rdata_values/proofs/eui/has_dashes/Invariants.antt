use Rattle.rdata_values.specs.Eui.{AreDashes}
use Rattle.rdata_values.proofs.eui.has_dashes.Given as goal

abbrev pub invariant-loop-pair : goal.invariant-loop-pair
invariant-loop-pair l = AreDashes l.text l.pair
