use Rattle.std.proofs.Common.{◌≡◌, ◌==◌, ◌+◌, [], length}
use Rattle.std.specs.List.{list_all, slice_split}
use Rattle.std.specs.Option.{option_map_or}
use Rattle.rdata_svcb.specs.Template.{is_variable}
use Rattle.rdata_svcb.proofs.template.are_variables.Given as goal

abbrev pub invariant-loop-left : goal.invariant-loop-left
invariant-loop-left l = list_all is_variable (option_map_or (λ rest. slice_split (λ o. o == 44) rest.now) l.left []) ≡ list_all is_variable (slice_split (λ o. o == 44) l.list)

abbrev pub decreases-loop-left : goal.decreases-loop-left
decreases-loop-left l = option_map_or (λ rest. length rest.now + 1) l.left 0
