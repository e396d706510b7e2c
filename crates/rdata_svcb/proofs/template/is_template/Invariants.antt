use Rattle.std.proofs.Common.{◌≡◌, ◌==◌, ◌+◌, false, [], length}
use Rattle.std.specs.List.{slice_split}
use Rattle.std.specs.Option.{option_map_or}
use Rattle.rdata_svcb.specs.Template.{begins_expression, begins_query, after_braces}
use Rattle.rdata_svcb.proofs.Templates.{both_tests}
use Rattle.rdata_svcb.proofs.template.is_template.Given as goal

abbrev pub invariant-loop-left : goal.invariant-loop-left
invariant-loop-left l =
    both_tests begins_expression begins_query l.has_query (option_map_or (λ rest. slice_split (λ o. o == 123) rest.now) l.left [])
    ≡ both_tests begins_expression begins_query false (after_braces l.text)

abbrev pub decreases-loop-left : goal.decreases-loop-left
decreases-loop-left l = option_map_or (λ rest. length rest.now + 1) l.left 0
