use Rattle.std.proofs.Common.{◌++◌, ◌∷◌, ap}
use Rattle.std.specs.Prelude.{if◌then◌else◌}
use Rattle.zone_format.specs.declared.line_state.Above.TheVariants.{Line}
use Rattle.zone_format.specs.Form.{below, blank_below, forms, gap, line_form}
use Rattle.zone_format.proofs.laws.lines_are_independent.Goals as goal

pub returns : goal.returns
returns c = λ above b l ls h. ap (λ x. if x then forms (blank_below above) (below b l) ls else gap 10 above ++ (line_form b l ++ (10 ∷ forms Line (below b l) ls))) h
