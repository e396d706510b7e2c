-- Marks in which runs of blank lines are one, with none at the beginning or the end, and each line ends.
use Rattle.std.specs.Prelude.{Bool, true, false, if◌then◌else◌, List, [], ◌∷◌, ◌++◌}
use Rattle.zone_format.specs.declared.line_state.Above.{Above}
use Rattle.zone_format.specs.declared.line_state.Above.TheVariants.{Nothing, Line}
use Rattle.zone_format.specs.Form.{blank_below, gap, is_blank_line, lines}
use Rattle.zone_format.specs.Marks.{Mark, Feed, Lead, lead}

-- a line begins with a blank
abbrev pub begins_led : List Mark → Bool
begins_led (Lead ∷ ms) = true
begins_led _ = false

-- the items of a line
abbrev pub things : List Mark → List Mark
things [] = []
things (Lead ∷ ms) = things ms
things (m ∷ ms) = m ∷ things ms

-- lines as they are, but one blank line if there were any between two
abbrev pub squeezed_lines : Above → List (List Mark) → List Mark
squeezed_lines above [] = []
squeezed_lines above (l ∷ ls) = if is_blank_line l then squeezed_lines (blank_below above) ls else gap Feed above ++ ((lead (begins_led l) ++ things l) ++ (Feed ∷ squeezed_lines Line ls))

abbrev pub squeezed : List Mark → List Mark
squeezed ms = squeezed_lines Nothing (lines ms)
