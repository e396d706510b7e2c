-- Findings about the records of a zone, one after another.
use Rattle.std.proofs.Common.{◌≡◌, Bool, true, false, List, [], ◌∷◌, ◌++◌, option_to_list, refl, sym, ap, ◌∙◌, append_assoc}
use Rattle.std.specs.Prelude.{if◌then◌else◌}
use Rattle.std.specs.List.{flat_map}
use Rattle.std.proofs.lemmas.Grind.{flat_map-append}
use Rattle.zone_check.specs.declared.zone_findings.BrokenRule.{BrokenRule}
use Rattle.zone_check.specs.declared.zone_findings.DirectiveLine.{DirectiveLine}
use Rattle.zone_check.specs.declared.zone_findings.ZoneContext.{ZoneContext}
use Rattle.zone_check.specs.declared.zone_findings.ZoneFinding.{ZoneFinding}
use Rattle.zone_check.specs.ZoneFindings.{directives_after, is_repeat, repeated_directive, reported_finding, without_repeats, FindingsAfter, FindingsOfZone}

-- the findings about broken rules after directives that were seen
abbrev pub rest_of_zone : ZoneContext → List DirectiveLine → List BrokenRule → List ZoneFinding
rest_of_zone c seen broken = flat_map (λ b. option_to_list (reported_finding c b.finding)) (without_repeats seen broken)

-- rules that are given in two parts are those that are given at once
parted : (seen : List DirectiveLine) (first rest : List BrokenRule) → without_repeats seen (first ++ rest) ≡ without_repeats seen first ++ without_repeats (directives_after seen first) rest
parted seen [] rest = refl
parted seen (b ∷ first) rest = by (is_repeat seen (repeated_directive b)) (parted seen first rest) (parted (seen ++ option_to_list (repeated_directive b)) first rest)
  where
    by : (r : Bool) → without_repeats seen (first ++ rest) ≡ without_repeats seen first ++ without_repeats (directives_after seen first) rest
        → without_repeats (seen ++ option_to_list (repeated_directive b)) (first ++ rest)
        ≡ without_repeats (seen ++ option_to_list (repeated_directive b)) first ++ without_repeats (directives_after (seen ++ option_to_list (repeated_directive b)) first) rest
        → (if r then without_repeats seen (first ++ rest) else b ∷ without_repeats (seen ++ option_to_list (repeated_directive b)) (first ++ rest))
        ≡ (if r then without_repeats seen first else b ∷ without_repeats (seen ++ option_to_list (repeated_directive b)) first)
        ++ without_repeats (if r then directives_after seen first else directives_after (seen ++ option_to_list (repeated_directive b)) first) rest
    by true same more = same
    by false same more = ap (λ l. b ∷ l) more

pub found_in_parts : (c : ZoneContext) (first rest : List BrokenRule) (before between after : List ZoneFinding) → FindingsOfZone c first before between → FindingsAfter c (directives_after [] first) rest between after
    → FindingsOfZone c (first ++ rest) before after
found_in_parts c first rest before between after h k =
    k ∙ ap (λ l. l ++ rest_of_zone c (directives_after [] first) rest) h
    ∙ append_assoc before (rest_of_zone c [] first) (rest_of_zone c (directives_after [] first) rest)
    ∙ ap (λ l. before ++ l)
    (sym (flat_map-append (λ b. option_to_list (reported_finding c b.finding)) (without_repeats [] first) (without_repeats (directives_after [] first) rest))
    ∙ ap (flat_map (λ b. option_to_list (reported_finding c b.finding))) (sym (parted [] first rest)))
