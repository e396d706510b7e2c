-- The findings about the records of a zone.
use Rattle.std.specs.Prelude.{◌≡◌, ◌==◌, ◌&&◌, not, if◌then◌else◌, Bool, true, false, List, [], ◌∷◌, ◌++◌, option_to_list, Option, Some, None}
use Rattle.std.specs.List.{flat_map, list_any}
use Rattle.finding_codes.specs.Code.{is_of_absence}
use Rattle.finding_codes.specs.Table.{row_of_code}
use Rattle.finding_codes.specs.declared.code.Code.{Code}
use Rattle.finding_codes.specs.declared.code.Code.TheVariants.{TtlDiffers, Duplicate}
use Rattle.finding_codes.specs.declared.rule.Rule.{Rule}
use Rattle.finding_codes.specs.declared.table.Part.{Part}
use Rattle.finding_codes.specs.declared.table.Part.TheVariants.{Target}
use Rattle.zone_rules.specs.declared.rule.Finding.{Finding}
use Rattle.zone_check.specs.declared.zone_findings.BrokenRule.{BrokenRule}
use Rattle.zone_check.specs.declared.zone_findings.DirectiveLine.{DirectiveLine}
use Rattle.zone_check.specs.declared.zone_findings.ZoneContext.{ZoneContext}
use Rattle.zone_check.specs.declared.zone_findings.ZoneFinding.{ZoneFinding}

abbrev is_target : Part → Bool
is_target Target = true
is_target _ = false

-- about the target in the RDATA
abbrev pub is_at_target : Code → Bool
is_at_target c = is_target (row_of_code c).part

-- those of RRsets always, others only of a zone, and that a record is missing only if all records were read
abbrev pub is_reported_code : Code → ZoneContext → Bool
is_reported_code Duplicate c = true
is_reported_code TtlDiffers c = true
is_reported_code code c = c.is_zone && not (c.has_gap && is_of_absence code)

abbrev pub is_reported_rule : Rule → ZoneContext → Bool
is_reported_rule rule c = is_reported_code rule.code c

-- at the record that breaks the rule, or at its target
abbrev pub zone_finding : Finding → ZoneFinding
zone_finding f = record { rule = f.rule; «record» = f.record; is_at_target = is_at_target f.rule.code }

abbrev pub reported_finding : ZoneContext → Finding → Option ZoneFinding
reported_finding c f = if is_reported_rule f.rule c then Some (zone_finding f) else None

-- ---- the duplicates of a directive are reported once

abbrev pub is_same_directive : DirectiveLine → DirectiveLine → Bool
is_same_directive a b = a.file == b.file && a.line == b.line

abbrev pub directive_of_code : Code → Option DirectiveLine → Option DirectiveLine
directive_of_code Duplicate directive = directive
directive_of_code _ directive = None

abbrev pub repeated_directive : BrokenRule → Option DirectiveLine
repeated_directive b = directive_of_code b.finding.rule.code b.directive

abbrev pub is_repeat : (seen : List DirectiveLine) → Option DirectiveLine → Bool
is_repeat seen None = false
is_repeat seen (Some directive) = list_any (is_same_directive directive) seen

-- without duplicates of a directive that was seen
abbrev pub without_repeats : (seen : List DirectiveLine) → List BrokenRule → List BrokenRule
without_repeats seen [] = []
without_repeats seen (b ∷ broken) =
    if is_repeat seen (repeated_directive b) then without_repeats seen broken else b ∷ without_repeats (seen ++ option_to_list (repeated_directive b)) broken

-- the directives that were seen, and then those of other duplicates, each once
abbrev pub directives_after : (seen : List DirectiveLine) → List BrokenRule → List DirectiveLine
directives_after seen [] = seen
directives_after seen (b ∷ broken) =
    if is_repeat seen (repeated_directive b) then directives_after seen broken else directives_after (seen ++ option_to_list (repeated_directive b)) broken

-- the findings about some broken rules of a zone, in their order, after directives that were seen
abbrev pub FindingsAfter : ZoneContext → (seen : List DirectiveLine) → List BrokenRule → (before after : List ZoneFinding) → Type 0
FindingsAfter c seen broken before after = after ≡ before ++ flat_map (λ b. option_to_list (reported_finding c b.finding)) (without_repeats seen broken)

-- the findings about all broken rules of a zone
abbrev pub FindingsOfZone : ZoneContext → List BrokenRule → (before after : List ZoneFinding) → Type 0
FindingsOfZone c broken before after = FindingsAfter c [] broken before after
