-- The part and the message of a rule.
use Rattle.std.specs.Prelude.{ℕ, ◌==◌, ◌&&◌, Bool, List, Option, Some, None, find}
use denote.Enum.Declared.{tag_of}
use Rattle.finding_codes.specs.contracts.code.Code.{the_type}
use Rattle.finding_codes.specs.declared.code.Code.{Code}
use Rattle.finding_codes.specs.declared.rule.Rule.{Rule}
use Rattle.finding_codes.specs.declared.table.Part.{Part}
use Rattle.finding_codes.specs.Code.{finding_text}
use Rattle.finding_codes.specs.Table.{FindingWay, row_of_code, way_rows}

-- the rule of a code and a way
abbrev pub coded_rule : Code → (way : ℕ) → Rule
coded_rule c n = record { code = c; way = n }

abbrev pub is_way : Rule → FindingWay → Bool
is_way r w = tag_of the_type w.code == tag_of the_type r.code && w.number == r.way

abbrev pub way_of_rule : Rule → Option FindingWay
way_of_rule r = find (is_way r) way_rows

-- that of a further way, or of the row of the code
abbrev part_of_way : Rule → Option FindingWay → Part
part_of_way r None = (row_of_code r.code).part
part_of_way r (Some w) = w.part

abbrev pub rule_part : Rule → Part
rule_part r = part_of_way r (way_of_rule r)

abbrev message_of_way : Rule → Option FindingWay → List ℕ
message_of_way r None = finding_text r.code
message_of_way r (Some w) = w.message

abbrev pub rule_message : Rule → List ℕ
rule_message r = message_of_way r (way_of_rule r)
