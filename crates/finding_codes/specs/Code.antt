-- The columns of the table of codes, and how a code is found by its name.
use Rattle.std.specs.Prelude.{ℕ, ◌==◌, Bool, true, false, List, length, codes, find, Option, option_map, if◌then◌else◌}
use Rattle.std.specs.Str.{bytes_eq}
use Rattle.finding_codes.specs.declared.code.Code.{Code}
use Rattle.finding_codes.specs.declared.code.Scope.{Scope}
use Rattle.finding_codes.specs.declared.code.Scope.TheVariants.{Text}
use Rattle.finding_codes.specs.declared.code.Severity.{Severity}
use Rattle.finding_codes.specs.declared.code.Severity.TheVariants.{Error, Warning}
use Rattle.finding_codes.specs.Table.{FindingRow, row_of_code}

abbrev pub severity_name : Severity → List ℕ
severity_name Error = codes "error"
severity_name Warning = codes "warning"

abbrev pub code_name : Code → List ℕ
code_name c = (row_of_code c).name

abbrev pub is_text_fault : Code → Bool
is_text_fault c = (row_of_code c).traits.is_text_fault

abbrev pub is_of_absence : Code → Bool
is_of_absence c = (row_of_code c).traits.is_of_absence

abbrev pub is_of_time : Code → Bool
is_of_time c = (row_of_code c).traits.is_of_time

abbrev pub default_severity : Code → Severity
default_severity c = (row_of_code c).severity

abbrev pub code_scope : Code → Scope
code_scope c = (row_of_code c).scope

abbrev is_text_scope : Scope → Bool
is_text_scope Text = true
is_text_scope _ = false

abbrev pub is_of_text : Code → Bool
is_of_text c = is_text_scope (code_scope c)

-- the name, if each finding has its own message
abbrev message_of_row : FindingRow → List ℕ
message_of_row r = if length r.message == 0 then r.name else r.message

abbrev pub finding_text : Code → List ℕ
finding_text c = message_of_row (row_of_code c)

-- the code of the first row with a name
abbrev pub code_named : List FindingRow → List ℕ → Option Code
code_named rows name = option_map (λ (r : FindingRow). r.code) (find (λ (r : FindingRow). bytes_eq r.name name) rows)
