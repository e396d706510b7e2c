-- Findings as a Checkstyle report.
use Rattle.std.specs.Prelude.{ℕ, if◌then◌else◌, List, [], ◌∷◌, ◌++◌, codes, Option, Some, None}
use Rattle.std.specs.Borrow.{Bor}
use Rattle.std.specs.Fmt.{decimal}
use Rattle.std.specs.Str.{bytes_eq}
use Rattle.finding_codes.specs.Code.{code_name, severity_name}
use Rattle.finding_formats.specs.Escape.{escaped}
use Rattle.finding_formats.specs.Pieces.{about_text, parts_text, opening_text, text_if}
use Rattle.finding_formats.specs.declared.escape.Context.TheVariants.{Xml}
use Rattle.finding_formats.specs.declared.finding.Finding.{Finding}

abbrev pub checkstyle_start : List ℕ
checkstyle_start = codes "<?xml version=\"1.0\" encoding=\"UTF-8\"?>\n<checkstyle version=\"4.3\">\n"

abbrev pub checkstyle_file : List ℕ → List ℕ
checkstyle_file file = parts_text (codes "<file name=\"" ∷ escaped Xml file ∷ codes "\">\n" ∷ [])

abbrev pub file_end : List ℕ
file_end = codes "</file>\n"

-- what is between two findings: nothing in one file
abbrev pub file_change : (before : Option (Bor (List ℕ))) → (file : List ℕ) → List ℕ
file_change None file = checkstyle_file file
file_change (Some before) file = if bytes_eq before.now file then [] else file_end ++ checkstyle_file file

abbrev pub checkstyle_error : Finding → List ℕ
checkstyle_error f = parts_text (
    codes "<error line=\"" ∷ decimal f.position.line ∷ codes "\" column=\"" ∷ decimal f.position.column ∷ codes "\" severity=\"" ∷ severity_name f.severity
    ∷ codes "\" message=\"" ∷ about_text Xml f.owner f.rtype ∷ escaped Xml f.message.now ∷ opening_text (codes ", opened at ") (codes ":") f.opened
    ∷ text_if Xml (codes "&#10;help: ") f.help [] ∷ codes "\" source=\"" ∷ escaped Xml (code_name f.code) ∷ codes "\"/>\n" ∷ [])

-- a finding after one in a file whose element is open, or after none
abbrev pub checkstyle_step : (before : Option (Bor (List ℕ))) → Finding → List ℕ
checkstyle_step before f = file_change before f.file.now ++ checkstyle_error f

abbrev pub checkstyle_end : List ℕ
checkstyle_end = codes "</checkstyle>\n"
