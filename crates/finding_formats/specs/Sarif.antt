-- The parts of a SARIF log.
use Rattle.std.specs.Prelude.{ℕ, if◌then◌else◌, Bool, List, [], ◌∷◌, codes}
use Rattle.std.specs.Fmt.{decimal}
use Rattle.finding_codes.specs.Code.{code_name, severity_name}
use Rattle.finding_formats.specs.Escape.{escaped}
use Rattle.finding_formats.specs.Pieces.{about_text, parts_text, opening_text, text_if}
use Rattle.finding_formats.specs.declared.escape.Context.TheVariants.{Json, Uri}
use Rattle.finding_formats.specs.declared.finding.Finding.{Finding}
use Rattle.finding_formats.specs.declared.sarif.Rule.{Rule}
use Rattle.finding_formats.specs.declared.sarif.Tool.{Tool}

-- what comes before an element of an array
abbrev pub separator : (is_first : Bool) → List ℕ
separator is_first = if is_first then codes "\n" else codes ",\n"

abbrev pub sarif_start : Tool → List ℕ
sarif_start t = parts_text (
    codes "{\"$schema\":\"https://json.schemastore.org/sarif-2.1.0.json\","
    ∷ codes "\"version\":\"2.1.0\",\"runs\":[{\"columnKind\":\"unicodeCodePoints\","
    ∷ codes "\"tool\":{\"driver\":{\"name\":\"" ∷ escaped Json t.name.now ∷ codes "\",\"version\":\"" ∷ escaped Json t.version.now ∷ codes "\",\"rules\":[" ∷ [])

abbrev pub sarif_rule : (is_first : Bool) → Rule → List ℕ
sarif_rule is_first r = parts_text (
    separator is_first ∷ codes "{\"id\":\"" ∷ escaped Json (code_name r.code)
    ∷ codes "\",\"shortDescription\":{\"text\":\"" ∷ escaped Json r.summary.now ∷ codes "\"},\"fullDescription\":{\"text\":\"" ∷ escaped Json r.text.now
    ∷ codes "\"},\"defaultConfiguration\":{\"level\":\"" ∷ severity_name r.severity ∷ codes "\"}}" ∷ [])

abbrev pub sarif_results : List ℕ
sarif_results = codes "\n]}},\"results\":["

abbrev pub sarif_result : (is_first : Bool) → Finding → List ℕ
sarif_result is_first f = parts_text (
    separator is_first ∷ codes "{\"ruleId\":\"" ∷ escaped Json (code_name f.code) ∷ codes "\",\"level\":\"" ∷ severity_name f.severity
    ∷ codes "\",\"message\":{\"text\":\"" ∷ about_text Json f.owner f.rtype ∷ escaped Json f.message.now ∷ opening_text (codes ", opened at ") (codes ":") f.opened
    ∷ text_if Json (codes "\\nhelp: ") f.help []
    ∷ codes "\"},\"locations\":[{\"physicalLocation\":{\"artifactLocation\":{\"uri\":\"" ∷ escaped Uri f.file.now
    ∷ codes "\"},\"region\":{\"startLine\":" ∷ decimal f.position.line ∷ codes ",\"startColumn\":" ∷ decimal f.position.column ∷ codes ",\"endColumn\":" ∷ decimal f.end_column
    ∷ codes "}}}]}" ∷ [])

abbrev pub sarif_end : List ℕ
sarif_end = codes "\n]}]}\n"
