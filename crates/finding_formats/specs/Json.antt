-- Findings as JSON objects.
use Rattle.std.specs.Prelude.{ℕ, List, [], ◌∷◌, codes, Option}
use Rattle.std.specs.Borrow.{Bor}
use Rattle.std.specs.Fmt.{decimal}
use Rattle.finding_codes.specs.Code.{code_name, severity_name}
use Rattle.finding_formats.specs.Escape.{escaped}
use Rattle.finding_formats.specs.Lines.{IsOneLine}
use Rattle.finding_formats.specs.Pieces.{number_if, parts_text, opening_text, text_if}
use Rattle.finding_formats.specs.declared.escape.Context.TheVariants.{Json}
use Rattle.finding_formats.specs.declared.finding.Finding.{Finding}

-- `,"NAME":"VALUE"` without the last quote, after a string without its own
abbrev pub string_member : (name : List ℕ) → Option (Bor (List ℕ)) → List ℕ
string_member before octets = text_if Json before octets []

abbrev pub json_line : Finding → List ℕ
json_line f = parts_text (
    codes "{\"file\":\"" ∷ escaped Json f.file.now
    ∷ codes "\",\"line\":" ∷ decimal f.position.line ∷ codes ",\"column\":" ∷ decimal f.position.column ∷ codes ",\"end_column\":" ∷ decimal f.end_column
    ∷ opening_text (codes ",\"opened_line\":") (codes ",\"opened_column\":") f.opened
    ∷ number_if (codes ",\"generate\":") f.generate
    ∷ codes ",\"severity\":\"" ∷ severity_name f.severity ∷ codes "\",\"code\":\"" ∷ escaped Json (code_name f.code)
    ∷ string_member (codes "\",\"owner\":\"") f.owner ∷ string_member (codes "\",\"type\":\"") f.rtype
    ∷ codes "\",\"message\":\"" ∷ escaped Json f.message.now ∷ string_member (codes "\",\"help\":\"") f.help
    ∷ codes "\"}\n" ∷ [])

-- this holds for every finding
abbrev pub ObjectsAreLines : Type 0
ObjectsAreLines = (f : Finding) → IsOneLine (json_line f)
