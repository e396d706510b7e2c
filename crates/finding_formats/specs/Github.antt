-- Findings as workflow commands of GitHub Actions.
use Rattle.std.specs.Prelude.{ℕ, List, [], ◌∷◌, codes}
use Rattle.std.specs.Fmt.{decimal}
use Rattle.finding_codes.specs.Code.{code_name, severity_name}
use Rattle.finding_formats.specs.Escape.{escaped}
use Rattle.finding_formats.specs.Pieces.{about_text, parts_text, opening_text, text_if}
use Rattle.finding_formats.specs.declared.escape.Context.TheVariants.{Github, GithubProperty}
use Rattle.finding_formats.specs.declared.finding.Finding.{Finding}

-- `::error file=..,line=..,col=..,endColumn=..,title=CODE::TEXT`
abbrev pub github_line : Finding → List ℕ
github_line f = parts_text (
    codes "::" ∷ severity_name f.severity ∷ codes " file=" ∷ escaped GithubProperty f.file.now
    ∷ codes ",line=" ∷ decimal f.position.line ∷ codes ",col=" ∷ decimal f.position.column ∷ codes ",endColumn=" ∷ decimal f.end_column
    ∷ codes ",title=" ∷ escaped GithubProperty (code_name f.code) ∷ codes "::"
    ∷ about_text Github f.owner f.rtype ∷ escaped Github f.message.now ∷ opening_text (codes ", opened at ") (codes ":") f.opened
    ∷ text_if Github (codes "%0Ahelp: ") f.help [] ∷ codes "\n" ∷ [])
