-- The lines of a finding.
use Rattle.std.specs.Prelude.{◌≡◌, ◌⊎◌, ℕ, ◌==◌, not, if◌then◌else◌, Bool, true, List, [], ◌∷◌, ◌++◌, codes, Option, Some, None}
use Rattle.std.specs.Borrow.{Bor}
use Rattle.std.specs.List.{list_all}
use Rattle.std.specs.Fmt.{decimal}
use Rattle.dns_symbol.specs.Characters.{line_feed}
use Rattle.dns_lexer.specs.declared.position.Position.{Position}
use Rattle.finding_codes.specs.declared.code.Severity.{Severity}
use Rattle.finding_codes.specs.declared.code.Severity.TheVariants.{Error, Warning}
use Rattle.finding_formats.specs.declared.finding.Finding.{Finding}
use Rattle.finding_codes.specs.declared.code.Code.{Code}
use Rattle.finding_codes.specs.Code.{code_name, severity_name}
use Rattle.finding_formats.specs.Shown.{shown_text}

-- the escape sequences that begin a style of a terminal: bold, red, magenta, green; and the one that ends each
abbrev pub bold : List ℕ
bold = 27 ∷ codes "[1m"

abbrev pub red : List ℕ
red = 27 ∷ codes "[1;31m"

abbrev pub magenta : List ℕ
magenta = 27 ∷ codes "[1;35m"

abbrev pub green : List ℕ
green = 27 ∷ codes "[1;32m"

abbrev pub unstyled : List ℕ
unstyled = 27 ∷ codes "[0m"

abbrev pub severity_style : Severity → List ℕ
severity_style Error = red
severity_style Warning = magenta

abbrev pub style_if : (is_coloured : Bool) → List ℕ → List ℕ
style_if is_coloured style = if is_coloured then style else []

abbrev pub position_text : Position → List ℕ
position_text p = decimal p.line ++ codes ":" ++ decimal p.column

-- `FILE:LINE:COLUMN:`
abbrev pub place_text : (is_coloured : Bool) → (file : List ℕ) → Position → List ℕ
place_text is_coloured file p = style_if is_coloured bold ++ shown_text true file ++ codes ":" ++ position_text p ++ codes ":" ++ style_if is_coloured unstyled

-- ` error: `
abbrev pub severity_text : (is_coloured : Bool) → Severity → List ℕ
severity_text is_coloured s = codes " " ++ style_if is_coloured (severity_style s) ++ severity_name s ++ codes ":" ++ style_if is_coloured unstyled ++ codes " "

abbrev pub opened_text : Option Position → List ℕ
opened_text None = []
opened_text (Some p) = codes ", opened at " ++ position_text p

-- ` [code]`
abbrev pub bracketed_code : Code → List ℕ
bracketed_code c = codes " [" ++ code_name c ++ codes "]"

-- a part of the subject, and what separates it from the next one
abbrev pub subject_part : (part : Option (Bor (List ℕ))) → (after : List ℕ) → List ℕ
subject_part None after = []
subject_part (Some part) after = shown_text true part.now ++ after

-- `OWNER TYPE: `, or one of them, or nothing
abbrev pub subject_text : (owner rtype : Option (Bor (List ℕ))) → List ℕ
subject_text owner None = subject_part owner (codes ": ")
subject_text owner (Some rtype) = subject_part owner (codes " ") ++ (shown_text true rtype.now ++ codes ": ")

-- `FILE:LINE:COLUMN: error: OWNER TYPE: why [code]`
abbrev pub finding_line : (is_coloured : Bool) → Finding → List ℕ
finding_line is_coloured f = place_text is_coloured f.file.now f.position ++ severity_text is_coloured f.severity ++ subject_text f.owner f.rtype ++ shown_text true f.message.now ++ opened_text f.opened ++ bracketed_code f.code ++ codes "\n"

-- a line with a word before a text, if there is one
abbrev pub further_line : (word : List ℕ) → (text : Option (Bor (List ℕ))) → List ℕ
further_line word None = []
further_line word (Some text) = word ++ shown_text true text.now ++ codes "\n"

-- the line of a finding, and those of its help and its note
abbrev pub finding_lines : (is_coloured : Bool) → Finding → List ℕ
finding_lines is_coloured f = finding_line is_coloured f ++ further_line (codes "help: ") f.help ++ further_line (codes "note: ") f.note

-- the last octet is a line feed, and no other
abbrev pub IsOneLine : List ℕ → Type 0
IsOneLine text = (front : List ℕ) × (text ≡ front ++ line_feed ∷ []) × (list_all (λ c. not (c == line_feed)) front ≡ true)

-- nothing, or one line
abbrev pub IsUpToOneLine : List ℕ → Type 0
IsUpToOneLine text = (text ≡ []) ⊎ IsOneLine text

-- this holds for every finding; a help and a note are at most one line each
pub record FindingsAreLines : Type 0 where
  pub first : (is_coloured : Bool) (f : Finding) → IsOneLine (finding_line is_coloured f)
  pub help : (text : Option (Bor (List ℕ))) → IsUpToOneLine (further_line (codes "help: ") text)
  pub note : (text : Option (Bor (List ℕ))) → IsUpToOneLine (further_line (codes "note: ") text)
