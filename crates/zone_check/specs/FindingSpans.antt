-- Findings about an entry: a code, a span, and what the message is about.
use Rattle.std.specs.Prelude.{ℕ, ◌+◌, if◌then◌else◌, List, [], ◌∷◌, length, Option, Some, None}
use Rattle.dns_lexer.specs.EntryTokens.{TokenSeen}
use Rattle.finding_codes.specs.declared.code.Code.{Code}
use Rattle.zone_check.specs.declared.finding.About.{About}
use Rattle.zone_check.specs.declared.finding.EntryFinding.{EntryFinding}

-- the octets from an offset of the entry on
abbrev pub finding_at : Code → (start width : ℕ) → About → EntryFinding
finding_at code start width about = record { code = code; start = start; width = width; about = about }

-- the number of octets of a token as it is spelled
abbrev pub token_width : TokenSeen → ℕ
token_width t = if t.is_quoted then length t.text + 2 else length t.text

-- a token as it is spelled
abbrev pub finding_of_token : Code → About → TokenSeen → EntryFinding
finding_of_token code about t = finding_at code t.at (token_width t) about

-- an entry as a whole, at its first token
abbrev pub finding_of_entry : Code → About → List TokenSeen → EntryFinding
finding_of_entry code about [] = finding_at code 0 1 about
finding_of_entry code about (t ∷ tokens) = finding_of_token code about t

-- a token, if there is one
abbrev pub finding_of_any : Code → About → Option TokenSeen → Option EntryFinding
finding_of_any code about None = None
finding_of_any code about (Some t) = Some (finding_of_token code about t)
