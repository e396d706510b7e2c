-- Findings about the octets of a zone file, without its records.
use Rattle.std.specs.Prelude.{◌≡◌, ℕ, ◌+◌, ◌-◌, ◌==◌, ◌||◌, ◌&&◌, not, nat_lt, nat_le, if◌then◌else◌, Bool, true, false, List, [], ◌∷◌, ◌++◌, length, drop, slice_index, ◌≤◌, Option, Some, None, Result, Ok, Err}
use Rattle.std.specs.List.{position}
use Rattle.dns_symbol.specs.Characters.{space, tab, line_feed, carriage_return, open_parenthesis, close_parenthesis}
use Rattle.dns_lexer.specs.Pieces.{AreItemsOf, between, piece_start}
use Rattle.dns_lexer.specs.declared.pieces.Piece.{Piece}
use Rattle.dns_lexer.specs.declared.pieces.Piece.TheVariants.{Word as WordAt, Quote as QuoteAt, Comment as CommentAt, End as EndAt}
use Rattle.dns_lexer.specs.declared.pieces.Fault.{Fault}
use Rattle.finding_codes.specs.declared.code.Code.{Code}
use Rattle.finding_codes.specs.declared.code.Code.TheVariants.{Nul, HighOctet, ControlOctet, ControlZ, NestedParentheses, LeadingParenthesis, AdjacentTokens, Crlf, NoFinalNewline}
use Rattle.zone_check.specs.declared.lint.Block.{Block}
use Rattle.zone_check.specs.declared.lint.LintState.{LintState}
use Rattle.zone_check.specs.declared.lint.Remark.{Remark}

abbrev pub remark : ℕ → Code → Remark
remark at code = record { at = at; code = code }

-- a finding at an offset that is counted from another
abbrev pub remarks_at : (from : ℕ) → Option ℕ → Code → List Remark
remarks_at from None code = []
remarks_at from (Some i) code = remark (from + i) code ∷ []

-- a finding at the first octet from an offset on that passes a test
abbrev pub first_passing : (ℕ → Bool) → (from : ℕ) → List ℕ → Code → List Remark
first_passing test from octets code = remarks_at from (position test octets) code

abbrev pub is_nul : ℕ → Bool
is_nul c = c == 0

abbrev pub is_return : ℕ → Bool
is_return c = c == carriage_return

abbrev pub is_high : ℕ → Bool
is_high c = nat_le 128 c

-- a control octet other than NUL, which is an error, and a tab
abbrev pub is_unusual_control : ℕ → Bool
is_unusual_control c = (nat_lt c space || c == 127) && not (is_nul c || c == tab)

-- the findings of a token: its first NUL, its first octet from 128 on, and its first control octet other than a tab and NUL
abbrev pub token_remarks : (from : ℕ) → (token : List ℕ) → List Remark
token_remarks from token = first_passing is_nul from token Nul ++ first_passing is_high from token HighOctet ++ first_passing is_unusual_control from token ControlOctet

-- the number of open parentheses after an octet between two pieces, and after several
abbrev pub depth_by : (depth octet : ℕ) → ℕ
depth_by depth c = if c == open_parenthesis then depth + 1 else if c == close_parenthesis then depth - 1 else depth

abbrev pub open_after : (depth : ℕ) → List ℕ → ℕ
open_after depth [] = depth
open_after depth (c ∷ cs) = open_after (depth_by depth c) cs

-- a parenthesis is opened inside others
abbrev pub opens_inside : (depth octet : ℕ) → Bool
opens_inside depth c = c == open_parenthesis && nat_lt 0 depth

abbrev pub nested_remarks : (depth from : ℕ) → List ℕ → List Remark
nested_remarks depth from [] = []
nested_remarks depth from (c ∷ cs) = (if opens_inside depth c then remark from NestedParentheses ∷ [] else []) ++ nested_remarks (depth_by depth c) (from + 1) cs

-- an entry begins with Ctrl-Z or with a parenthesis
abbrev pub code_of_first : ℕ → Option Code
code_of_first c = if c == 26 then Some ControlZ else if c == open_parenthesis then Some LeadingParenthesis else None

abbrev pub coded_remarks : (at : ℕ) → Option Code → List Remark
coded_remarks at None = []
coded_remarks at (Some code) = remark at code ∷ []

abbrev pub first_remarks : (at : ℕ) → List ℕ → List Remark
first_remarks at [] = []
first_remarks at (c ∷ cs) = coded_remarks at (code_of_first c)

-- the finding of an entry's first octet
abbrev pub beginning_remarks : (octets : List ℕ) → (at : ℕ) → List Remark
beginning_remarks octets at = first_remarks at (drop at octets)

-- a word or a quoted text
abbrev pub is_token_piece : Piece → Bool
is_token_piece (WordAt p) = true
is_token_piece (QuoteAt p) = true
is_token_piece _ = false

-- a token begins where another ends
abbrev pub adjacent_remarks : LintState → Piece → List Remark
adjacent_remarks old p = if old.is_after_token && (is_token_piece p && piece_start p == old.at) then remark old.at AdjacentTokens ∷ [] else []

-- the offset after a piece
abbrev pub piece_end : Piece → ℕ
piece_end (WordAt p) = p.end
piece_end (QuoteAt p) = p.end
piece_end (CommentAt p) = p.end
piece_end (EndAt p) = p.at

-- the findings of a piece; at an entry's end, of how the next one begins
abbrev pub piece_remarks : List ℕ → Piece → List Remark
piece_remarks octets (WordAt p) = token_remarks p.start (between octets p.start p.end)
piece_remarks octets (QuoteAt p) = token_remarks p.start (between octets p.start p.end)
piece_remarks octets (CommentAt p) = []
piece_remarks octets (EndAt p) = beginning_remarks octets p.at

-- the findings of parentheses in the octets before a piece, and then those of the piece
abbrev pub next_remarks : List ℕ → LintState → Piece → List Remark
next_remarks octets old p = nested_remarks old.depth old.at (between octets old.at (piece_start p)) ++ (adjacent_remarks old p ++ piece_remarks octets p)

-- the state after a piece
abbrev pub reached_after : List ℕ → LintState → Piece → LintState
reached_after octets old p = record { at = piece_end p; depth = open_after old.depth (between octets old.at (piece_start p)); is_after_token = is_token_piece p }

abbrev pub entry_remarks : List ℕ → LintState → List (Result Piece Fault) → List Remark
entry_remarks octets old [] = []
entry_remarks octets old (Ok p ∷ given) = next_remarks octets old p ++ entry_remarks octets (reached_after octets old p) given
entry_remarks octets old (Err f ∷ given) = []

-- the state at the start of octets
abbrev pub first_reached : LintState
first_reached = record { at = 0; depth = 0; is_after_token = false }

-- a piece and the octets before it were checked
pub record Shows (octets : List ℕ) (old : LintState) (p : Piece) (before after : List Remark) (new : LintState) : Type 0 where
  pub reached : new ≡ reached_after octets old p
  pub deep : new.depth ≤ new.at
  pub remarks : after ≡ before ++ next_remarks octets old p

-- all pieces of the octets were checked
abbrev pub ShowsPieces : List ℕ → (before after : List Remark) → Type 0
ShowsPieces octets before after = (given : List (Result Piece Fault)) × AreItemsOf octets given × (after ≡ before ++ entry_remarks octets first_reached given)

-- the last octet is not a line feed
abbrev pub unended : List ℕ → List Remark
unended octets = if length octets == 0 || slice_index octets (length octets - 1) == line_feed then [] else remark (length octets) NoFinalNewline ∷ []

abbrev pub crlf_remarks : Block → List ℕ → List Remark
crlf_remarks block octets = if block.reports_crlf then first_passing is_return 0 octets Crlf else []

abbrev pub end_remarks : Block → List ℕ → List Remark
end_remarks block octets = if block.is_last then unended octets else []

-- the findings of octets of whole entries
abbrev pub ShowsBlock : List ℕ → Block → (before after : List Remark) → Type 0
ShowsBlock octets block before after = (given : List (Result Piece Fault)) × AreItemsOf octets given
    × (after ≡ before ++ (beginning_remarks octets 0 ++ entry_remarks octets first_reached given ++ crlf_remarks block octets ++ end_remarks block octets))
