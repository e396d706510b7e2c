-- What a formatter keeps of a zone file: all but blanks, and of each token whether it is adjacent.
use Rattle.std.specs.Prelude.{◌≡◌, ℕ, Bool, true, false, if◌then◌else◌, ◌==◌, ◌&&◌, List, [], ◌∷◌, ◌++◌, length, map, Ok}
use Rattle.std.specs.List.{flat_map}
use Rattle.dns_symbol.specs.Characters.{line_feed, open_parenthesis, close_parenthesis}
use Rattle.dns_lexer.specs.Pieces.{EachWithin, IsOctetPieces, between}
use Rattle.dns_lexer.specs.Run.{is_blank}
use Rattle.dns_lexer.specs.declared.pieces.Piece.{Piece}
use Rattle.dns_lexer.specs.declared.pieces.Piece.TheVariants.{Word as WordAt, Quote as QuoteAt, Comment as CommentAt, End as EndAt}
use Rattle.dns_lexer.specs.CursorStates.{blank_at}

-- a token as it is spelled, a comment, a parenthesis, a line end, and a blank that an entry begins with; a token is glued if the one before it ends where it begins
pub data Mark : Type 0 where
  Token : (glued : Bool) → List ℕ → Mark
  Note : List ℕ → Mark
  Open : Mark
  Close : Mark
  Feed : Mark
  Lead : Mark

abbrev pub is_none : List ℕ → Bool
is_none [] = true
is_none (c ∷ cs) = false

-- a comment without the blanks at its end
abbrev pub shortened : List ℕ → List ℕ
shortened [] = []
shortened (c ∷ cs) = if is_blank c && is_none (shortened cs) then [] else c ∷ shortened cs

-- the marks of an octet between two pieces
abbrev pub gap_mark : ℕ → List Mark
gap_mark c = if c == open_parenthesis then Open ∷ [] else if c == close_parenthesis then Close ∷ [] else if c == line_feed then Feed ∷ [] else []

-- and of the octets from an offset to before another
abbrev pub gap_marks : List ℕ → ℕ → ℕ → List Mark
gap_marks octets s e = flat_map gap_mark (between octets s e)

abbrev pub lead : Bool → List Mark
lead true = Lead ∷ []
lead false = []

-- the marks of pieces and of the octets between them, from an offset at which a token ends if `tied`
abbrev pub marks : List ℕ → Bool → ℕ → List Piece → List Mark
marks octets tied from [] = []
marks octets tied from (WordAt p ∷ ps) = gap_marks octets from p.start ++ (Token (tied && (p.start == from)) (between octets p.start p.end) ∷ marks octets true p.end ps)
marks octets tied from (QuoteAt p ∷ ps) = gap_marks octets from p.start ++ (Token (tied && (p.start == from)) (between octets p.start p.end) ∷ marks octets true p.end ps)
marks octets tied from (CommentAt p ∷ ps) = gap_marks octets from p.start ++ (Note (shortened (between octets p.start p.end)) ∷ marks octets false p.end ps)
marks octets tied from (EndAt p ∷ ps) = gap_marks octets from p.at ++ (lead (blank_at octets p.at) ++ marks octets false p.at ps)

-- the marks of the first pieces of octets
abbrev pub all_marks : List ℕ → List Piece → List Mark
all_marks octets found = lead (blank_at octets 0) ++ marks octets false 0 found

-- octets are of the grammar, with these marks
abbrev pub HasMarks : List ℕ → List Mark → Type 0
HasMarks octets ms = (found : List Piece) × IsOctetPieces octets found × EachWithin (length octets) (map Ok found) × (all_marks octets found ≡ ms)
