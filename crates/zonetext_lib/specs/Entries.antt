-- The entries of a zone file, one after another.
use Rattle.std.specs.Prelude.{◌≡◌, ℕ, ◌==◌, Bool, true, false, List, [], ◌∷◌, Option, Some, None}
use Rattle.dns_lexer.specs.Pieces.{IsOctetPieces, between}
use Rattle.dns_lexer.specs.declared.pieces.Piece.{Piece}
use Rattle.dns_lexer.specs.declared.pieces.Piece.TheVariants.{Word as WordAt, Quote as QuoteAt, Comment as CommentAt, End as EndAt}

-- a token of an entry, and whether it is adjacent to the one before; or the entry's end, and whether it began with a blank
pub data ComparedPart : Type 0 where
  Token : (is_adjacent : Bool) → List ℕ → ComparedPart
  Ends : (begins_blank : Bool) → ComparedPart

-- a token is adjacent if it begins where the one before it in its entry, if there is one, ended
abbrev pub begins_glued : Option ℕ → ℕ → Bool
begins_glued None start = false
begins_glued (Some end) start = end == start

-- the parts that pieces of octets are, if the entry's last token before, if any, ended here; comments are none
abbrev pub parts_after : List ℕ → Option ℕ → List Piece → List ComparedPart
parts_after octets ended [] = []
parts_after octets ended (WordAt p ∷ ps) = Token (begins_glued ended p.start) (between octets p.start p.end) ∷ parts_after octets (Some p.end) ps
parts_after octets ended (QuoteAt p ∷ ps) = Token (begins_glued ended p.start) (between octets p.start p.end) ∷ parts_after octets (Some p.end) ps
parts_after octets ended (CommentAt p ∷ ps) = parts_after octets ended ps
parts_after octets ended (EndAt p ∷ ps) = Ends p.begins_blank ∷ parts_after octets None ps

abbrev pub parts : List ℕ → List Piece → List ComparedPart
parts octets ps = parts_after octets None ps

-- octets are of the grammar, and their entries have these parts
abbrev pub HasEntries : List ℕ → List ComparedPart → Type 0
HasEntries octets es = (found : List Piece) × IsOctetPieces octets found × (parts octets found ≡ es)

-- the end of the last token of the entry that is open after a piece, and after pieces
abbrev pub ended_by : Option ℕ → Piece → Option ℕ
ended_by ended (WordAt p) = Some p.end
ended_by ended (QuoteAt p) = Some p.end
ended_by ended (CommentAt p) = ended
ended_by ended (EndAt p) = None

abbrev pub ended_after_pieces : Option ℕ → List Piece → Option ℕ
ended_after_pieces ended [] = ended
ended_after_pieces ended (p ∷ ps) = ended_after_pieces (ended_by ended p) ps

-- the parts of those entries that have tokens: the first entry has some already, or not
abbrev pub with_tokens : Bool → List ComparedPart → List ComparedPart
with_tokens some [] = []
with_tokens some (Token g t ∷ es) = Token g t ∷ with_tokens true es
with_tokens true (Ends b ∷ es) = Ends b ∷ with_tokens false es
with_tokens false (Ends b ∷ es) = with_tokens false es

-- octets are of the grammar, and these are the parts of those entries that have tokens
abbrev pub HasTokenEntries : List ℕ → List ComparedPart → Type 0
HasTokenEntries octets es = (all : List ComparedPart) × HasEntries octets all × (with_tokens false all ≡ es)
