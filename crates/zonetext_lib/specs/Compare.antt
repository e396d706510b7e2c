-- How the entries of two zone files compare.
use Rattle.std.specs.Prelude.{⊤, ◌≡◌, ◌<◌, ◌⊎◌, ℕ, Bool, true, false, List, [], ◌∷◌, ◌++◌, length, take, map, Option, Some, None, Result, Ok, Err}
use Rattle.std.specs.Option.{is_some}
use Rattle.dns_lexer.specs.Pieces.{EachWithin, ReadsOctets, between, end_at, piece_start}
use Rattle.dns_lexer.specs.declared.pieces.Piece.{Piece}
use Rattle.dns_lexer.specs.declared.pieces.Piece.TheVariants.{Word as WordAt, Quote as QuoteAt, Comment as CommentAt, End as EndAt}
use Rattle.dns_lexer.specs.declared.pieces.Fault.{Fault}
use Rattle.dns_lexer.specs.declared.position.Position.{Position}
use Rattle.zonetext_lib.specs.declared.diff.Comparison.{Comparison}
use Rattle.zonetext_lib.specs.declared.diff.Comparison.TheVariants.{Same, Differ, FirstWrong, SecondWrong}
use Rattle.zonetext_lib.specs.Entries.{ComparedPart, Token, Ends, HasTokenEntries, begins_glued, ended_after_pieces, parts_after, with_tokens}
use Rattle.zonetext_lib.specs.Found.{IsFound}
use Rattle.zone_format.specs.Place.{IsAt}

-- the parts of those entries with tokens that pieces are, if the entry's last token before, if it has one, ended here
abbrev pub compared_parts : List ℕ → Option ℕ → List Piece → List ComparedPart
compared_parts octets ended ps = with_tokens (is_some ended) (parts_after octets ended ps)

-- the part that a piece is there: its octets, adjacent or not, or an entry's end
abbrev pub part : List ℕ → Option ℕ → Piece → ComparedPart
part octets ended (WordAt p) = Token (begins_glued ended p.start) (between octets p.start p.end)
part octets ended (QuoteAt p) = Token (begins_glued ended p.start) (between octets p.start p.end)
part octets ended (CommentAt p) = Token (begins_glued ended p.start) (between octets p.start p.end)
part octets ended (EndAt p) = Ends p.begins_blank

abbrev pub IsPieceText : List ℕ → Piece → List ℕ → Type 0
IsPieceText octets (WordAt p) t = t ≡ between octets p.start p.end
IsPieceText octets (QuoteAt p) t = t ≡ between octets p.start p.end
IsPieceText octets (CommentAt p) t = t ≡ between octets p.start p.end
IsPieceText octets (EndAt p) t = ⊤

-- what is skipped: a comment, and the end of an entry without tokens
abbrev pub is_passed : Option ℕ → Result Piece Fault → Bool
is_passed ended (Ok (CommentAt p)) = true
is_passed None (Ok (EndAt p)) = true
is_passed ended _ = false

-- what was consumed: pieces that aren't parts, and a piece that is one, or an error, or nothing at the end
abbrev pub ConsumesPart : Option ℕ → Option (Result Piece Fault) → List (Result Piece Fault) → List (Result Piece Fault) → Type 0
ConsumesPart ended None left new = (left ≡ []) × (new ≡ [])
ConsumesPart ended (Some (Ok p)) left new = (left ≡ Ok p ∷ new) × ((octets : List ℕ) → compared_parts octets ended (p ∷ []) ≡ part octets ended p ∷ [])
ConsumesPart ended (Some (Err f)) left new = left ≡ Err f ∷ new

pub record SkipsToPart (ended : Option ℕ) (old : List (Result Piece Fault)) (taken : Option (Result Piece Fault)) (new : List (Result Piece Fault)) : Type 0 where
  pub passed : List Piece
  pub left : List (Result Piece Fault)
  pub is : old ≡ map Ok passed ++ left
  pub no_parts : (octets : List ℕ) → compared_parts octets ended passed ≡ []
  pub stays : ended_after_pieces ended passed ≡ ended
  pub takes : ConsumesPart ended taken left new

-- the entry before ended here; what was skipped up to here, the end of an entry without tokens, isn't a part; something follows
pub record CanCut (ended : Option ℕ) (last : ℕ) (old : List (Result Piece Fault)) (at : ℕ) : Type 0 where
  pub passed : List Piece
  pub left : List (Result Piece Fault)
  pub is : old ≡ map Ok passed ++ left
  pub some : 0 < length left
  pub no_parts : (octets : List ℕ) → compared_parts octets ended passed ≡ []
  pub ends : ((passed ≡ []) × (at ≡ last)) ⊎ ((ended ≡ None) × (first : List Piece) × (blank : Bool) × (passed ≡ first ++ end_at at blank ∷ []))

-- the next part, or nothing, and its offset; a comment isn't a part, nor the end of an entry without tokens
abbrev pub ComesNext : List ℕ → Option ℕ → List (Result Piece Fault) → Option ComparedPart → ℕ → Type 0
ComesNext octets ended [] e at = (e ≡ None) × (at ≡ length octets)
ComesNext octets ended (Ok p ∷ given) e at = (e ≡ Some (part octets ended p)) × (at ≡ piece_start p) × (compared_parts octets ended (p ∷ []) ≡ part octets ended p ∷ [])
ComesNext octets ended (Err f ∷ given) e at = ⊥

-- after the same parts the octets continue with this part at this position
pub record ContinuesWithPart (octets : List ℕ) (common : List ComparedPart) (e : Option ComparedPart) (p : Position) : Type 0 where
  pub before : List Piece
  pub rest : List (Result Piece Fault)
  pub reads : ReadsOctets octets (map Ok before ++ rest)
  pub within : EachWithin (length octets) (map Ok before ++ rest)
  pub is : compared_parts octets None before ≡ common
  pub at : ℕ
  pub next : ComesNext octets (ended_after_pieces None before) rest e at
  pub position : IsAt 0 (take at octets) p

-- the same parts, and then others or none
pub record DifferAt (first second : List ℕ) (p q : Position) : Type 0 where
  pub common : List ComparedPart
  pub one : Option ComparedPart
  pub other : Option ComparedPart
  pub in_first : ContinuesWithPart first common one p
  pub in_second : ContinuesWithPart second common other q
  pub apart : one ≡ other → ⊥

-- no entries with tokens are those of both
abbrev pub NoCommon : List ℕ → List ℕ → Type 0
NoCommon first second = (es : List ComparedPart) → HasTokenEntries first es → HasTokenEntries second es → ⊥

-- the comparison of two texts
abbrev pub Compares : List ℕ → List ℕ → Comparison → Type 0
Compares first second Same = (es : List ComparedPart) × HasTokenEntries first es × HasTokenEntries second es
Compares first second (Differ p q) = DifferAt first second p q × NoCommon first second
Compares first second (FirstWrong f) = IsFound first 0 f
Compares first second (SecondWrong f) = IsFound second 0 f
