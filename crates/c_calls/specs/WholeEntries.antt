-- The entries of a text that are whole, whatever follows it.
use Rattle.std.specs.Prelude.{◌≡◌, ◌≢◌, ◌+◌, ◌<◌, ◌≤◌, ℕ, List, [], ◌∷◌, ◌++◌, length, slice_index_or, IfSome, Option, Some, None, Result, Ok, Err}
use Rattle.dns_symbol.specs.Characters.{line_feed}
use Rattle.dns_lexer.specs.Pieces.{ReadsOctetsFrom}
use Rattle.dns_lexer.specs.declared.pieces.Fault.{Fault}
use Rattle.dns_lexer.specs.declared.pieces.Piece.{Piece}
use Rattle.dns_lexer.specs.declared.pieces.Piece.TheVariants.{End as EndAt}

-- the end of the last entry that ends among these pieces, or else the offset before them
abbrev pub end_after : ℕ → List (Result Piece Fault) → ℕ
end_after at [] = at
end_after at (Ok (EndAt e) ∷ given) = end_after e.at given
end_after at (_ ∷ given) = end_after at given

-- the entries from an offset on end before the last piece, which is the end of the text; or before the syntax error
abbrev pub EndsEntries : List ℕ → ℕ → ℕ → Option Fault → Type 0
EndsEntries text at end None = (front : List (Result Piece Fault)) × (last : Piece) × ReadsOctetsFrom text at (front ++ Ok last ∷ []) × (end ≡ end_after at front)
EndsEntries text at end (Some fault) = (front : List (Result Piece Fault)) × (rest : List (Result Piece Fault)) × ReadsOctetsFrom text at (front ++ Err fault ∷ rest) × (end ≡ end_after at front)

-- no line feed is between two offsets
abbrev pub LacksFeed : List ℕ → ℕ → ℕ → Type 0
LacksFeed text from to = (i : ℕ) → from ≤ i → i < to → slice_index_or text i 0 ≢ line_feed

-- the offset after the first line feed from an offset on, if one follows
abbrev pub EndsLine : List ℕ → ℕ → Option ℕ → Type 0
EndsLine text at None = LacksFeed text at (length text)
EndsLine text at (Some next) = (feed : ℕ) × (next ≡ feed + 1) × (at ≤ feed) × (feed < length text) × (slice_index_or text feed 0 ≡ line_feed) × LacksFeed text at feed

-- the offsets from which entries are read: the start, and those after the line of each syntax error
pub data ReadsOnFrom (text : List ℕ) : ℕ → Type 0 where
  text_start : ReadsOnFrom text 0
  after_line : (at end next : ℕ) (fault : Fault) → ReadsOnFrom text at → EndsEntries text at end (Some fault) → EndsLine text fault.at (Some next) → ReadsOnFrom text next

-- the whole entries of a text end here: after them is the text's end, or a syntax error whose line doesn't end
pub record EndsWhole (text : List ℕ) (end : ℕ) : Type 0 where
  pub at : ℕ
  pub fault : Option Fault
  pub reads_on : ReadsOnFrom text at
  pub ends : EndsEntries text at end fault
  pub is_last : IfSome fault (λ f. EndsLine text f.at None)
