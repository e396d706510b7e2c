-- The pieces of octets that remain at a position, with no piece open.
use Rattle.std.specs.Prelude.{◌≡◌, ℕ, Bool, true, false, if◌then◌else◌, List, [], ◌∷◌, ◌++◌, length, drop, replicate, Option, Some, None, Result, Ok}
use Rattle.dns_symbol.specs.Characters.{space, open_parenthesis, close_parenthesis}
use Rattle.dns_lexer.specs.Pieces.{AreItemsOf, later}
use Rattle.dns_lexer.specs.declared.reader.Mode.TheVariants.{Outside}
use Rattle.dns_lexer.specs.Run.{first_blank, run}
use Rattle.dns_lexer.specs.declared.pieces.Fault.{Fault}
use Rattle.dns_lexer.specs.declared.pieces.Piece.{Piece}
use Rattle.dns_lexer.specs.declared.pieces.Piece.TheVariants.{End as EndAt}
use Rattle.dns_lexer.specs.declared.cursor_state.CursorState.{CursorState}

-- the octets from an offset on begin with a blank
abbrev pub blank_at : List ℕ → ℕ → Bool
blank_at octets at = first_blank (drop at octets)

-- an entry that begins with a blank or doesn't, up to a depth of open parentheses, with no piece begun
abbrev pub entered : Bool → ℕ → List ℕ
entered blank depth = (if blank then space ∷ [] else open_parenthesis ∷ close_parenthesis ∷ []) ++ replicate depth open_parenthesis

-- the pieces that the machine yields from its position
abbrev pub ahead : List ℕ → CursorState → List (Result Piece Fault)
ahead octets s = if s.is_done then [] else run Outside s.depth s.at s.at (blank_at octets s.began) (drop s.at octets)

-- the items of octets after others that yield none, with their offsets moved
abbrev pub ItemsAfter : List ℕ → List ℕ → ℕ → List (Result Piece Fault) → Type 0
ItemsAfter front octets at given = (alone : List (Result Piece Fault)) × AreItemsOf (front ++ octets) (later (length front) alone) × (given ≡ later at alone)

-- nothing once the machine is done; else the pieces of the octets from there on, in an entry that began as this one, at its depth
abbrev pub RemainUnless : Bool → List ℕ → CursorState → List (Result Piece Fault) → Type 0
RemainUnless true octets s given = given ≡ []
RemainUnless false octets s given = ItemsAfter (entered (blank_at octets s.began) s.depth) (drop s.at octets) s.at given

abbrev pub RemainAt : List ℕ → CursorState → List (Result Piece Fault) → Type 0
RemainAt octets s given = RemainUnless s.is_done octets s given

-- at the beginning of an entry
abbrev pub at_entry : ℕ → CursorState
at_entry at = record { at = at; depth = 0; began = at; is_done = false }

-- the items of the octets from an offset on alone, with the offsets among all
abbrev pub AreItemsFrom : List ℕ → ℕ → List (Result Piece Fault) → Type 0
AreItemsFrom octets at given = (alone : List (Result Piece Fault)) × AreItemsOf (drop at octets) alone × (given ≡ later at alone)

-- a result, if there is one, before what remains after it
abbrev pub with_answer : Option (Result Piece Fault) → List (Result Piece Fault) → List (Result Piece Fault)
with_answer None left = left
with_answer (Some x) left = x ∷ left

-- the first of the remaining pieces is returned, and the others remain; or nothing remains
pub record YieldsNextPiece (octets : List ℕ) (old : CursorState) (answer : Option (Result Piece Fault)) (new : CursorState) : Type 0 where
  pub left : List (Result Piece Fault)
  pub before : RemainAt octets old (with_answer answer left)
  pub after : RemainAt octets new left
  pub none : answer ≡ None → left ≡ []

-- successive results, each from the position after the one before, until there is none
abbrev pub YieldsAllPieces : List ℕ → CursorState → List (Result Piece Fault) → CursorState → Type 0
YieldsAllPieces octets first [] last = YieldsNextPiece octets first None last
YieldsAllPieces octets first (x ∷ more) last = (next : CursorState) × YieldsNextPiece octets first (Some x) next × YieldsAllPieces octets next more last

-- the beginning of the entry that is open after a piece
abbrev pub began_after : Result Piece Fault → ℕ → ℕ
began_after (Ok (EndAt e)) began = e.at
began_after _ began = began
