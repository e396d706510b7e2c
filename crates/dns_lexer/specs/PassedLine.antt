-- The rest of an entry that is skipped at once.
use Rattle.std.specs.Prelude.{⊤, ◌≡◌, ◌≢◌, ◌<◌, ◌≤◌, ◌⊎◌, ℕ, Bool, List, [], ◌∷◌, ◌++◌, length, drop, map, slice_index, Option, Some, None, Result, Ok}
use Rattle.dns_symbol.specs.Characters.{line_feed}
use Rattle.dns_lexer.specs.declared.pieces.EndOfEntry.{EndOfEntry}
use Rattle.dns_lexer.specs.declared.pieces.Fault.{Fault}
use Rattle.dns_lexer.specs.declared.pieces.Piece.{Piece}
use Rattle.dns_lexer.specs.declared.pieces.Piece.TheVariants.{Word as WordAt, Quote as QuoteAt, Comment as CommentAt, End as EndAt}
use Rattle.dns_lexer.specs.declared.reader.Mode.TheVariants.{Outside}
use Rattle.dns_lexer.specs.declared.runs.OctetClass.TheVariants.{Line}
use Rattle.dns_lexer.specs.Run.{run}
use Rattle.dns_lexer.specs.Skip.{EachIn}

-- pieces of one entry, without its end
abbrev pub HasNoEnd : List Piece → Type 0
HasNoEnd [] = ⊤
HasNoEnd (WordAt p ∷ ps) = HasNoEnd ps
HasNoEnd (QuoteAt p ∷ ps) = HasNoEnd ps
HasNoEnd (CommentAt p ∷ ps) = HasNoEnd ps
HasNoEnd (EndAt e ∷ ps) = ⊥

-- the pieces of one entry and its end are skipped, up to this offset, and something remains
pub record PassesEntry (old : List (Result Piece Fault)) (at : ℕ) (new : List (Result Piece Fault)) : Type 0 where
  pub found : List Piece
  pub is_open : HasNoEnd found
  pub end : EndOfEntry
  pub ends_at : end.at ≡ at
  pub is : old ≡ map Ok found ++ Ok (EndAt end) ∷ new
  pub some : new ≢ []

-- or nothing is skipped
abbrev pub PassesIf : List (Result Piece Fault) → Option ℕ → List (Result Piece Fault) → Type 0
PassesIf old (Some at) new = PassesEntry old at new
PassesIf old None new = new ≡ old

-- from an offset on, no line feed follows only words without escapes and blanks
abbrev pub HasNoLine : List ℕ → ℕ → Type 0
HasNoLine octets at = (feed : ℕ) → at ≤ feed → feed < length octets → EachIn Line octets at feed → slice_index octets feed ≢ line_feed

-- the items of octets from an offset on, at which parentheses are open or no such line begins
pub record ItemsWithoutLine (given : List (Result Piece Fault)) : Type 0 where
  pub octets : List ℕ
  pub depth : ℕ
  pub at : ℕ
  pub began : Bool
  pub is : given ≡ run Outside depth at at began (drop at octets)
  pub none : (0 < depth) ⊎ HasNoLine octets at

-- no line can be skipped: nothing remains, or what remains is such
abbrev pub LacksLine : List (Result Piece Fault) → Type 0
LacksLine given = (given ≡ []) ⊎ ItemsWithoutLine given
