-- The output for octets that arrive in chunks.
use Rattle.std.specs.declared.alloc.AllocError.{AllocError}
use Rattle.std.specs.Prelude.{⊤, ◌≡◌, ℕ, ◌⊎◌, Bool, true, false, List, [], ◌∷◌, ◌++◌, length, take, map, Option, Some, None, Result, Ok, Err}
use Rattle.dns_lexer.specs.Pieces.{AreOctets, AreItemsOf, end_at}
use Rattle.dns_lexer.specs.declared.pieces.Piece.{Piece}
use Rattle.dns_lexer.specs.declared.pieces.Piece.TheVariants.{Word as WordAt, Quote as QuoteAt, Comment as CommentAt, End as EndAt}
use Rattle.dns_lexer.specs.declared.pieces.Fault.{Fault}
use Rattle.zonetext_lib.specs.declared.blocks.ChunkError.{ChunkError}
use Rattle.zonetext_lib.specs.declared.blocks.ChunkError.TheVariants.{Wrong, OutOfMemory, TooLong}
use Rattle.zonetext_lib.specs.declared.layout.Gap.{Gap}
use Rattle.zonetext_lib.specs.declared.writer.Output.{Output}
use Rattle.zonetext_lib.specs.declared.writer.Output.TheVariants.{Rows, Lines}
use Rattle.zonetext_lib.specs.Blocks.{Holds, Settled}
use Rattle.zonetext_lib.specs.Entries.{ComparedPart, Ends, HasEntries, parts}
use Rattle.zonetext_lib.specs.Found.{IsFound}
use Rattle.zonetext_lib.specs.Held.{Writing}
use Rattle.zonetext_lib.specs.Layout.{laid_out}
use Rattle.zonetext_lib.specs.Tokens.{Appended}

-- some piece is an entry's end
abbrev pub has_end : List Piece → Bool
has_end [] = false
has_end (EndAt p ∷ ps) = true
has_end (WordAt p ∷ ps) = has_end ps
has_end (QuoteAt p ∷ ps) = has_end ps
has_end (CommentAt p ∷ ps) = has_end ps

-- no pieces, or the last is the end of an entry, here
abbrev pub EndsAt : List Piece → ℕ → Type 0
EndsAt ended at = ((ended ≡ []) × (at ≡ 0)) ⊎ ((first : List Piece) × (blank : Bool) × (ended ≡ first ++ end_at at blank ∷ []))

-- octets with an error, before which the last entry ends here
pub record FaultAfter (octets : List ℕ) (at : ℕ) : Type 0 where
  pub ended : List Piece
  pub last : List Piece
  pub fault : Fault
  pub given : AreItemsOf octets (map Ok ended ++ (map Ok last ++ Err fault ∷ []))
  pub ends : EndsAt ended at
  pub none : has_end last ≡ false

-- before an error those entries are laid out that ended, each with its line's end
abbrev pub LinesBefore : List ℕ → Gap → List ℕ → Type 0
LinesBefore octets gap out = (at : ℕ) × (f : FaultAfter octets at) × (out ≡ laid_out gap false (parts octets f.ended ++ Ends false ∷ []))

-- all entries are laid out, or those before an error
abbrev pub HasLines : List ℕ → Gap → List ℕ → Type 0
HasLines octets gap out = ((es : List ComparedPart) × HasEntries octets es × (out ≡ laid_out gap false es)) ⊎ LinesBefore octets gap out

-- the entries up to a cut were laid out, or nothing was
abbrev pub LaysSettled : {E : Type 0} → List ℕ → Gap → List ℕ → List ℕ → Result (Option ℕ) E → Type 0
LaysSettled octets gap old new (Ok (Some at)) = Settled octets (Ok at) × ((more : List ℕ) × (new ≡ old ++ more) × HasLines (take at octets) gap more)
LaysSettled octets gap old new (Ok None) = new ≡ old
LaysSettled octets gap old new (Err e) = ⊤

-- a row for each token, or a line for each entry
abbrev pub WritesOutput : Output → List ℕ → ℕ → List ℕ → Type 0
WritesOutput (Rows form) octets lines out = Appended octets lines form [] out
WritesOutput (Lines gap) octets lines out = HasLines octets gap out

-- it was appended
abbrev pub MadeAfter : Output → List ℕ → ℕ → List ℕ → List ℕ → Type 0
MadeAfter output octets lines old new = (more : List ℕ) × (new ≡ old ++ more) × WritesOutput output octets lines more

-- the output up to a cut, or nothing
abbrev pub WritesSettled : Output → List ℕ → ℕ → List ℕ → List ℕ → Result (Option ℕ) AllocError → Type 0
WritesSettled output octets lines old new (Ok (Some at)) = Settled octets (Ok at) × MadeAfter output (take at octets) lines old new
WritesSettled output octets lines old new (Ok None) = new ≡ old
WritesSettled output octets lines old new (Err e) = ⊤

-- the offset up to which to lay out: the whole file, or the entries before an error
abbrev pub Until : List ℕ → ℕ → Type 0
Until octets at = ((found : List Piece) × AreItemsOf octets (map Ok found) × (at ≡ length octets)) ⊎ FaultAfter octets at

-- the output for all octets that were added: that for those that aren't stored
pub record Wrote (all written : List ℕ) (w : Writing) : Type 0 where
  pub held : Holds all w.held
  pub made : WritesOutput w.output held.before 0 written

-- the output that a block adds; before an error it is the whole output, whatever follows
abbrev pub Writes : {U : Type 0} → Writing → Writing → List ℕ → List ℕ → List ℕ → Result U ChunkError → Type 0
Writes old new block from to (Ok u) = (all written : List ℕ) → Wrote all written old → (more : List ℕ) × (to ≡ from ++ more) × Wrote (all ++ block) (written ++ more) new
Writes old new block from to (Err (Wrong f)) = (all written : List ℕ) → Wrote all written old
    → (more : List ℕ) × (to ≡ from ++ more) × ((rest : List ℕ) → AreOctets rest → WritesOutput old.output ((all ++ block) ++ rest) 0 (written ++ more))
Writes old new block from to (Err OutOfMemory) = ⊤
Writes old new block from to (Err TooLong) = to ≡ from

-- with this the output is that for all octets that were added
abbrev pub WritesAll : Writing → List ℕ → List ℕ → Type 0
WritesAll w from to = (all written : List ℕ) → Wrote all written w → (more : List ℕ) × (to ≡ from ++ more) × WritesOutput w.output all 0 (written ++ more)

-- so at the end, whether they are of the grammar or have an error
abbrev pub WritesRest : {U : Type 0} → Writing → List ℕ → List ℕ → Result U ChunkError → Type 0
WritesRest w from to (Ok u) = WritesAll w from to
WritesRest w from to (Err (Wrong f)) = WritesAll w from to
WritesRest w from to (Err OutOfMemory) = ⊤
WritesRest w from to (Err TooLong) = ⊥

-- why writing ended
abbrev pub IsEnd : {U : Type 0} → List ℕ → Result U ChunkError → Type 0
IsEnd all (Ok u) = ⊤
IsEnd all (Err (Wrong f)) = IsFound all 0 f
IsEnd all (Err OutOfMemory) = ⊤
IsEnd all (Err TooLong) = ⊥
