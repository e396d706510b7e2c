-- The machine over octets, with the pieces that it yields.
use Rattle.std.specs.Prelude.{◌≡◌, ◌<◌, ◌≤◌, drop, length, ℕ, ◌+◌, Bool, true, false, if◌then◌else◌, ◌||◌, ◌==◌, List, [], ◌∷◌, Option, Some, None, option_map, unwrap_or, Result, Ok, Err}
use Rattle.dns_symbol.specs.Characters.{tab, space}
use Rattle.dns_lexer.specs.declared.reader.Mode.{Mode}
use Rattle.dns_lexer.specs.declared.reader.Mode.TheVariants.{Outside, Quoted, Comment, Return}
use Rattle.dns_lexer.specs.declared.reader.Act.{Act}
use Rattle.dns_lexer.specs.declared.reader.Act.TheVariants.{EndToken, EndEntry, Add, BeginToken, FinishToken}
use Rattle.dns_lexer.specs.declared.reader.Move.{Move}
use Rattle.dns_lexer.specs.declared.pieces.Piece.{Piece}
use Rattle.dns_lexer.specs.declared.pieces.Piece.TheVariants.{End as EndAt}
use Rattle.dns_lexer.specs.declared.pieces.Fault.{Fault}
use Rattle.dns_lexer.specs.declared.pieces.Given.{Given}
use Rattle.dns_lexer.specs.declared.pieces.Stepped.{Stepped}
use Rattle.dns_lexer.specs.declared.pieces.Wrong.{Wrong}
use Rattle.dns_lexer.specs.declared.pieces.Wrong.TheVariants.{Closing, OpenParenthesis, OpenQuote, LoneReturn, BadEscape}
use Rattle.dns_lexer.specs.declared.skip.NestedOffset.{NestedOffset}
use Rattle.dns_lexer.specs.declared.reader.Within.{Within}
use Rattle.dns_lexer.specs.Reader.{home, step, may_end}
use Rattle.dns_lexer.specs.Pieces.{word_at, quote_at, comment_at, end_at}

-- the comment, or the word if it has octets, that is open
abbrev pub open_piece : Mode → ℕ → ℕ → Option Piece
open_piece Comment s at = Some (comment_at s at)
open_piece _ s at = if s == at then None else Some (word_at s at)

-- the open piece continues
abbrev pub continues_piece : Mode → Mode → Act → Bool
continues_piece Comment Comment a = true
continues_piece Comment _ a = false
continues_piece _ _ Add = true
continues_piece _ _ FinishToken = true
continues_piece _ _ _ = false

-- the piece that ends before an octet
abbrev pub closed_piece : Mode → Mode → Act → ℕ → ℕ → Option Piece
closed_piece m n a s at = if continues_piece m n a then None else open_piece m s at

-- the piece that ends with an octet, which ends before e
abbrev pub finished : Act → ℕ → ℕ → Bool → Option Piece
finished FinishToken s e b = Some (quote_at s e)
finished EndEntry s e b = Some (end_at e b)
finished _ s e b = None

-- the start of what is open, after an octet at which a token ended or in a comment
abbrev pub opens : Mode → ℕ → ℕ
opens Comment at = at
opens _ at = at + 1

abbrev pub in_comment : Mode → ℕ → ℕ → ℕ
in_comment Comment s at = s
in_comment _ s at = at + 1

abbrev pub next_open : Mode → Mode → ℕ → ℕ → ℕ
next_open Comment n s at = in_comment n s at
next_open _ n s at = opens n at

-- the start of what is open after the octet at
abbrev pub start_after : Mode → Mode → Act → ℕ → ℕ → ℕ
start_after m n Add s at = s
start_after m n BeginToken s at = at
start_after m n EndToken s at = next_open m n s at
start_after m n EndEntry s at = at + 1
start_after m n FinishToken s at = at + 1

-- an octet is a blank, and the first one is
abbrev pub is_blank : ℕ → Bool
is_blank c = c == space || c == tab

abbrev pub first_blank : List ℕ → Bool
first_blank [] = false
first_blank (c ∷ bs) = is_blank c

-- the entry that follows begins with a blank
abbrev pub blank_after : Act → Bool → List ℕ → Bool
blank_after EndEntry b bs = first_blank bs
blank_after _ b bs = b

-- the cause of an error before an octet that can't follow, and where the text may not end
abbrev pub wrong_at : Mode → ℕ → Wrong
wrong_at Outside s = Closing
wrong_at Comment s = Closing
wrong_at Quoted s = OpenQuote s
wrong_at Return s = LoneReturn
wrong_at _ s = BadEscape

abbrev pub wrong_at_end : Mode → ℕ → Wrong
wrong_at_end Outside s = OpenParenthesis
wrong_at_end Comment s = OpenParenthesis
wrong_at_end m s = wrong_at m s

-- a line may end
abbrev pub may_end_line : Mode → Bool
may_end_line Outside = true
may_end_line Comment = true
may_end_line Return = true
may_end_line _ = false

-- the error alone
abbrev pub fault : ℕ → Wrong → List (Result Piece Fault)
fault at w = Err (record { at = at; wrong = w }) ∷ []

abbrev pub before : Option Piece → List (Result Piece Fault) → List (Result Piece Fault)
before None k = k
before (Some p) k = Ok p ∷ k

-- the items that the machine yields from here on
abbrev pub run : Mode → ℕ → ℕ → ℕ → Bool → List ℕ → List (Result Piece Fault)
run m d s at b [] = if may_end m d then before (open_piece m s at) (Ok (end_at at b) ∷ []) else fault at (wrong_at_end m s)
run m d s at b (c ∷ bs) = unwrap_or (option_map (λ (v : Move). before (closed_piece m v.mode v.act s at) (before (finished v.act s (at + 1) b)
    (run v.mode v.depth (start_after m v.mode v.act s at) (at + 1) (blank_after v.act b bs) bs))) (step m d c)) (fault at (wrong_at m s))

-- the octet changes nothing but the offset
abbrev pub Still : Mode → ℕ → Type 0
Still m c = (d s at : ℕ) (b : Bool) (bs : List ℕ) → run m d s at b (c ∷ bs) ≡ run m d s (at + 1) b bs

-- the machine yields the same from both offsets
abbrev pub SameRun : Mode → List ℕ → ℕ → ℕ → Type 0
SameRun m text i j = (d s : ℕ) (b : Bool) → run m d s i b (drop i text) ≡ run m d s j b (drop j text)

-- the octets between are an escape, in a word and in a quoted string
pub record Skips (text : List ℕ) (i j : ℕ) : Type 0 where
  pub on : i < j
  pub within : j ≤ length text
  pub word : SameRun Outside text i j
  pub quoted : SameRun Quoted text i j

-- a later offset, from which the machine yields the same in a word, or in a quoted string
pub record ContinuesPiece (q : Within) (text : List ℕ) (i j : ℕ) : Type 0 where
  pub on : i < j
  pub within : j ≤ length text
  pub same : SameRun (home q) text i j

-- a later position in the text, from which the machine yields the same; nothing is open at either
pub record Passes (text : List ℕ) (p q : NestedOffset) : Type 0 where
  pub on : p.at ≤ q.at
  pub within : q.at ≤ length text
  pub deep : q.depth ≤ q.at
  pub same : (b : Bool) → run Outside p.depth p.at p.at b (drop p.at text) ≡ run Outside q.depth q.at q.at b (drop q.at text)

-- before an octet, or the text's end, the machine yields the open word, after which no piece is open
pub record EndsWord (text : List ℕ) (d e at : ℕ) : Type 0 where
  pub on : e ≤ at
  pub within : at ≤ length text
  pub same : (s : ℕ) (b : Bool) → s < e → run Outside d s e b (drop e text) ≡ Ok (word_at s e) ∷ run Outside d at at b (drop at text)

-- and the comment that is open
abbrev pub EndsComment : List ℕ → ℕ → ℕ → Type 0
EndsComment text d e = (s : ℕ) (b : Bool) → run Comment d s e b (drop e text) ≡ Ok (comment_at s e) ∷ run Outside d e e b (drop e text)

-- whether the entry that is open after a piece began with a blank
abbrev pub blank_then : List ℕ → Result Piece Fault → Bool → Bool
blank_then text (Ok (EndAt e)) b = first_blank (drop e.at text)
blank_then text _ b = b

-- the machine yields a piece, after which no piece is open
pub record YieldsPiece (text : List ℕ) (p : NestedOffset) (b : Bool) (g : Given) : Type 0 where
  pub on : p.at ≤ g.at
  pub within : g.at ≤ length text
  pub same : run Outside p.depth p.at p.at b (drop p.at text) ≡ Ok g.piece ∷ run Outside p.depth g.at g.at g.begins_blank (drop g.at text)
  pub blank : g.begins_blank ≡ blank_then text (Ok g.piece) b

-- the machine yields a piece or an error, after which no piece is open or it is done
pub record Steps (text : List ℕ) (p : NestedOffset) (b : Bool) (t : Stepped) : Type 0 where
  pub within : t.place.at ≤ length text
  pub deep : t.place.depth ≤ t.place.at
  pub same : run Outside p.depth p.at p.at b (drop p.at text) ≡ t.given ∷ (if t.is_done then [] else run Outside t.place.depth t.place.at t.place.at t.begins_blank (drop t.place.at text))
  pub blank : t.is_done ≡ false → t.begins_blank ≡ blank_then text t.given b
