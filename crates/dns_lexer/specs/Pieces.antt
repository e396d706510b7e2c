-- The pieces of a zone file with offsets: words, quoted strings, comments and ends of entries.
use Rattle.std.specs.Prelude.{⊤, ◌≡◌, ◌≤◌, ℕ, zero, suc, ◌+◌, ◌-◌, ◌⊎◌, Bool, true, false, ◌&&◌, ◌==◌, nat_lt, List, [], ◌∷◌, ◌++◌, length, take, drop, map, Option, Some, None, Result, Ok, Err}
use Rattle.std.specs.Prelude.{encode_utf8, encode_utf8_all}
use Rattle.std.specs.List.{flat_map, list_all}
use lib.Utf8.{scalar}
use Rattle.std.specs.Str.{IsCharBoundary}
use Rattle.dns_symbol.specs.Characters.{tab, line_feed, double_quote, close_parenthesis}
use Rattle.dns_lexer.specs.declared.pieces.Piece.{Piece}
use Rattle.dns_lexer.specs.declared.pieces.Piece.TheVariants.{Word as WordAt, Quote as QuoteAt, Comment as CommentAt, End as EndAt}
use Rattle.dns_lexer.specs.declared.pieces.Fault.{Fault}
use Rattle.dns_lexer.specs.declared.pieces.Wrong.{Wrong}
use Rattle.dns_lexer.specs.declared.pieces.Wrong.TheVariants.{Closing, OpenParenthesis, OpenQuote, LoneReturn, BadEscape}
use Rattle.dns_lexer.specs.Unclosed.{LacksClosing}
use Rattle.dns_lexer.specs.Lexeme.{Lexeme, Blank, Line, Open, Close, Note, Word, Quote, lexeme_bytes}
use Rattle.dns_lexer.specs.Splitting.{Entries, Splits, are_lexemes, nests, with_token}
use Rattle.dns_lexer.specs.Token.{IsWord, IsQuote, IsComment}
use Rattle.dns_lexer.specs.Viable.{IsBad, IsViable}

-- a word, a quoted string with its quotes, and a comment with its semicolon, by its start and end
abbrev pub word_at : ℕ → ℕ → Piece
word_at s e = WordAt (record { start = s; end = e })

abbrev pub quote_at : ℕ → ℕ → Piece
quote_at s e = QuoteAt (record { start = s; end = e })

abbrev pub comment_at : ℕ → ℕ → Piece
comment_at s e = CommentAt (record { start = s; end = e })

-- an entry ends, and what follows begins at this octet; the entry began with a blank or didn't
abbrev pub end_at : ℕ → Bool → Piece
end_at e b = EndAt (record { at = e; begins_blank = b })

-- the offset of a piece, and of the entry after an entry's end
abbrev pub piece_start : Piece → ℕ
piece_start (WordAt p) = p.start
piece_start (QuoteAt p) = p.start
piece_start (CommentAt p) = p.start
piece_start (EndAt p) = p.at

-- a blank comes first
abbrev pub begins_blank : List Lexeme → Bool
begins_blank (Blank _ ∷ _) = true
begins_blank _ = false

-- the pieces of lexemes from an offset on, at a depth, in an entry that began with a blank or didn't
abbrev pub pieces : ℕ → ℕ → Bool → List Lexeme → List Piece
pieces at depth b [] = end_at at b ∷ []
pieces at depth b (Open ∷ ls) = pieces (at + length (lexeme_bytes Open)) (suc depth) b ls
pieces at (suc depth) b (Close ∷ ls) = pieces (at + length (lexeme_bytes Close)) depth b ls
pieces at zero b (Line r ∷ ls) = end_at (at + length (lexeme_bytes (Line r))) b ∷ pieces (at + length (lexeme_bytes (Line r))) zero (begins_blank ls) ls
pieces at depth b (Word s ss ∷ ls) = word_at at (at + length (lexeme_bytes (Word s ss))) ∷ pieces (at + length (lexeme_bytes (Word s ss))) depth b ls
pieces at depth b (Quote ss ∷ ls) = quote_at at (at + length (lexeme_bytes (Quote ss))) ∷ pieces (at + length (lexeme_bytes (Quote ss))) depth b ls
pieces at depth b (Note cs ∷ ls) = comment_at at (at + length (lexeme_bytes (Note cs))) ∷ pieces (at + length (lexeme_bytes (Note cs))) depth b ls
pieces at depth b (l ∷ ls) = pieces (at + length (lexeme_bytes l)) depth b ls

-- the text is of the grammar, and these are its pieces
pub record IsPieces (text : List ℕ) (found : List Piece) : Type 0 where
  pub lexemes : List Lexeme
  pub spelled : flat_map lexeme_bytes lexemes ≡ text
  pub valid : are_lexemes lexemes ≡ true
  pub nested : nests 0 lexemes ≡ true
  pub placed : pieces 0 0 (begins_blank lexemes) lexemes ≡ found

-- the first piece of a text of n octets is a word or a quoted string, and is the whole text
abbrev pub spans_all : Option (Result Piece Fault) → ℕ → Bool
spans_all (Some (Ok (WordAt p))) n = p.start == 0 && p.end == n
spans_all (Some (Ok (QuoteAt p))) n = p.start == 0 && p.end == n
spans_all _ n = false

-- places in order, of octets that many
abbrev pub IsWithin : ℕ → Result Piece Fault → Type 0
IsWithin n (Ok (WordAt p)) = (p.start ≤ p.end) × (p.end ≤ n)
IsWithin n (Ok (QuoteAt p)) = (p.start ≤ p.end) × (p.end ≤ n)
IsWithin n (Ok (CommentAt p)) = (p.start ≤ p.end) × (p.end ≤ n)
IsWithin n (Ok (EndAt p)) = p.at ≤ n
IsWithin n (Err f) = f.at ≤ n

abbrev pub EachWithin : ℕ → List (Result Piece Fault) → Type 0
EachWithin n [] = ⊤
EachWithin n (x ∷ xs) = IsWithin n x × EachWithin n xs

-- these pieces come first
abbrev pub Begins : List Piece → List Piece → Type 0
Begins first all = (more : List Piece) × (all ≡ first ++ more)

-- every text of the grammar with this prefix has these pieces first
abbrev pub BeginsPieces : List ℕ → List Piece → Type 0
BeginsPieces front found = (rest : List ℕ) (all : List Piece) → IsPieces (front ++ rest) all → Begins found all

-- with a double quote after it, the quoted string from i on ends
abbrev pub EndsQuote : List ℕ → ℕ → Type 0
EndsQuote front i = (more : List ℕ) (all : List Piece) → IsPieces (front ++ (double_quote ∷ more)) all → (first : List Piece) × (last : List Piece)
    × (all ≡ first ++ quote_at i (length front + 1) ∷ last)

-- why the longest viable prefix can't be followed by the rest of the text
-- a closing parenthesis follows what splits already; an open parenthesis must be closed, and a tab may follow; a double quote may follow, and would end the quoted string from i on;
-- only LF may follow; neither a tab nor LF may
abbrev pub IsWrong : List ℕ → List ℕ → Wrong → Type 0
IsWrong front rest Closing = (more : List ℕ) × (e : Entries) × (rest ≡ close_parenthesis ∷ more) × Splits front e
IsWrong front rest OpenParenthesis = (rest ≡ []) × LacksClosing front × IsViable (front ++ tab ∷ [])
IsWrong front rest (OpenQuote i) = IsViable (front ++ double_quote ∷ []) × EndsQuote front i
IsWrong front rest LoneReturn = (c : ℕ) → scalar c ≡ true → IsViable (front ++ encode_utf8 c) → c ≡ line_feed
IsWrong front rest BadEscape = (¬ IsViable (front ++ tab ∷ [])) × (¬ IsViable (front ++ line_feed ∷ []))

-- every text of the grammar with this prefix has these pieces first, and no more; but if a CR waits for its LF, the end of the entry with it is known
pub record Settles (front : List ℕ) (wrong : Wrong) (found : List Piece) : Type 0 where
  pub first : BeginsPieces front found
  pub ended : EachWithin (length front) (map Ok found)
  pub longest : (other : List Piece) → BeginsPieces front other → Begins other found ⊎ ((wrong ≡ LoneReturn) × (b : Bool) × (other ≡ found ++ end_at (length front + 1) b ∷ []))

-- the text isn't of the grammar: its longest viable prefix, and the cause of the error
pub record IsFault (text : List ℕ) (f : Fault) : Type 0 where
  pub bad : IsBad text f.at
  pub wrong : IsWrong (take f.at text) (drop f.at text) f.wrong
  pub boundary : IsCharBoundary text f.at

-- the pieces of a text; or, if it isn't of the grammar, the pieces that its longest viable prefix settles, and then its error
pub record Faulty (text : List ℕ) (given : List (Result Piece Fault)) : Type 0 where
  pub found : List Piece
  pub fault : Fault
  pub is : given ≡ map Ok found ++ Err fault ∷ []
  pub is_fault : IsFault text fault
  pub settled : Settles (take fault.at text) fault.wrong found

pub record Whole (text : List ℕ) (given : List (Result Piece Fault)) : Type 0 where
  pub found : List Piece
  pub is : given ≡ map Ok found
  pub placed : IsPieces text found

abbrev pub Reads : List ℕ → List (Result Piece Fault) → Type 0
Reads text given = Whole text given ⊎ Faulty text given

-- the same with each offset moved
abbrev pub moved_piece : (ℕ → ℕ) → Piece → Piece
moved_piece f (WordAt p) = word_at (f p.start) (f p.end)
moved_piece f (QuoteAt p) = quote_at (f p.start) (f p.end)
moved_piece f (CommentAt p) = comment_at (f p.start) (f p.end)
moved_piece f (EndAt p) = end_at (f p.at) p.begins_blank

abbrev pub moved_wrong : (ℕ → ℕ) → Wrong → Wrong
moved_wrong f (OpenQuote i) = OpenQuote (f i)
moved_wrong f w = w

abbrev pub moved_fault : (ℕ → ℕ) → Fault → Fault
moved_fault f e = record { at = f e.at; wrong = moved_wrong f e.wrong }

abbrev pub moved : (ℕ → ℕ) → Result Piece Fault → Result Piece Fault
moved f (Ok p) = Ok (moved_piece f p)
moved f (Err e) = Err (moved_fault f e)

-- increased by an offset
abbrev pub later : ℕ → List (Result Piece Fault) → List (Result Piece Fault)
later n given = map (moved (λ i. n + i)) given

-- the items of the text from an octet on alone, with the offsets in the whole text
abbrev pub ReadsFrom : List ℕ → ℕ → List (Result Piece Fault) → Type 0
ReadsFrom text at given = (alone : List (Result Piece Fault)) × Reads (drop at text) alone × (given ≡ later at alone)

-- the offset of a character, where the octets are characters, in their text
abbrev pub place_of : List ℕ → ℕ → ℕ
place_of octets i = length (encode_utf8_all (take i octets))

-- the pieces, or the error, of the text of the characters with these numbers
abbrev pub ReadsOctets : List ℕ → List (Result Piece Fault) → Type 0
ReadsOctets octets given = Reads (encode_utf8_all octets) (map (moved (place_of octets)) given)

-- the items of the octets from an offset on alone, with the offsets among all
abbrev pub ReadsOctetsFrom : List ℕ → ℕ → List (Result Piece Fault) → Type 0
ReadsOctetsFrom octets at given = (alone : List (Result Piece Fault)) × ReadsOctets (drop at octets) alone × (given ≡ later at alone)

-- the items of octets
abbrev pub AreItemsOf : List ℕ → List (Result Piece Fault) → Type 0
AreItemsOf octets given = ReadsOctets octets given × EachWithin (length octets) given

-- numbers below 256
abbrev pub AreOctets : List ℕ → Type 0
AreOctets octets = list_all (λ c. nat_lt c 256) octets ≡ true

-- octets have these pieces
abbrev pub IsOctetPieces : List ℕ → List Piece → Type 0
IsOctetPieces octets found = IsPieces (encode_utf8_all octets) (map (moved_piece (place_of octets)) found)

-- whether the entry that ends next began with a blank
abbrev pub next_blank : List (Result Piece Fault) → Option Bool
next_blank (Ok (EndAt e) ∷ given) = Some e.begins_blank
next_blank (Ok _ ∷ given) = next_blank given
next_blank _ = None

-- the text between two octets
abbrev pub between : List ℕ → ℕ → ℕ → List ℕ
between text s e = take (e - s) (drop s text)

-- the words and quotes of a text, cut at the ends of entries
abbrev pub tokens_by_entry : List ℕ → List Piece → Entries
tokens_by_entry text [] = []
tokens_by_entry text (WordAt p ∷ ps) = with_token (between text p.start p.end) (tokens_by_entry text ps)
tokens_by_entry text (QuoteAt p ∷ ps) = with_token (between text p.start p.end) (tokens_by_entry text ps)
tokens_by_entry text (CommentAt p ∷ ps) = tokens_by_entry text ps
tokens_by_entry text (EndAt p ∷ ps) = [] ∷ tokens_by_entry text ps

-- the octets of a piece's span are what the piece is
abbrev pub IsSpelled : List ℕ → Result Piece Fault → Type 0
IsSpelled text (Ok (WordAt p)) = IsWord (between text p.start p.end)
IsSpelled text (Ok (QuoteAt p)) = IsQuote (between text p.start p.end)
IsSpelled text (Ok (CommentAt p)) = IsComment (between text p.start p.end)
IsSpelled text (Ok (EndAt p)) = ⊤
IsSpelled text (Err f) = ⊤

-- octets of the text that are characters of it
pub record IsPart (text : List ℕ) (s e : ℕ) : Type 0 where
  pub ordered : s ≤ e
  pub starts : IsCharBoundary text s
  pub ends : IsCharBoundary text e

-- a token or a comment is a part of the text
abbrev pub IsPieceOf : List ℕ → Piece → Type 0
IsPieceOf text (WordAt p) = IsPart text p.start p.end
IsPieceOf text (QuoteAt p) = IsPart text p.start p.end
IsPieceOf text (CommentAt p) = IsPart text p.start p.end
IsPieceOf text (EndAt p) = IsCharBoundary text p.at

-- and an error is the text's
abbrev pub IsPieceOrFault : List ℕ → Result Piece Fault → Type 0
IsPieceOrFault text (Ok p) = IsPieceOf text p
IsPieceOrFault text (Err f) = IsFault text f

abbrev pub EachFits : List ℕ → List (Result Piece Fault) → Type 0
EachFits text [] = ⊤
EachFits text (x ∷ xs) = IsPieceOrFault text x × EachFits text xs

-- each item that isn't an error is a part of the text
abbrev pub IsPartOf : List ℕ → Result Piece Fault → Type 0
IsPartOf text (Ok p) = IsPieceOf text p
IsPartOf text (Err f) = ⊤

abbrev pub EachIsPart : List ℕ → List (Result Piece Fault) → Type 0
EachIsPart text [] = ⊤
EachIsPart text (x ∷ xs) = IsPartOf text x × EachIsPart text xs
