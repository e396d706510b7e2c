-- The rows of tokens.
use Rattle.std.specs.Prelude.{⊤, ◌≡◌, ℕ, ◌+◌, Bool, true, false, List, [], ◌∷◌, ◌++◌, take, codes, Option, Some, None, Result, Ok, Err}
use Rattle.std.specs.List.{flat_map}
use Rattle.std.specs.Fmt.{decimal}
use Rattle.dns_lexer.specs.Pieces.{AreItemsOf, between}
use Rattle.dns_lexer.specs.declared.pieces.Piece.{Piece}
use Rattle.dns_lexer.specs.declared.pieces.Piece.TheVariants.{Word as WordAt, Quote as QuoteAt, Comment as CommentAt, End as EndAt}
use Rattle.dns_lexer.specs.declared.pieces.Fault.{Fault}
use Rattle.zonetext_lib.specs.declared.tokens.Form.{Form}
use Rattle.zonetext_lib.specs.declared.tokens.Form.TheVariants.{Plain, Json}
use Rattle.zonetext_lib.specs.declared.tokens.CommandError.{CommandError}
use Rattle.zonetext_lib.specs.declared.tokens.CommandError.TheVariants.{Wrong, OutOfMemory}
use Rattle.zonetext_lib.specs.Entries.{begins_glued}
use Rattle.zone_format.specs.Place.{feeds, column_of}
use Rattle.finding_formats.specs.Octets.{json_octet}

-- whether a token is adjacent: before its kind, and as a member
abbrev pub plain_kind : Bool → List ℕ → List ℕ
plain_kind true kind = codes "\tglued-" ++ kind
plain_kind false kind = codes "\t" ++ kind

abbrev pub glued_member : Bool → List ℕ
glued_member true = codes "\",\"glued\":true,\"token\":\""
glued_member false = codes "\",\"glued\":false,\"token\":\""

-- the part of a row before the token
abbrev pub form_head : Form → ℕ → ℕ → List ℕ → Bool → List ℕ
form_head Plain line column kind glued = decimal line ++ (codes ":" ++ (decimal column ++ (plain_kind glued kind ++ codes "\t")))
form_head Json line column kind glued = codes "{\"line\":" ++ (decimal line ++ (codes ",\"column\":" ++ (decimal column ++ (codes ",\"kind\":\"" ++ (kind ++ glued_member glued)))))

-- a token's row
abbrev pub token_row : Form → ℕ → ℕ → List ℕ → Bool → List ℕ → List ℕ
token_row Plain line column kind glued token = form_head Plain line column kind glued ++ token ++ codes "\n"
token_row Json line column kind glued token = form_head Json line column kind glued ++ flat_map json_octet token ++ codes "\"}\n"

-- the row of a token of octets that follow `lines` lines
abbrev pub row_at : List ℕ → ℕ → Form → List ℕ → Bool → ℕ → ℕ → List ℕ
row_at octets lines form kind glued s e = token_row form (lines + feeds (take s octets) + 1) (column_of (take s octets)) kind glued (between octets s e)

-- words and quoted strings have rows, if the entry's last token before, if it has one, ended here
abbrev pub rows_after : List ℕ → ℕ → Form → Option ℕ → List (Result Piece Fault) → List ℕ
rows_after octets lines form ended [] = []
rows_after octets lines form ended (Ok (WordAt p) ∷ given) = row_at octets lines form (codes "word") (begins_glued ended p.start) p.start p.end ++ rows_after octets lines form (Some p.end) given
rows_after octets lines form ended (Ok (QuoteAt p) ∷ given) = row_at octets lines form (codes "quoted") (begins_glued ended p.start) p.start p.end ++ rows_after octets lines form (Some p.end) given
rows_after octets lines form ended (Ok (CommentAt p) ∷ given) = rows_after octets lines form ended given
rows_after octets lines form ended (Ok (EndAt p) ∷ given) = rows_after octets lines form None given
rows_after octets lines form ended (Err f ∷ given) = rows_after octets lines form ended given

-- unless an allocation failed, the rows of the pieces were appended
abbrev pub Appended : List ℕ → ℕ → Form → List ℕ → List ℕ → Type 0
Appended octets lines form old new = (given : List (Result Piece Fault)) × AreItemsOf octets given × (new ≡ old ++ rows_after octets lines form None given)

abbrev pub HasRows : {U : Type 0} → List ℕ → ℕ → Form → List ℕ → List ℕ → Result U CommandError → Type 0
HasRows octets lines form old new (Ok u) = Appended octets lines form old new
HasRows octets lines form old new (Err (Wrong f)) = Appended octets lines form old new
HasRows octets lines form old new (Err OutOfMemory) = ⊤
