-- The cases in which a tape can't be filled: a syntax error comes first, nothing is left, or a token is one too many.
use Rattle.std.proofs.Common.{◌≡◌, ℕ, ◌≤◌, ◌<◌, List, [], ◌∷◌, ◌++◌, length, sym, ap, ◌∙◌, subst, arith}
use Rattle.std.specs.Prelude.{⊤, map, Option, Some, None, Result, Ok, Err}
use Rattle.std.proofs.lemmas.List.{length-map}
use Rattle.dns_lexer.specs.PassedLine.{HasNoEnd}
use Rattle.dns_lexer.specs.Pieces.{AreItemsOf}
use Rattle.dns_lexer.specs.declared.pieces.EndOfEntry.{EndOfEntry}
use Rattle.dns_lexer.specs.declared.pieces.Fault.{Fault}
use Rattle.dns_lexer.specs.declared.pieces.Piece.{Piece}
use Rattle.dns_lexer.specs.declared.pieces.Piece.TheVariants.{Word as WordAt, Quote as QuoteAt, Comment as CommentAt, End as EndAt}
use Rattle.dns_lexer.proofs.OctetsOnce.{given_once}
use Rattle.zone_reader.specs.FirstEntry.{StopsFirst, piece_tokens}
use Rattle.zone_reader.specs.Tape.{FitsNoTape, span_token}
use Rattle.zone_reader.specs.declared.tape.TokenSpan.{TokenSpan}
use Rattle.zone_reader.proofs.Filling.{Filling}
use Rattle.zone_reader.proofs.TapeOnce.{alike, no_stop_first, tail_open}

-- no end is among the pieces of one entry
none_left : (f g : List Piece) (e : EndOfEntry) (l : List (Result Piece Fault)) → HasNoEnd f → map Ok f ++ [] ≡ map Ok g ++ Ok (EndAt e) ∷ l → ⊥
none_left [] [] e l h eq = cc
none_left [] (q ∷ g) e l h eq = cc
none_left (p ∷ f) [] e l h eq = no_stop_first (Ok e) p f (map Ok f ++ []) l h eq
none_left (p ∷ f) (q ∷ g) e l h eq =
    let rest : map Ok f ++ [] ≡ map Ok g ++ Ok (EndAt e) ∷ l = cc in
    none_left f g e l (tail_open p f h) rest

-- a word or a quoted string
abbrev pub IsTokenPiece : Piece → Type 0
IsTokenPiece (WordAt x) = ⊤
IsTokenPiece (QuoteAt x) = ⊤
IsTokenPiece (CommentAt x) = ⊥
IsTokenPiece (EndAt e) = ⊥

token_counts : (octets : List ℕ) (ended : Option ℕ) (p : Piece) (g : List Piece) → IsTokenPiece p → 0 < length (piece_tokens octets ended (p ∷ g))
token_counts octets ended (WordAt x) g t = omega arith
token_counts octets ended (QuoteAt x) g t = omega arith
token_counts octets ended (CommentAt x) g t = elim t [ ]
token_counts octets ended (EndAt e) g t = elim t [ ]

no_token_last : (p : Piece) (e : EndOfEntry) (l m : List (Result Piece Fault)) → IsTokenPiece p → Ok p ∷ l ≡ Ok (EndAt e) ∷ m → ⊥
no_token_last (WordAt x) e l m t eq = cc
no_token_last (QuoteAt x) e l m t eq = cc
no_token_last (CommentAt x) e l m t eq = elim t [ ]
no_token_last (EndAt x) e l m t eq = elim t [ ]

-- a token that comes next is one more
module _ (octets : List ℕ) (p : Piece) (token : IsTokenPiece p) (e : EndOfEntry) (l m : List (Result Piece Fault)) where
  one_longer : (ended : Option ℕ) (f g : List Piece) → HasNoEnd f → map Ok f ++ Ok p ∷ l ≡ map Ok g ++ Ok (EndAt e) ∷ m → length (piece_tokens octets ended f) < length (piece_tokens octets ended g)
  one_longer ended [] [] h eq = absurd (no_token_last p e l m token eq)
  one_longer ended [] (q ∷ g) h eq = let same : p ≡ q = cc in subst (λ r. 0 < length (piece_tokens octets ended (r ∷ g))) same (token_counts octets ended p g token)
  one_longer ended (x ∷ f) [] h eq = absurd (no_stop_first (Ok e) x f (map Ok f ++ Ok p ∷ l) m h eq)
  one_longer ended (WordAt y ∷ f) (q ∷ g) h eq =
      let same : WordAt y ≡ q = cc in
      let rest : map Ok f ++ Ok p ∷ l ≡ map Ok g ++ Ok (EndAt e) ∷ m = cc in
      let less = one_longer (Some y.end) f g h rest in
      subst (λ r. length (piece_tokens octets ended (WordAt y ∷ f)) < length (piece_tokens octets ended (r ∷ g))) same (omega (arith, less))
  one_longer ended (QuoteAt y ∷ f) (q ∷ g) h eq =
      let same : QuoteAt y ≡ q = cc in
      let rest : map Ok f ++ Ok p ∷ l ≡ map Ok g ++ Ok (EndAt e) ∷ m = cc in
      let less = one_longer (Some y.end) f g h rest in
      subst (λ r. length (piece_tokens octets ended (QuoteAt y ∷ f)) < length (piece_tokens octets ended (r ∷ g))) same (omega (arith, less))
  one_longer ended (CommentAt y ∷ f) (q ∷ g) h eq =
      let same : CommentAt y ≡ q = cc in
      let rest : map Ok f ++ Ok p ∷ l ≡ map Ok g ++ Ok (EndAt e) ∷ m = cc in
      subst (λ r. length (piece_tokens octets ended (CommentAt y ∷ f)) < length (piece_tokens octets ended (r ∷ g))) same (one_longer ended f g h rest)
  one_longer ended (EndAt y ∷ f) (q ∷ g) h eq = elim h [ ]

module _ (capacity : ℕ) (octets : List ℕ) (given now : List (Result Piece Fault)) (ended : Option ℕ) (spans : List TokenSpan) (x : Filling octets given now ended spans) (is : AreItemsOf octets given) where
  -- the pieces so far, and the first entry
  both : (stop : EndOfEntry) (left : List (Result Piece Fault)) (first : StopsFirst octets (Ok stop) left) → map Ok x.found ++ now ≡ map Ok first.found ++ Ok (EndAt stop) ∷ left
  both stop left first = sym x.is ∙ given_once octets given _ is first.given

  pub unfilled_end : now ≡ [] → FitsNoTape capacity octets
  unfilled_end e stop left first = absurd (none_left x.found first.found stop left x.is_open (ap (λ l. map Ok x.found ++ l) (sym e) ∙ both stop left first))

  pub unfilled_fault : (f : Fault) (rest : List (Result Piece Fault)) → now ≡ Err f ∷ rest → FitsNoTape capacity octets
  unfilled_fault f rest e stop left first =
      let same = (alike x.found first.found (Err f) (Ok stop) rest left x.is_open first.is_open (ap (λ l. map Ok x.found ++ l) (sym e) ∙ both stop left first)).1 in cc

  pub unfilled_token : (p : Piece) (rest : List (Result Piece Fault)) → now ≡ Ok p ∷ rest → IsTokenPiece p → capacity ≤ length spans → FitsNoTape capacity octets
  unfilled_token p rest e t full stop left first =
      let longer = one_longer octets p t stop rest left None x.found first.found x.is_open (ap (λ l. map Ok x.found ++ l) (sym e) ∙ both stop left first) in
      let count : length spans ≡ length (piece_tokens octets None x.found) = sym (length-map spans (span_token octets)) ∙ ap length x.tokens in
      omega (arith, longer, count, full)
