-- Octets begin with one entry only: the same pieces, and the same stop.
use Rattle.std.proofs.Common.{◌≡◌, ℕ, List, [], ◌∷◌, ◌++◌, refl, sym, ap, ◌∙◌}
use Rattle.std.specs.Prelude.{map, None, Result, Ok, Err}
use Rattle.dns_lexer.specs.PassedLine.{HasNoEnd}
use Rattle.dns_lexer.specs.declared.pieces.EndOfEntry.{EndOfEntry}
use Rattle.dns_lexer.specs.declared.pieces.Fault.{Fault}
use Rattle.dns_lexer.specs.declared.pieces.Piece.{Piece}
use Rattle.dns_lexer.specs.declared.pieces.Piece.TheVariants.{Word as WordAt, Quote as QuoteAt, Comment as CommentAt, End as EndAt}
use Rattle.dns_lexer.proofs.OctetsOnce.{given_once}
use Rattle.zone_reader.specs.FirstEntry.{StopsFirst, piece_of_stop, piece_tokens, stop_offset}
use Rattle.zone_reader.specs.Tape.{FilledOnce}

-- the pieces before the first stop are one list
stop_is : (s t : Result EndOfEntry Fault) (l m : List (Result Piece Fault)) → piece_of_stop s ∷ l ≡ piece_of_stop t ∷ m → s ≡ t
stop_is (Ok d) (Ok e) l m eq = let same : d ≡ e = cc in ap Ok same
stop_is (Err f) (Err g) l m eq = let same : f ≡ g = cc in ap Err same
stop_is (Ok d) (Err g) l m eq = cc
stop_is (Err f) (Ok e) l m eq = cc

no_end_first : (p : Piece) (g : List Piece) (e : EndOfEntry) (l m : List (Result Piece Fault)) → HasNoEnd (p ∷ g) → Ok (EndAt e) ∷ l ≡ Ok p ∷ m → ⊥
no_end_first (WordAt x) g e l m h eq = cc
no_end_first (QuoteAt x) g e l m h eq = cc
no_end_first (CommentAt x) g e l m h eq = cc
no_end_first (EndAt x) g e l m h eq = elim h [ ]

pub no_stop_first : (stop : Result EndOfEntry Fault) (p : Piece) (g : List Piece) (l m : List (Result Piece Fault)) → HasNoEnd (p ∷ g) → Ok p ∷ l ≡ piece_of_stop stop ∷ m → ⊥
no_stop_first (Ok end) p g l m h eq = no_end_first p g end m l h (sym eq)
no_stop_first (Err f) p g l m h eq = cc

pub tail_open : (p : Piece) (g : List Piece) → HasNoEnd (p ∷ g) → HasNoEnd g
tail_open (WordAt x) g h = h
tail_open (QuoteAt x) g h = h
tail_open (CommentAt x) g h = h
tail_open (EndAt x) g h = elim h [ ]

pub alike : (f g : List Piece) (s t : Result EndOfEntry Fault) (l m : List (Result Piece Fault)) → HasNoEnd f → HasNoEnd g → map Ok f ++ piece_of_stop s ∷ l ≡ map Ok g ++ piece_of_stop t ∷ m → (f ≡ g) × (s ≡ t)
alike [] [] s t l m h k eq = (refl, stop_is s t l m eq)
alike [] (p ∷ g) s t l m h k eq = absurd (no_stop_first s p g (map Ok g ++ piece_of_stop t ∷ m) l k (sym eq))
alike (p ∷ f) [] s t l m h k eq = absurd (no_stop_first t p f (map Ok f ++ piece_of_stop s ∷ l) m h eq)
alike (p ∷ f) (q ∷ g) s t l m h k eq =
    let same : p ≡ q = cc in
    let rest : map Ok f ++ piece_of_stop s ∷ l ≡ map Ok g ++ piece_of_stop t ∷ m = cc in
    let a = alike f g s t l m (tail_open p f h) (tail_open q g k) rest in
    (ap (λ x. x ∷ f) same ∙ ap (λ l. q ∷ l) a.0, a.1)

pub first_once : (octets : List ℕ) (s t : Result EndOfEntry Fault) (l m : List (Result Piece Fault)) (x : StopsFirst octets s l) (y : StopsFirst octets t m) → (x.found ≡ y.found) × (s ≡ t)
first_once octets s t l m x y = alike x.found y.found s t l m x.is_open y.is_open (given_once octets _ _ x.given y.given)

pub filled_once : FilledOnce
filled_once octets spans end f stop left first =
    let both = first_once octets stop (Ok f.stop) left f.left first f.first in
    (f.tokens ∙ ap (piece_tokens octets None) (sym both.0), both.1, ap stop_offset both.1 ∙ f.ends)
