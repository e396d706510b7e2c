-- The pieces of a text, and its entries.
use Rattle.std.proofs.Common.{◌≡◌, ℕ, zero, suc, ◌+◌, ◌-◌, Bool, true, false, List, [], ◌∷◌, ◌++◌, length, take, drop, refl, sym, ap, ◌∙◌, subst, arith, append_assoc, append-nil, length-append}
use Rattle.std.proofs.Common.{inl, inr}
use Rattle.std.specs.Prelude.{Option, Some, None, option_map, map, Result, Ok, Err}
use Rattle.std.specs.List.{flat_map}
use Rattle.std.proofs.lemmas.List.{drop_at}
use Rattle.std.proofs.Math.Seq.{take-append_seam}
use Rattle.dns_lexer.specs.declared.pieces.Piece.{Piece}
use Rattle.dns_lexer.specs.declared.pieces.Piece.TheVariants.{Word as WordAt, Quote as QuoteAt, Comment as CommentAt, End as EndAt}
use Rattle.dns_lexer.specs.declared.pieces.Fault.{Fault}
use Rattle.dns_lexer.specs.declared.splitting.Collected.{Collected}
use Rattle.dns_lexer.specs.Lexeme.{Lexeme, Blank, Line, Open, Close, Note, Word, Quote, lexeme_bytes}
use Rattle.dns_lexer.specs.Splitting.{Splits, Entries, nests, with_token, entries}
use Rattle.dns_lexer.specs.Pieces.{begins_blank, pieces, IsPieces, Reads, between, tokens_by_entry}
use Rattle.dns_lexer.specs.Answer.{KeepsPiece, texts, entries_of}
use Rattle.dns_lexer.proofs.Collecting.{front, glue}
use Rattle.dns_lexer.proofs.Complete.{Some_same}
use Rattle.dns_lexer.proofs.PieceWhole.{pieces_run}

pub between_is : (before w rest text : List ℕ) (at : ℕ) → before ++ (w ++ rest) ≡ text → at ≡ length before → between text at (at + length w) ≡ w
between_is before w rest text at e k =
    let n : at + length w - at ≡ length w = omega arith in
    ap (λ l. take (at + length w - at) (drop at l)) (sym e) ∙ ap (take (at + length w - at)) (drop_at before (w ++ rest) at (sym k)) ∙ ap (λ i. take i (w ++ rest)) n ∙ take-append_seam w rest

-- a reading of lexemes and one of their pieces agree
abbrev pub Agrees : {A : Type 0} → (ℕ → Bool → List Lexeme → A) → (List ℕ → List Piece → A) → List Lexeme → Type 0
Agrees of_lexemes of_pieces ls = (text before : List ℕ) (d at : ℕ) (b : Bool) → before ++ flat_map lexeme_bytes ls ≡ text → at ≡ length before → nests d ls ≡ true
    → of_lexemes d b ls ≡ of_pieces text (pieces at d b ls)

-- and so they do past a lexeme
pub past : {A : Type 0} (of_lexemes : ℕ → Bool → List Lexeme → A) (of_pieces : List ℕ → List Piece → A) (l : Lexeme) (ls : List Lexeme) → Agrees of_lexemes of_pieces ls
    → (text before : List ℕ) (d at : ℕ) (b : Bool) → before ++ flat_map lexeme_bytes (l ∷ ls) ≡ text → at ≡ length before → nests d ls ≡ true
    → of_lexemes d b ls ≡ of_pieces text (pieces (at + length (lexeme_bytes l)) d b ls)
past of_lexemes of_pieces l ls agrees text before d at b e k n =
    agrees text (before ++ lexeme_bytes l) d (at + length (lexeme_bytes l)) b (append_assoc before (lexeme_bytes l) (flat_map lexeme_bytes ls) ∙ e) (omega (arith, k, length-append before (lexeme_bytes l))) n

-- the tokens of pieces, cut at the ends of entries, are the entries
abbrev entries_at : ℕ → Bool → List Lexeme → Entries
entries_at d b ls = entries d ls

cuts : (ls : List Lexeme) → Agrees entries_at tokens_by_entry ls
cuts [] text before d at b e k n = refl
cuts (Open ∷ ls) text before d at b e k n = past entries_at tokens_by_entry Open ls (cuts ls) text before (suc d) at b e k n
cuts (Close ∷ ls) text before zero at b e k n = cc
cuts (Close ∷ ls) text before (suc d) at b e k n = past entries_at tokens_by_entry Close ls (cuts ls) text before d at b e k n
cuts (Line r ∷ ls) text before zero at b e k n = ap (λ x. [] ∷ x) (past entries_at tokens_by_entry (Line r) ls (cuts ls) text before zero at (begins_blank ls) e k n)
cuts (Line r ∷ ls) text before (suc d) at b e k n = past entries_at tokens_by_entry (Line r) ls (cuts ls) text before (suc d) at b e k n
cuts (Blank t ∷ ls) text before d at b e k n = past entries_at tokens_by_entry (Blank t) ls (cuts ls) text before d at b e k n
cuts (Note cs ∷ ls) text before d at b e k n = past entries_at tokens_by_entry (Note cs) ls (cuts ls) text before d at b e k n
cuts (Word y ss ∷ ls) text before d at b e k n =
    ap (with_token (lexeme_bytes (Word y ss))) (past entries_at tokens_by_entry (Word y ss) ls (cuts ls) text before d at b e k n)
    ∙ ap (λ t. with_token t (tokens_by_entry text (pieces (at + length (lexeme_bytes (Word y ss))) d b ls))) (sym (between_is before (lexeme_bytes (Word y ss)) (flat_map lexeme_bytes ls) text at e k))
cuts (Quote ss ∷ ls) text before d at b e k n =
    ap (with_token (lexeme_bytes (Quote ss))) (past entries_at tokens_by_entry (Quote ss) ls (cuts ls) text before d at b e k n)
    ∙ ap (λ t. with_token t (tokens_by_entry text (pieces (at + length (lexeme_bytes (Quote ss))) d b ls))) (sym (between_is before (lexeme_bytes (Quote ss)) (flat_map lexeme_bytes ls) text at e k))

pub pieces_split : (text : List ℕ) (found : List Piece) → IsPieces text found → Splits text (tokens_by_entry text found)
pieces_split text found p = record {
  lexemes = p.lexemes;
  spelled = p.spelled;
  valid = p.valid;
  nested = p.nested;
  cut = cuts p.lexemes text [] 0 0 (begins_blank p.lexemes) p.spelled refl p.nested ∙ ap (tokens_by_entry text) p.placed;
}

-- whatever splits has pieces, and these are cut into its entries
pub split_pieces : (text : List ℕ) (e : Entries) → Splits text e → (found : List Piece) × IsPieces text found × (tokens_by_entry text found ≡ e)
split_pieces text e s = (
  pieces 0 0 (begins_blank s.lexemes) s.lexemes,
  record { lexemes = s.lexemes; spelled = s.spelled; valid = s.valid; nested = s.nested; placed = refl },
  sym (cuts s.lexemes text [] 0 0 (begins_blank s.lexemes) s.spelled refl s.nested) ∙ s.cut,
)

abbrev value : Piece → Result Piece Fault → Piece
value p (Ok q) = q
value p (Err f) = p

abbrev first_of : Piece → List (Result Piece Fault) → Piece
first_of p [] = p
first_of p (x ∷ xs) = value p x

abbrev tail_of : List (Result Piece Fault) → List (Result Piece Fault)
tail_of [] = []
tail_of (x ∷ xs) = xs

abbrev pub oks : List Piece → List (Result Piece Fault)
oks ps = map Ok ps

pub same_found : (xs ys : List Piece) → oks xs ≡ oks ys → xs ≡ ys
same_found [] [] e = refl
same_found [] (y ∷ ys) e = cc
same_found (x ∷ xs) [] e = cc
same_found (x ∷ xs) (y ∷ ys) e = ap (λ z. z ∷ xs) (ap (first_of x) e) ∙ ap (λ l. y ∷ l) (same_found xs ys (ap tail_of e))

-- a text has one list of pieces at most
pub pieces_one_way : (text : List ℕ) (xs ys : List Piece) → IsPieces text xs → IsPieces text ys → xs ≡ ys
pieces_one_way text xs ys p q = same_found xs ys (sym (pieces_run text xs p) ∙ pieces_run text ys q)

-- the entries of the items, if there is no error
abbrev pub answer : List ℕ → List (Result Piece Fault) → Option Entries
answer text [] = Some []
answer text (Ok (WordAt p) ∷ k) = option_map (with_token (between text p.start p.end)) (answer text k)
answer text (Ok (QuoteAt p) ∷ k) = option_map (with_token (between text p.start p.end)) (answer text k)
answer text (Ok (CommentAt p) ∷ k) = answer text k
answer text (Ok (EndAt p) ∷ k) = option_map (λ e. [] ∷ e) (answer text k)
answer text (Err f ∷ k) = None

-- the last item is the end of an entry, or an error
abbrev pub closes : Bool → List (Result Piece Fault) → Bool
closes t [] = t
closes t (Ok (WordAt p) ∷ k) = closes false k
closes t (Ok (QuoteAt p) ∷ k) = closes false k
closes t (Ok (CommentAt p) ∷ k) = closes t k
closes t (Ok (EndAt p) ∷ k) = closes true k
closes t (Err f ∷ k) = true

pieces_close : (ls : List Lexeme) (t : Bool) (at d : ℕ) (b : Bool) → closes t (map Ok (pieces at d b ls)) ≡ true
pieces_close [] t at d b = refl
pieces_close (Open ∷ ls) t at d b = pieces_close ls t _ (suc d) b
pieces_close (Close ∷ ls) t at zero b = pieces_close ls t _ zero b
pieces_close (Close ∷ ls) t at (suc d) b = pieces_close ls t _ d b
pieces_close (Line r ∷ ls) t at zero b = pieces_close ls true _ zero _
pieces_close (Line r ∷ ls) t at (suc d) b = pieces_close ls t _ (suc d) b
pieces_close (Blank x ∷ ls) t at d b = pieces_close ls t _ d b
pieces_close (Note cs ∷ ls) t at d b = pieces_close ls t _ d b
pieces_close (Word y ss ∷ ls) t at d b = pieces_close ls false _ d b
pieces_close (Quote ss ∷ ls) t at d b = pieces_close ls false _ d b

bad_close : (found : List Piece) (t : Bool) (f : Fault) → closes t (map Ok found ++ Err f ∷ []) ≡ true
bad_close [] t f = refl
bad_close (WordAt p ∷ k) t f = bad_close k false f
bad_close (QuoteAt p ∷ k) t f = bad_close k false f
bad_close (CommentAt p ∷ k) t f = bad_close k t f
bad_close (EndAt p ∷ k) t f = bad_close k true f

pub given_close : (text : List ℕ) (l : List (Result Piece Fault)) → Reads text l → closes true l ≡ true
given_close text l (inl w) = ap (closes true) (w.is ∙ ap (map Ok) (sym w.placed.placed)) ∙ pieces_close w.placed.lexemes true 0 0 _
given_close text l (inr f) = ap (closes true) f.is ∙ bad_close f.found true _

answer_found : (text : List ℕ) (found : List Piece) → answer text (map Ok found) ≡ Some (tokens_by_entry text found)
answer_found text [] = refl
answer_found text (WordAt p ∷ k) = ap (option_map (with_token (between text p.start p.end))) (answer_found text k)
answer_found text (QuoteAt p ∷ k) = ap (option_map (with_token (between text p.start p.end))) (answer_found text k)
answer_found text (CommentAt p ∷ k) = answer_found text k
answer_found text (EndAt p ∷ k) = ap (option_map (λ e. [] ∷ e)) (answer_found text k)

answer_bad : (text : List ℕ) (found : List Piece) (f : Fault) → answer text (map Ok found ++ Err f ∷ []) ≡ None
answer_bad text [] f = refl
answer_bad text (WordAt p ∷ k) f = ap (option_map (with_token (between text p.start p.end))) (answer_bad text k f)
answer_bad text (QuoteAt p ∷ k) f = ap (option_map (with_token (between text p.start p.end))) (answer_bad text k f)
answer_bad text (CommentAt p ∷ k) f = answer_bad text k f
answer_bad text (EndAt p ∷ k) f = ap (option_map (λ e. [] ∷ e)) (answer_bad text k f)

-- an answer is the entries
pub answered : (text : List ℕ) (l : List (Result Piece Fault)) (e : Entries) → Reads text l → answer text l ≡ Some e → Splits text e
answered text l e (inl w) h = subst (Splits text) (Some_same (sym (answer_found text w.found) ∙ ap (answer text) (sym w.is) ∙ h)) (pieces_split text w.found w.placed)
answered text l e (inr f) h = let no : None ≡ Some e = sym (answer_bad text f.found _) ∙ ap (answer text) (sym f.is) ∙ h in cc

-- one more token, and the end of an entry
front_token : (ts : List (List ℕ)) (t : List ℕ) (e : Entries) → front ts (with_token t e) ≡ front (ts ++ t ∷ []) e
front_token [] t [] = refl
front_token [] t (e ∷ es) = refl
front_token (x ∷ ts) t [] = refl
front_token (x ∷ ts) t (e ∷ es) = ap (λ l. l ∷ es) (sym (append_assoc (x ∷ ts) (t ∷ []) e))

front_nil : (ts : List (List ℕ)) (e : Entries) → front ts ([] ∷ e) ≡ ts ∷ e
front_nil [] e = refl
front_nil (x ∷ ts) e = ap (λ l. l ∷ e) (append-nil (x ∷ ts))

pub token_glue : {A : Type 0} (old new : Collected A) (t : List ℕ) (o : Option Entries) → new.found ≡ old.found → texts new.entry.items ≡ texts old.entry.items ++ t ∷ []
    → glue old (option_map (with_token t) o) ≡ glue new o
token_glue old new t None f h = refl
token_glue old new t (Some e) f h = ap Some (ap (λ l. entries_of old.found.items ++ l) (front_token (texts old.entry.items) t e)
    ∙ ap (λ v. entries_of v.items ++ front (texts old.entry.items ++ t ∷ []) e) (sym f) ∙ ap (λ l. entries_of new.found.items ++ front l e) (sym h))

pub end_glue : {A : Type 0} (old new : Collected A) (o : Option Entries) → entries_of new.found.items ≡ entries_of old.found.items ++ texts old.entry.items ∷ [] → texts new.entry.items ≡ []
    → glue old (option_map (λ e. [] ∷ e) o) ≡ glue new o
end_glue old new None f h = refl
end_glue old new (Some e) f h = ap Some (ap (λ l. entries_of old.found.items ++ l) (front_nil (texts old.entry.items) e)
    ∙ sym (append_assoc (entries_of old.found.items) (texts old.entry.items ∷ []) e) ∙ ap (λ l. l ++ e) (sym f) ∙ ap (λ l. entries_of new.found.items ++ front l e) (sym h))

-- nothing is open
abbrev pub is_none : List (List ℕ) → Bool
is_none [] = true
is_none (t ∷ ts) = false

pub done_glue : {A : Type 0} (c : Collected A) → is_none (texts c.entry.items) ≡ true → glue c (Some []) ≡ Some (entries_of c.found.items)
done_glue c h = go (texts c.entry.items) h
  where
    go : (ts : List (List ℕ)) → is_none ts ≡ true → Some (entries_of c.found.items ++ front ts []) ≡ Some (entries_of c.found.items)
    go [] k = ap Some (append-nil _)
    go (t ∷ ts) k = cc

pub none_more : (ts : List (List ℕ)) (t : List ℕ) → is_none (ts ++ t ∷ []) ≡ false
none_more [] t = refl
none_more (x ∷ ts) t = refl

-- one more piece that is kept
pub kept_on : {A : Type 0} (text : List ℕ) (p : Piece) (old new : Collected A) (k : List (Result Piece Fault)) → KeepsPiece text p old new
    → glue new (answer text k) ≡ glue old (answer text (Ok p ∷ k))
kept_on text (WordAt p) old new k h = sym (token_glue old new (between text p.start p.end) (answer text k) h.0 h.1)
kept_on text (QuoteAt p) old new k h = sym (token_glue old new (between text p.start p.end) (answer text k) h.0 h.1)
kept_on text (CommentAt p) old new k h = ap (λ c. glue c (answer text k)) h
kept_on text (EndAt p) old new k h = sym (end_glue old new (answer text k) h.0 h.1)

pub closes_on : {A : Type 0} (text : List ℕ) (p : Piece) (old new : Collected A) (k : List (Result Piece Fault)) → KeepsPiece text p old new
    → closes (is_none (texts new.entry.items)) k ≡ closes (is_none (texts old.entry.items)) (Ok p ∷ k)
closes_on text (WordAt p) old new k h = ap (λ t. closes t k) (ap is_none h.1 ∙ none_more _ _)
closes_on text (QuoteAt p) old new k h = ap (λ t. closes t k) (ap is_none h.1 ∙ none_more _ _)
closes_on text (CommentAt p) old new k h = ap (λ c. closes (is_none (texts c.entry.items)) k) h
closes_on text (EndAt p) old new k h = ap (λ t. closes (is_none t) k) h.1
