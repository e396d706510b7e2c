-- What the machine yields for a whole text.
use Rattle.std.proofs.Common.{◌≡◌, ℕ, zero, suc, ◌+◌, ◌<◌, Bool, true, false, ◌&&◌, ◌==◌, if◌then◌else◌, List, [], ◌∷◌, ◌++◌, length, refl, sym, ap, ◌∙◌, subst, arith, append_assoc}
use Rattle.std.proofs.Common.{length-append, inl, inr, ◌⊎◌}
use Rattle.std.specs.Prelude.{Some, None, map, Result, Ok, encode_utf8, encode_utf8_all}
use Rattle.std.specs.List.{flat_map, list_all}
use Rattle.std.proofs.lemmas.Bool.{and_parts, ne_eqb, or_from}
use Rattle.dns_symbol.specs.declared.symbol.Symbol.{Symbol}
use Rattle.dns_symbol.specs.declared.symbol.Symbol.TheVariants.{Char, SimpleEscape, DecimalEscape}
use Rattle.dns_symbol.specs.Symbol.{spell, is_word_symbol}
use Rattle.dns_lexer.specs.declared.reader.Mode.TheVariants.{Outside, Quoted, Comment}
use Rattle.dns_lexer.specs.declared.reader.Kind.TheVariants.{Plain}
use Rattle.dns_lexer.specs.declared.reader.Within.TheVariants.{InWord, InQuote}
use Rattle.dns_lexer.specs.declared.pieces.Piece.{Piece}
use Rattle.dns_lexer.specs.declared.pieces.Fault.{Fault}
use Rattle.dns_lexer.specs.Lexeme.{Lexeme, Blank, Line, Open, Close, Note, Word, Quote, lexeme_bytes, is_quote_symbol, is_note_char}
use Rattle.dns_lexer.specs.Splitting.{may_precede, are_lexemes, nests}
use Rattle.dns_lexer.specs.Reader.{kind}
use Rattle.dns_lexer.specs.Pieces.{word_at, quote_at, comment_at, end_at, begins_blank, pieces, IsPieces}
use Rattle.dns_lexer.specs.Run.{open_piece, before, is_blank, first_blank, run}
use Rattle.dns_lexer.proofs.Complete.{View, view, v_space, v_tab, v_lf, v_cr, v_open, v_close, v_note, v_quote, v_escape, v_plain, no_word, word_some}
use Rattle.dns_lexer.proofs.PieceLexemes.{self, first_blank_char, symbols_run, note_run, note_end, blank_bytes, line_bytes, open_bytes, close_bytes, note_bytes, quote_bytes}

word_char : (c : ℕ) → View c → is_word_symbol (Char c) ≡ true → is_blank c ≡ false
word_char c (v_plain p) h = or_from (c == 32) (c == 9) (ne_eqb c 32 (λ e. elim (no 32 e p.kind_is) [ ])) (ne_eqb c 9 (λ e. elim (nor 9 e p.kind_is) [ ]))
  where
    no : (x : ℕ) → c ≡ 32 → kind c ≡ Plain → ⊥
    no x e k = let w : kind 32 ≡ Plain = subst (λ y. kind y ≡ Plain) e k in cc

    nor : (x : ℕ) → c ≡ 9 → kind c ≡ Plain → ⊥
    nor x e k = let w : kind 9 ≡ Plain = subst (λ y. kind y ≡ Plain) e k in cc
word_char _ v_space h = cc
word_char _ v_tab h = cc
word_char _ v_lf h = refl
word_char _ v_cr h = refl
word_char _ v_open h = refl
word_char _ v_close h = refl
word_char _ v_note h = refl
word_char _ v_quote h = refl
word_char _ v_escape h = refl

word_first : (y : Symbol) (ss : List Symbol) (rest : List ℕ) → is_word_symbol y ≡ true → first_blank (lexeme_bytes (Word y ss) ++ rest) ≡ false
word_first (Char c) ss rest h = ap first_blank (append_assoc (encode_utf8 c) (encode_utf8_all (flat_map spell ss)) rest) ∙ first_blank_char c _ ∙ word_char c (view c) h
word_first (SimpleEscape o) ss rest h = ap first_blank (append_assoc (encode_utf8 92) (encode_utf8_all (o ∷ flat_map spell ss)) rest) ∙ first_blank_char 92 _
word_first (DecimalEscape o) ss rest h = ap first_blank (append_assoc (encode_utf8 92) _ rest) ∙ first_blank_char 92 _

-- a text of lexemes begins with a blank if they do
blank_lexemes : (ls : List Lexeme) → are_lexemes ls ≡ true → first_blank (flat_map lexeme_bytes ls) ≡ begins_blank ls
blank_lexemes [] v = refl
blank_lexemes (Blank true ∷ ls) v = rw (blank_bytes true) refl
blank_lexemes (Blank false ∷ ls) v = rw (blank_bytes false) refl
blank_lexemes (Line true ∷ ls) v = rw (line_bytes true) refl
blank_lexemes (Line false ∷ ls) v = rw (line_bytes false) refl
blank_lexemes (Open ∷ ls) v = rw open_bytes refl
blank_lexemes (Close ∷ ls) v = rw close_bytes refl
blank_lexemes (Note cs ∷ ls) v = rw (note_bytes cs) refl
blank_lexemes (Quote ss ∷ ls) v = rw (quote_bytes ss) refl
blank_lexemes (Word y ss ∷ ls) v =
    let p = and_parts (list_all is_word_symbol (y ∷ ss) && may_precede (Word y ss) ls) (are_lexemes ls) v in
    let r = and_parts (list_all is_word_symbol (y ∷ ss)) (may_precede (Word y ss) ls) p.0 in
    word_first y ss (flat_map lexeme_bytes ls) (and_parts (is_word_symbol y) (list_all is_word_symbol ss) r.0).0

clear : (at : ℕ) (k : List (Result Piece Fault)) → before (open_piece Outside at at) k ≡ k
clear at k = rw (self at) refl

apart_word : (y : Symbol) (ss : List Symbol) (ls : List Lexeme) → may_precede (Word y ss) ls ≡ true → no_word ls ≡ true
apart_word y ss [] h = refl
apart_word y ss (Word _ _ ∷ ls) h = cc
apart_word y ss (Blank _ ∷ ls) h = refl
apart_word y ss (Line _ ∷ ls) h = refl
apart_word y ss (Open ∷ ls) h = refl
apart_word y ss (Close ∷ ls) h = refl
apart_word y ss (Note _ ∷ ls) h = refl
apart_word y ss (Quote _ ∷ ls) h = refl

open_clear : (s at : ℕ) (ls : List Lexeme) → (s ≡ at) ⊎ (no_word ls ≡ true) → no_word ls ≡ false → s ≡ at
open_clear s at ls (inl h) n = h
open_clear s at ls (inr h) n = cc

word_open : (at e n : ℕ) → e ≡ at + n → 0 < n → (at == e) ≡ false
word_open at e n h k = ne_eqb at e (λ x. omega (arith, h, k, x))

two_on : (at : ℕ) → at + 1 + 1 ≡ at + 2
two_on at = omega arith

-- a text of lexemes yields their pieces
pub lexemes_run : (ls : List Lexeme) (d s at : ℕ) (b : Bool) → are_lexemes ls ≡ true → nests d ls ≡ true → (s ≡ at) ⊎ (no_word ls ≡ true)
    → run Outside d s at b (flat_map lexeme_bytes ls) ≡ before (open_piece Outside s at) (map Ok (pieces at d b ls))
lexemes_run [] zero s at b v n a = refl
lexemes_run [] (suc d) s at b v n a = cc
lexemes_run (Blank true ∷ ls) d s at b v n a = rw (blank_bytes true) (ap (before (open_piece Outside s at)) (lexemes_run ls d (at + 1) (at + 1) b v n (inl refl) ∙ clear (at + 1) _))
lexemes_run (Blank false ∷ ls) d s at b v n a = rw (blank_bytes false) (ap (before (open_piece Outside s at)) (lexemes_run ls d (at + 1) (at + 1) b v n (inl refl) ∙ clear (at + 1) _))
lexemes_run (Open ∷ ls) d s at b v n a = rw open_bytes (ap (before (open_piece Outside s at)) (lexemes_run ls (suc d) (at + 1) (at + 1) b v n (inl refl) ∙ clear (at + 1) _))
lexemes_run (Close ∷ ls) zero s at b v n a = cc
lexemes_run (Close ∷ ls) (suc d) s at b v n a = rw close_bytes (ap (before (open_piece Outside s at)) (lexemes_run ls d (at + 1) (at + 1) b v n (inl refl) ∙ clear (at + 1) _))
lexemes_run (Line false ∷ ls) zero s at b v n a =
    rw (line_bytes false)
    (ap (λ k. before (open_piece Outside s at) (Ok (end_at (at + 1) b) ∷ k))
    (ap (λ x. run Outside zero (at + 1) (at + 1) x (flat_map lexeme_bytes ls)) (blank_lexemes ls v) ∙ lexemes_run ls zero (at + 1) (at + 1) (begins_blank ls) v n (inl refl) ∙ clear (at + 1) _))
lexemes_run (Line false ∷ ls) (suc d) s at b v n a = rw (line_bytes false) (ap (before (open_piece Outside s at)) (lexemes_run ls (suc d) (at + 1) (at + 1) b v n (inl refl) ∙ clear (at + 1) _))
lexemes_run (Line true ∷ ls) zero s at b v n a =
    rw (line_bytes true, self (at + 1))
    (ap (λ e. before (open_piece Outside s at) (Ok (end_at e b) ∷ run Outside zero e e (first_blank (flat_map lexeme_bytes ls)) (flat_map lexeme_bytes ls))) (two_on at)
    ∙ ap (λ k. before (open_piece Outside s at) (Ok (end_at (at + 2) b) ∷ k))
    (ap (λ x. run Outside zero (at + 2) (at + 2) x (flat_map lexeme_bytes ls)) (blank_lexemes ls v) ∙ lexemes_run ls zero (at + 2) (at + 2) (begins_blank ls) v n (inl refl) ∙ clear (at + 2) _))
lexemes_run (Line true ∷ ls) (suc d) s at b v n a =
    rw (line_bytes true, self (at + 1))
    (ap (λ e. before (open_piece Outside s at) (run Outside (suc d) e e b (flat_map lexeme_bytes ls))) (two_on at)
    ∙ ap (before (open_piece Outside s at)) (lexemes_run ls (suc d) (at + 2) (at + 2) b v n (inl refl) ∙ clear (at + 2) _))
lexemes_run (Note cs ∷ ls) d s at b v n a =
    let p = and_parts (list_all is_note_char cs && may_precede (Note cs) ls) (are_lexemes ls) v in
    let r = and_parts (list_all is_note_char cs) (may_precede (Note cs) ls) p.0 in
    let rest : List ℕ = flat_map lexeme_bytes ls in
    let e : ℕ = at + length (lexeme_bytes (Note cs)) in
    let k : at + 1 + length (encode_utf8_all cs) ≡ e = omega (arith, ap length (note_bytes cs)) in
    ap (λ l. run Outside d s at b (l ++ rest)) (note_bytes cs)
    ∙ ap (before (open_piece Outside s at))
    (note_run d at (at + 1) b cs rest r.0
    ∙ ap (λ i. run Comment d at i b rest) k
    ∙ note_end d at e b ls cs r.1 n
    ∙ ap (λ l. Ok (comment_at at e) ∷ l) (lexemes_run ls d e e b p.1 n (inl refl) ∙ clear e _))
lexemes_run (Word y ss ∷ ls) d s at b v n a =
    let p = and_parts (list_all is_word_symbol (y ∷ ss) && may_precede (Word y ss) ls) (are_lexemes ls) v in
    let r = and_parts (list_all is_word_symbol (y ∷ ss)) (may_precede (Word y ss) ls) p.0 in
    let is : s ≡ at = open_clear s at (Word y ss ∷ ls) a refl in
    let rest : List ℕ = flat_map lexeme_bytes ls in
    let e : ℕ = at + length (lexeme_bytes (Word y ss)) in
    let left : List (Result Piece Fault) = map Ok (pieces e d b ls) in
    ap (λ x. run Outside d x at b (lexeme_bytes (Word y ss) ++ rest)) is
    ∙ symbols_run InWord d at at b rest (y ∷ ss) r.0
    ∙ lexemes_run ls d at e b p.1 n (inr (apart_word y ss ls r.1))
    ∙ ap (λ t. before (if t then None else Some (word_at at e)) left) (word_open at e (length (lexeme_bytes (Word y ss))) refl (word_some y ss))
    ∙ sym (ap (λ x. before (open_piece Outside x at) (Ok (word_at at e) ∷ left)) is ∙ clear at (Ok (word_at at e) ∷ left))
lexemes_run (Quote ss ∷ ls) d s at b v n a =
    let p = and_parts (list_all is_quote_symbol ss && true) (are_lexemes ls) v in
    let r = and_parts (list_all is_quote_symbol ss) true p.0 in
    let rest : List ℕ = flat_map lexeme_bytes ls in
    let body : List ℕ = encode_utf8_all (flat_map spell ss) in
    let e : ℕ = at + length (lexeme_bytes (Quote ss)) in
    let k : at + 1 + length body + 1 ≡ e = omega (arith, ap length (quote_bytes ss), length-append body (34 ∷ [])) in
    ap (λ l. run Outside d s at b (l ++ rest)) (quote_bytes ss)
    ∙ ap (before (open_piece Outside s at))
    (ap (run Quoted d at (at + 1) b) (append_assoc body (34 ∷ []) rest)
    ∙ symbols_run InQuote d at (at + 1) b (34 ∷ rest) ss r.0
    ∙ ap (λ i. Ok (quote_at at i) ∷ run Outside d i i b rest) k
    ∙ ap (λ l. Ok (quote_at at e) ∷ l) (lexemes_run ls d e e b p.1 n (inl refl) ∙ clear e _))

-- a text of the grammar yields its pieces
pub pieces_run : (text : List ℕ) (found : List Piece) → IsPieces text found → run Outside 0 0 0 (first_blank text) text ≡ map Ok found
pieces_run text found p =
    let is : first_blank text ≡ begins_blank p.lexemes = ap first_blank (sym p.spelled) ∙ blank_lexemes p.lexemes p.valid in
    ap (λ x. run Outside 0 0 0 x text) is ∙ ap (run Outside 0 0 0 (begins_blank p.lexemes)) (sym p.spelled)
    ∙ lexemes_run p.lexemes 0 0 0 (begins_blank p.lexemes) p.valid p.nested (inl refl) ∙ ap (map Ok) p.placed
