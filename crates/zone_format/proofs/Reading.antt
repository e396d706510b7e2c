-- The marks of lexemes are those of their pieces.
use Rattle.std.proofs.Common.{◌≡◌, ℕ, zero, suc, ◌+◌, ◌-◌, ◌≤◌, Bool, true, false, ◌&&◌, ◌==◌, List, [], ◌∷◌, ◌++◌, length, take, drop, refl, sym, ap, ◌∙◌, arith, eq-eqb, append_assoc, length-append}
use Rattle.std.specs.Prelude.{encode_utf8, encode_utf8_all}
use Rattle.std.specs.List.{flat_map, list_all}
use lib.Utf8.{encode}
use Rattle.std.proofs.lemmas.Bool.{and_parts, ne_eqb, or_from}
use Rattle.std.proofs.lemmas.Grind.{flat_map-append}
use Rattle.std.proofs.lemmas.List.{drop_at, drop-drop}
use Rattle.std.proofs.Math.Seq.{take-add}
use Rattle.dns_symbol.specs.declared.symbol.Symbol.{Symbol}
use Rattle.dns_symbol.specs.declared.symbol.Symbol.TheVariants.{Char, SimpleEscape, DecimalEscape}
use Rattle.dns_symbol.specs.Symbol.{spell, is_word_symbol}
use Rattle.dns_lexer.specs.Lexeme.{Lexeme, Blank, Line, Open, Close, Note, Word, Quote, lexeme_bytes}
use Rattle.dns_lexer.specs.Splitting.{are_lexemes, may_precede, nests}
use Rattle.dns_lexer.specs.Pieces.{pieces, begins_blank, between, IsPieces}
use Rattle.dns_lexer.specs.declared.pieces.Piece.{Piece}
use Rattle.dns_lexer.specs.Run.{first_blank, is_blank}
use Rattle.dns_lexer.specs.CursorStates.{blank_at}
use Rattle.dns_lexer.proofs.PieceLexemes.{first_blank_char, blank_bytes, line_bytes, open_bytes, close_bytes, note_bytes, quote_bytes}
use Rattle.dns_lexer.proofs.PieceSplit.{between_is}
use Rattle.zone_format.specs.declared.line_state.Above.TheVariants.{Nothing}
use Rattle.zone_format.specs.Marks.{Mark, Feed, all_marks, gap_mark, gap_marks, lead, marks, shortened}
use Rattle.zone_format.specs.Marks.{Token as TokenMark, Note as NoteMark, Open as OpenMark, Close as CloseMark}
use Rattle.zone_format.proofs.Respelling.{respelt, sq}
use Rattle.zone_format.proofs.Build.{build, built_bytes, built_nests, built_valid, marks_of}
use Rattle.zone_format.proofs.Built.{built_marks, sq_lead}

-- past a lexeme
onward : (before : List ℕ) (l : Lexeme) (ls : List Lexeme) (text : List ℕ) (at : ℕ) → before ++ flat_map lexeme_bytes (l ∷ ls) ≡ text → at ≡ length before
    → ((before ++ lexeme_bytes l) ++ flat_map lexeme_bytes ls ≡ text) × (at + length (lexeme_bytes l) ≡ length (before ++ lexeme_bytes l))
onward before l ls text at e k = (append_assoc before (lexeme_bytes l) (flat_map lexeme_bytes ls) ∙ e, omega (arith, k, length-append before (lexeme_bytes l)))

-- a text of lexemes begins with a blank if they do
no_char : (x c : ℕ) → c ≡ x → is_word_symbol (Char x) ≡ false → is_word_symbol (Char c) ≡ true → ⊥
no_char x c e f h = let w : false ≡ true = sym f ∙ ap (λ y. is_word_symbol (Char y)) (sym e) ∙ h in cc

word_char : (c : ℕ) → is_word_symbol (Char c) ≡ true → is_blank c ≡ false
word_char c h = or_from (c == 32) (c == 9) (ne_eqb c 32 (λ e. no_char 32 c e refl h)) (ne_eqb c 9 (λ e. no_char 9 c e refl h))

word_first : (y : Symbol) (ss : List Symbol) (rest : List ℕ) → is_word_symbol y ≡ true → first_blank (lexeme_bytes (Word y ss) ++ rest) ≡ false
word_first (Char c) ss rest h = ap first_blank (append_assoc (encode_utf8 c) (encode_utf8_all (flat_map spell ss)) rest) ∙ first_blank_char c _ ∙ word_char c h
word_first (SimpleEscape o) ss rest h = ap first_blank (append_assoc (encode_utf8 92) (encode_utf8_all (o ∷ flat_map spell ss)) rest) ∙ first_blank_char 92 _
word_first (DecimalEscape o) ss rest h = ap first_blank (append_assoc (encode_utf8 92) _ rest) ∙ first_blank_char 92 _

pub blank_lexemes : (ls : List Lexeme) → are_lexemes ls ≡ true → first_blank (flat_map lexeme_bytes ls) ≡ begins_blank ls
blank_lexemes [] v = refl
blank_lexemes (Blank true ∷ ls) v = rw (blank_bytes true) refl
blank_lexemes (Blank false ∷ ls) v = rw (blank_bytes false) refl
blank_lexemes (Line true ∷ ls) v = rw (line_bytes true) refl
blank_lexemes (Line false ∷ ls) v = rw (line_bytes false) refl
blank_lexemes (Open ∷ ls) v = rw open_bytes refl
blank_lexemes (Close ∷ ls) v = rw close_bytes refl
blank_lexemes (Note cs ∷ ls) v = rw (note_bytes cs) refl
blank_lexemes (Quote ss ∷ ls) v = rw (quote_bytes ss) refl
blank_lexemes (Word y ss ∷ ls) v =
    let p = and_parts (list_all is_word_symbol (y ∷ ss) && may_precede (Word y ss) ls) (are_lexemes ls) v in
    let r = and_parts (list_all is_word_symbol (y ∷ ss)) (may_precede (Word y ss) ls) p.0 in
    word_first y ss (flat_map lexeme_bytes ls) (and_parts (is_word_symbol y) (list_all is_word_symbol ss) r.0).0

rest_valid : (l : Lexeme) (ls : List Lexeme) → are_lexemes (l ∷ ls) ≡ true → are_lexemes ls ≡ true
rest_valid l ls v = (and_parts _ (are_lexemes ls) v).1

-- octets between two pieces, up to further on
join : (text : List ℕ) (from at n : ℕ) → from ≤ at → between text from (at + n) ≡ between text from at ++ between text at (at + n)
join text from at n h =
    let one : at + n - from ≡ (at - from) + n = omega (arith, h) in
    let two : from + (at - from) ≡ at = omega (arith, h) in
    let three : n ≡ at + n - at = omega arith in
    ap (λ k. take k (drop from text)) one ∙ take-add (at - from) n (drop from text)
    ∙ ap (λ l. between text from at ++ take n l) (drop-drop (at - from) from text ∙ ap (λ k. drop k text) two) ∙ ap (λ k. between text from at ++ take k (drop at text)) three

gap_on : (before : List ℕ) (l : Lexeme) (ls : List Lexeme) (text : List ℕ) (from at : ℕ) (gm : List Mark) → before ++ flat_map lexeme_bytes (l ∷ ls) ≡ text → at ≡ length before → from ≤ at
    → flat_map gap_mark (lexeme_bytes l) ≡ gm → gap_marks text from (at + length (lexeme_bytes l)) ≡ gap_marks text from at ++ gm
gap_on before l ls text from at gm e k h is =
    ap (flat_map gap_mark) (join text from at (length (lexeme_bytes l)) h ∙ ap (λ x. between text from at ++ x) (between_is before (lexeme_bytes l) (flat_map lexeme_bytes ls) text at e k))
    ∙ flat_map-append gap_mark (between text from at) (lexeme_bytes l) ∙ ap (λ x. gap_marks text from at ++ x) is

no_gap : (text : List ℕ) (at : ℕ) → gap_marks text at at ≡ []
no_gap text at = let none : at - at ≡ 0 = omega arith in ap (λ k. flat_map gap_mark (take k (drop at text))) none

blank_marks : (t : Bool) → flat_map gap_mark (lexeme_bytes (Blank t)) ≡ []
unfolding encode
blank_marks true = refl
blank_marks false = refl

line_marks : (r : Bool) → flat_map gap_mark (lexeme_bytes (Line r)) ≡ Feed ∷ []
unfolding encode
line_marks true = refl
line_marks false = refl

open_marks : flat_map gap_mark (lexeme_bytes Open) ≡ OpenMark ∷ []
unfolding encode
open_marks = refl

close_marks : flat_map gap_mark (lexeme_bytes Close) ≡ CloseMark ∷ []
unfolding encode
close_marks = refl

-- the marks before an offset, followed by more
pass : (text : List ℕ) (from at at' : ℕ) (gm : List Mark) (ms rest : List Mark) → gap_marks text from at' ≡ gap_marks text from at ++ gm → gap_marks text from at' ++ ms ≡ rest → gap_marks text from at ++ (gm ++ ms) ≡ rest
pass text from at at' gm ms rest g h = sym (append_assoc (gap_marks text from at) gm ms) ∙ ap (λ x. x ++ ms) (sym g) ∙ h

after_piece : (text : List ℕ) (at : ℕ) (ms rest : List Mark) → gap_marks text at at ++ ms ≡ rest → ms ≡ rest
after_piece text at ms rest h = ap (λ g. g ++ ms) (sym (no_gap text at)) ∙ h

-- what begins later isn't adjacent
apart : (tied : Bool) (from at n : ℕ) → from ≤ at → 1 ≤ n → false ≡ (tied && (at + n == from))
apart false from at n h k = refl
apart true from at n h k = sym (ne_eqb (at + n) from (λ e. omega (arith, e, h, k)))

together : (n : ℕ) → true ≡ (true && (n == n))
together n = sym (eq-eqb n n refl)

blank_long : (t : Bool) → 1 ≤ length (lexeme_bytes (Blank t))
unfolding encode
blank_long true = omega arith
blank_long false = omega arith

line_long : (r : Bool) → 1 ≤ length (lexeme_bytes (Line r))
unfolding encode
line_long true = omega arith
line_long false = omega arith

open_long : 1 ≤ length (lexeme_bytes Open)
unfolding encode
open_long = omega arith

close_long : 1 ≤ length (lexeme_bytes Close)
unfolding encode
close_long = omega arith

token_cut : (text before : List ℕ) (l : Lexeme) (ls : List Lexeme) (from at : ℕ) (k tied : Bool) (ms rest : List Mark) → before ++ flat_map lexeme_bytes (l ∷ ls) ≡ text → at ≡ length before → k ≡ (tied && (at == from)) → ms ≡ rest
    → gap_marks text from at ++ (TokenMark k (lexeme_bytes l) ∷ ms) ≡ gap_marks text from at ++ (TokenMark (tied && (at == from)) (between text at (at + length (lexeme_bytes l))) ∷ rest)
token_cut text before l ls from at k tied ms rest e a g h =
    ap (λ m. gap_marks text from at ++ (TokenMark k (lexeme_bytes l) ∷ m)) h ∙ ap (λ b. gap_marks text from at ++ (TokenMark b (lexeme_bytes l) ∷ rest)) g
    ∙ ap (λ t. gap_marks text from at ++ (TokenMark (tied && (at == from)) t ∷ rest)) (sym (between_is before (lexeme_bytes l) (flat_map lexeme_bytes ls) text at e a))

pub marks_cut : (ls : List Lexeme) (text before : List ℕ) (from d at : ℕ) (b k tied : Bool) → before ++ flat_map lexeme_bytes ls ≡ text → at ≡ length before → from ≤ at → k ≡ (tied && (at == from)) → nests d ls ≡ true → are_lexemes ls ≡ true
    → gap_marks text from at ++ marks_of k d ls ≡ marks text tied from (pieces at d b ls)
marks_cut [] text before from d at b k tied e a f g n v =
    ap (λ l. gap_marks text from at ++ (lead (first_blank l) ++ [])) (sym (ap (drop at) (sym e) ∙ drop_at before [] at (sym a)))
marks_cut (Blank t ∷ ls) text before from d at b k tied e a f g n v =
    let o = onward before (Blank t) ls text at e a in
    let at' = at + length (lexeme_bytes (Blank t)) in
    pass text from at at' [] (marks_of false d ls) _ (gap_on before (Blank t) ls text from at [] e a f (blank_marks t))
    (marks_cut ls text (before ++ lexeme_bytes (Blank t)) from d at' b false tied o.0 o.1 (omega (arith, f)) (apart tied from at (length (lexeme_bytes (Blank t))) f (blank_long t)) n (rest_valid (Blank t) ls v))
marks_cut (Open ∷ ls) text before from d at b k tied e a f g n v =
    let o = onward before Open ls text at e a in
    let at' = at + length (lexeme_bytes Open) in
    pass text from at at' (OpenMark ∷ []) (marks_of false (suc d) ls) _ (gap_on before Open ls text from at (OpenMark ∷ []) e a f open_marks)
    (marks_cut ls text (before ++ lexeme_bytes Open) from (suc d) at' b false tied o.0 o.1 (omega (arith, f)) (apart tied from at (length (lexeme_bytes Open)) f open_long) n (rest_valid Open ls v))
marks_cut (Close ∷ ls) text before from zero at b k tied e a f g n v = cc
marks_cut (Close ∷ ls) text before from (suc d) at b k tied e a f g n v =
    let o = onward before Close ls text at e a in
    let at' = at + length (lexeme_bytes Close) in
    pass text from at at' (CloseMark ∷ []) (marks_of false d ls) _ (gap_on before Close ls text from at (CloseMark ∷ []) e a f close_marks)
    (marks_cut ls text (before ++ lexeme_bytes Close) from d at' b false tied o.0 o.1 (omega (arith, f)) (apart tied from at (length (lexeme_bytes Close)) f close_long) n (rest_valid Close ls v))
marks_cut (Line r ∷ ls) text before from (suc d) at b k tied e a f g n v =
    let o = onward before (Line r) ls text at e a in
    let at' = at + length (lexeme_bytes (Line r)) in
    pass text from at at' (Feed ∷ []) (marks_of false (suc d) ls) _ (gap_on before (Line r) ls text from at (Feed ∷ []) e a f (line_marks r))
    (marks_cut ls text (before ++ lexeme_bytes (Line r)) from (suc d) at' b false tied o.0 o.1 (omega (arith, f)) (apart tied from at (length (lexeme_bytes (Line r))) f (line_long r)) n (rest_valid (Line r) ls v))
marks_cut (Line r ∷ ls) text before from zero at b k tied e a f g n v =
    let o = onward before (Line r) ls text at e a in
    let at' = at + length (lexeme_bytes (Line r)) in
    let w = rest_valid (Line r) ls v in
    let led : begins_blank ls ≡ blank_at text at' = sym (ap first_blank (ap (drop at') (sym o.0) ∙ drop_at (before ++ lexeme_bytes (Line r)) (flat_map lexeme_bytes ls) at' (sym o.1)) ∙ blank_lexemes ls w) in
    let rest = marks text false at' (pieces at' zero (begins_blank ls) ls) in
    let more : marks_of false zero ls ≡ rest =
    after_piece text at' (marks_of false zero ls) rest (marks_cut ls text (before ++ lexeme_bytes (Line r)) at' zero at' (begins_blank ls) false false o.0 o.1 (omega arith) refl n w) in
    pass text from at at' (Feed ∷ []) (lead (begins_blank ls) ++ marks_of false zero ls) _ (gap_on before (Line r) ls text from at (Feed ∷ []) e a f (line_marks r))
    (ap (λ c. gap_marks text from at' ++ (lead c ++ marks_of false zero ls)) led ∙ ap (λ l. gap_marks text from at' ++ (lead (blank_at text at') ++ l)) more)
marks_cut (Word y ss ∷ ls) text before from d at b k tied e a f g n v =
    let o = onward before (Word y ss) ls text at e a in
    let at' = at + length (lexeme_bytes (Word y ss)) in
    token_cut text before (Word y ss) ls from at k tied (marks_of true d ls) (marks text true at' (pieces at' d b ls)) e a g
    (after_piece text at' (marks_of true d ls) _ (marks_cut ls text (before ++ lexeme_bytes (Word y ss)) at' d at' b true true o.0 o.1 (omega arith) (together at') n (rest_valid (Word y ss) ls v)))
marks_cut (Quote ss ∷ ls) text before from d at b k tied e a f g n v =
    let o = onward before (Quote ss) ls text at e a in
    let at' = at + length (lexeme_bytes (Quote ss)) in
    token_cut text before (Quote ss) ls from at k tied (marks_of true d ls) (marks text true at' (pieces at' d b ls)) e a g
    (after_piece text at' (marks_of true d ls) _ (marks_cut ls text (before ++ lexeme_bytes (Quote ss)) at' d at' b true true o.0 o.1 (omega arith) (together at') n (rest_valid (Quote ss) ls v)))
marks_cut (Note cs ∷ ls) text before from d at b k tied e a f g n v =
    let o = onward before (Note cs) ls text at e a in
    let at' = at + length (lexeme_bytes (Note cs)) in
    let rest = marks text false at' (pieces at' d b ls) in
    let more : marks_of false d ls ≡ rest =
    after_piece text at' (marks_of false d ls) rest (marks_cut ls text (before ++ lexeme_bytes (Note cs)) at' d at' b false false o.0 o.1 (omega arith) refl n (rest_valid (Note cs) ls v)) in
    ap (λ l. gap_marks text from at ++ (NoteMark (shortened (lexeme_bytes (Note cs))) ∷ l)) more
    ∙ ap (λ t. gap_marks text from at ++ (NoteMark (shortened t) ∷ rest)) (sym (between_is before (lexeme_bytes (Note cs)) (flat_map lexeme_bytes ls) text at e a))

abbrev pub rewritten : List ℕ → List Mark → List ℕ
rewritten plan ms = respelt plan Nothing false 0 false ms

pub all_is : (text : List ℕ) (found : List Piece) (p : IsPieces text found) → all_marks text found ≡ lead (begins_blank p.lexemes) ++ marks_of false 0 p.lexemes
all_is text found p =
    let ls = p.lexemes in
    let own : marks_of false 0 ls ≡ marks text false 0 found = marks_cut ls text [] 0 0 0 (begins_blank ls) false false p.spelled refl (omega arith) refl p.nested p.valid ∙ ap (marks text false 0) p.placed in
    let led : blank_at text 0 ≡ begins_blank ls = ap first_blank (sym p.spelled) ∙ blank_lexemes ls p.valid in
    ap (λ b. lead b ++ marks text false 0 found) led ∙ ap (λ l. lead (begins_blank ls) ++ l) (sym own)

respelt_led : (b : Bool) (plan : List ℕ) (ms : List Mark) → rewritten plan (lead b ++ ms) ≡ respelt plan Nothing false 0 b ms
respelt_led true plan ms = refl
respelt_led false plan ms = refl

-- what is written anew has these marks, with runs of line ends shortened
pub text_marks : (plan text : List ℕ) (found : List Piece) → IsPieces text found
    → (again : List Piece) × IsPieces (rewritten plan (all_marks text found)) again × (all_marks (rewritten plan (all_marks text found)) again ≡ sq Nothing false false (all_marks text found))
text_marks plan text found p =
    let ls = p.lexemes in
    let b = begins_blank ls in
    let out = rewritten plan (all_marks text found) in
    let built = build plan false Nothing false 0 b ls in
    let own = all_is text found p in
    let same : flat_map lexeme_bytes built ≡ out = built_bytes ls plan false Nothing false 0 b p.nested ∙ sym (respelt_led b plan (marks_of false 0 ls)) ∙ ap (rewritten plan) (sym own) in
    let again = pieces 0 0 (begins_blank built) built in
    let q : IsPieces out again = record { lexemes = built; spelled = same; valid = built_valid ls plan false Nothing false 0 b p.valid; nested = built_nests ls plan false Nothing false 0 b p.nested; placed = refl } in
    (again, q, all_is out again q ∙ (built_marks ls).1 plan Nothing b p.nested ∙ sym (sq_lead b Nothing false (marks_of false 0 ls)) ∙ ap (sq Nothing false false) (sym own))
