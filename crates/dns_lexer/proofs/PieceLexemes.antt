-- The machine of pieces on characters, and on lexemes.
use Rattle.std.proofs.Common.{◌≡◌, ℕ, zero, suc, ◌+◌, ◌*◌, ◌/◌, ◌%◌, ◌<◌, ◌≤◌, Bool, true, false, cond, ◌==◌, nat_le, List, [], ◌∷◌, ◌++◌, length, refl, sym, ap, ◌∙◌, subst, arith, append_assoc}
use Rattle.std.proofs.Common.{append-nil, length-append, inl, inr}
use Rattle.std.specs.Prelude.{Some, None, Result, Ok, encode_utf8, encode_utf8_all}
use Rattle.std.specs.List.{flat_map, list_all}
use lib.Utf8.{encode}
use Rattle.std.proofs.lemmas.Bool.{and_parts, eq-eqb, ne_eqb, cases_lt, le-ltb, lt-ltb, le-leb, leb-true, or_from}
use Rattle.std.proofs.lemmas.Str.{encodes-append, encode_ascii, length-encode, len_utf8_bounds}
use Rattle.dns_symbol.specs.declared.symbol.Symbol.{Symbol}
use Rattle.dns_symbol.specs.declared.symbol.Symbol.TheVariants.{Char, SimpleEscape, DecimalEscape}
use Rattle.dns_symbol.specs.Symbol.{spell}
use Rattle.dns_lexer.specs.declared.reader.Mode.{Mode}
use Rattle.dns_lexer.specs.declared.reader.Mode.TheVariants.{Outside, Quoted, Comment, Return, Escape, OneDigit, TwoDigits}
use Rattle.dns_lexer.specs.declared.reader.Act.TheVariants.{Add}
use Rattle.dns_lexer.specs.declared.reader.Move.{Move}
use Rattle.dns_lexer.specs.declared.reader.Within.{Within}
use Rattle.dns_lexer.specs.declared.reader.Within.TheVariants.{InWord, InQuote}
use Rattle.dns_lexer.specs.declared.pieces.Piece.{Piece}
use Rattle.dns_lexer.specs.declared.pieces.Fault.{Fault}
use Rattle.dns_lexer.specs.Lexeme.{Lexeme, Blank, Line, Open, Close, Note, Word, Quote, lexeme_bytes, is_note_char}
use Rattle.dns_lexer.specs.Splitting.{may_precede, nests}
use Rattle.dns_lexer.specs.Reader.{home, move_to, step}
use Rattle.dns_lexer.specs.Pieces.{comment_at}
use Rattle.dns_lexer.specs.Run.{before, closed_piece, finished, start_after, is_blank, first_blank, blank_after, fault, wrong_at, run}
use Rattle.dns_lexer.proofs.Complete.{Some_same as some_same, allowed, char_step, escape_step, simple_step, first_step, second_step, third_step, simple_readable, decimal_small, note_step, view}
use Rattle.dns_lexer.proofs.Viable.{high_is, high_step}
use Rattle.dns_lexer.proofs.PieceSteps.{run_step, run_stop}

none_some : {A : Type 0} {X : Type 0} {x : X} → None ≡ Some x → A
none_some h = cc

nothing : (at : ℕ) → at ≡ at + 0
nothing at = omega arith

abbrev pub is_high : ℕ → Bool
is_high b = nat_le 128 b

-- beyond ASCII each byte is 128 at least
pub high_bytes : (c : ℕ) → 128 ≤ c → list_all is_high (encode_utf8 c) ≡ true
unfolding encode
high_bytes c h = elim (cases_lt c 2048) [
  | inl two ↦ rw (le-ltb c 128 h, lt-ltb c 2048 two, le-leb 128 (192 + c / 64) (omega arith), le-leb 128 (128 + c % 64) (omega arith)) refl
  | inr more ↦ elim (cases_lt c 65536) [
    | inl three ↦ rw (
      le-ltb c 128 h,
      le-ltb c 2048 more,
      lt-ltb c 65536 three,
      le-leb 128 (224 + c / 4096) (omega arith),
      le-leb 128 (128 + c / 64 % 64) (omega arith),
      le-leb 128 (128 + c % 64)
          (omega arith),
    ) refl
    | inr four ↦ rw (
      le-ltb c 128 h,
      le-ltb c 2048 more,
      le-ltb c 65536 four,
      le-leb 128 (240 + c / 262144) (omega arith),
      le-leb 128 (128 + c / 4096 % 64) (omega arith),
      le-leb 128
          (128 + c / 64 % 64) (omega arith),
      le-leb 128 (128 + c % 64) (omega arith),
    ) refl
  ]
]

-- if such bytes change nothing
abbrev pub stays : Mode → Bool
stays Outside = true
stays Quoted = true
stays Comment = true
stays _ = false

pub high_run : (bs rest : List ℕ) (m : Mode) (d s at : ℕ) (b : Bool) → list_all is_high bs ≡ true → stays m ≡ true → run m d s at b (bs ++ rest) ≡ run m d s (at + length bs) b rest
high_run [] rest m d s at b h k = ap (λ n. run m d s n b rest) (nothing at)
high_run (x ∷ bs) rest m d s at b h k =
    let p = and_parts (is_high x) (list_all is_high bs) h in
    go m k (leb-true 128 x p.0) (high_run bs rest m d s (at + 1) b p.1 k ∙ ap (λ n. run m d s n b rest) (omega arith))
  where
    go : (m : Mode) → stays m ≡ true → 128 ≤ x → run m d s (at + 1) b (bs ++ rest) ≡ run m d s (at + suc (length bs)) b rest
        → run m d s at b (x ∷ (bs ++ rest)) ≡ run m d s (at + suc (length bs)) b rest
    go Outside k big on = run_step Outside d s at b x (bs ++ rest) _ (high_is Outside d x big) ∙ on
    go Quoted k big on = run_step Quoted d s at b x (bs ++ rest) _ (high_is Quoted d x big) ∙ on
    go Comment k big on = run_step Comment d s at b x (bs ++ rest) _ (high_is Comment d x big) ∙ on
    go Return k big on = cc
    go (Escape q) k big on = cc
    go (OneDigit q n) k big on = cc
    go (TwoDigits q n) k big on = cc

-- what a character yields and leaves
abbrev pub char_stepped : Mode → ℕ → ℕ → Bool → ℕ → List ℕ → Move → List (Result Piece Fault)
char_stepped m s at b w rest v = before (closed_piece m v.mode v.act s at)
    (before (finished v.act s (at + 1) b) (run v.mode v.depth (start_after m v.mode v.act s at) (at + w) (blank_after v.act b rest) rest))

pub run_some : (m : Mode) (d s at : ℕ) (b : Bool) (c : ℕ) (rest : List ℕ) (v : Move) → step m d c ≡ Some v
    → run m d s at b (encode_utf8 c ++ rest) ≡ char_stepped m s at b (length (encode_utf8 c)) rest v
run_some m d s at b c rest v h = elim (cases_lt c 128) [
  | inl small ↦ rw (encode_ascii c small) (run_step m d s at b c rest v h)
  | inr big ↦ go m v (sym (high_is m d c big) ∙ h) big
]
  where
    Same : Mode → Move → Type 0
    Same m v = run m d s at b (encode_utf8 c ++ rest) ≡ char_stepped m s at b (length (encode_utf8 c)) rest v

    go : (m : Mode) (v : Move) → high_step m d ≡ Some v → 128 ≤ c → Same m v
    go Outside v h big = subst (Same Outside) (some_same h) (high_run (encode_utf8 c) rest Outside d s at b (high_bytes c big) refl)
    go Quoted v h big = subst (Same Quoted) (some_same h) (high_run (encode_utf8 c) rest Quoted d s at b (high_bytes c big) refl)
    go Comment v h big = subst (Same Comment) (some_same h) (high_run (encode_utf8 c) rest Comment d s at b (high_bytes c big) refl)
    go Return v h big = none_some h
    go (Escape q) v h big = none_some h
    go (OneDigit q n) v h big = none_some h
    go (TwoDigits q n) v h big = none_some h

pub first_high : (c : ℕ) → 128 ≤ c → (x : ℕ) × (xs : List ℕ) × (encode_utf8 c ≡ x ∷ xs) × (128 ≤ x)
first_high c big = go (encode_utf8 c) (omega (arith, length-encode c, (len_utf8_bounds c).0)) (high_bytes c big)
  where
    go : (l : List ℕ) → 0 < length l → list_all is_high l ≡ true → (x : ℕ) × (xs : List ℕ) × (l ≡ x ∷ xs) × (128 ≤ x)
    go [] h k = absurd (omega arith)
    go (x ∷ xs) h k = (x, xs, refl, leb-true 128 x (and_parts (is_high x) (list_all is_high xs) k).0)

pub run_none : (m : Mode) (d s at : ℕ) (b : Bool) (c : ℕ) (rest : List ℕ) → step m d c ≡ None → run m d s at b (encode_utf8 c ++ rest) ≡ fault at (wrong_at m s)
run_none m d s at b c rest h = elim (cases_lt c 128) [
  | inl small ↦ rw (encode_ascii c small) (run_stop m d s at b c rest h)
  | inr big ↦
      let f = first_high c big in
      ap (λ l. run m d s at b (l ++ rest)) f.2 ∙ run_stop m d s at b f.0 (f.1 ++ rest) (high_is m d f.0 f.3 ∙ sym (high_is m d c big) ∙ h)
]

not_blank : (c : ℕ) → 128 ≤ c → is_blank c ≡ false
not_blank c h = or_from (c == 32) (c == 9) (ne_eqb c 32 (λ e. omega (arith, e))) (ne_eqb c 9 (λ e. omega (arith, e)))

pub first_blank_char : (c : ℕ) (rest : List ℕ) → first_blank (encode_utf8 c ++ rest) ≡ is_blank c
first_blank_char c rest = elim (cases_lt c 128) [
  | inl small ↦ rw (encode_ascii c small) refl
  | inr big ↦
      let f = first_high c big in
      ap (λ l. first_blank (l ++ rest)) f.2 ∙ not_blank f.0 f.3 ∙ sym (not_blank c big)
]

-- a character that extends the open piece
add_run : (m m' : Mode) (d s at e : ℕ) (b : Bool) (c : ℕ) (rest : List ℕ) → closed_piece m m' Add s at ≡ None → step m d c ≡ move_to m' d Add → e ≡ at + length (encode_utf8 c)
    → run m d s at b (encode_utf8 c ++ rest) ≡ run m' d s e b rest
add_run m m' d s at e b c rest n h k =
    run_some m d s at b c rest _ h ∙ ap (λ o. before o (run m' d s (at + length (encode_utf8 c)) b rest)) n ∙ ap (λ i. run m' d s i b rest) (sym k)

home_open : (q : Within) (m' : Mode) (s at : ℕ) → closed_piece (home q) m' Add s at ≡ None
home_open InWord m' s at = refl
home_open InQuote m' s at = refl

four_bytes : (a b c d rest : List ℕ) → (a ++ (b ++ (c ++ (d ++ [])))) ++ rest ≡ a ++ (b ++ (c ++ (d ++ rest)))
four_bytes a b c d rest = simp (append_assoc, append-nil)

four_long : (a b c d : List ℕ) → length (a ++ (b ++ (c ++ (d ++ [])))) ≡ length a + length b + length c + length d
four_long a b c d = omega (arith, length-append a (b ++ (c ++ (d ++ []))), length-append b (c ++ (d ++ [])), length-append c (d ++ []), length-append d [])

symbol_run : (q : Within) (d s at : ℕ) (b : Bool) (rest : List ℕ) (y : Symbol) → allowed q y ≡ true
    → run (home q) d s at b (encode_utf8_all (spell y) ++ rest) ≡ run (home q) d s (at + length (encode_utf8_all (spell y))) b rest
symbol_run q d s at b rest (Char c) h =
    ap (λ l. run (home q) d s at b (l ++ rest)) (append-nil (encode_utf8 c))
    ∙ add_run (home q) (home q) d s at _ b c rest (home_open q (home q) s at) (char_step q d c (view c) h) refl
    ∙ ap (λ l. run (home q) d s (at + length l) b rest) (sym (append-nil (encode_utf8 c)))
symbol_run q d s at b rest (SimpleEscape o) h =
    let x : List ℕ = encode_utf8 92 in
    let y : List ℕ = encode_utf8 o in
    ap (run (home q) d s at b) (append_assoc x (y ++ []) rest ∙ ap (λ l. x ++ (l ++ rest)) (append-nil y))
    ∙ add_run (home q) (Escape q) d s at (at + length x) b 92 (y ++ rest) (home_open q (Escape q) s at) (escape_step q d) refl
    ∙ add_run (Escape q) (home q) d s (at + length x) (at + length (x ++ (y ++ []))) b o rest refl (simple_step q d o (simple_readable q o h))
    (omega (arith, length-append x (y ++ []), length-append y []))
symbol_run q d s at b rest (DecimalEscape o) h =
    let small : o < 256 = decimal_small q o h in
    let u : ℕ = o / 100 in
    let v : ℕ = o / 10 % 10 in
    let w : ℕ = o % 10 in
    let x : List ℕ = encode_utf8 92 in
    let xu : List ℕ = encode_utf8 (48 + u) in
    let xv : List ℕ = encode_utf8 (48 + v) in
    let xw : List ℕ = encode_utf8 (48 + w) in
    ap (run (home q) d s at b) (four_bytes x xu xv xw rest)
    ∙ add_run (home q) (Escape q) d s at (at + length x) b 92 (xu ++ (xv ++ (xw ++ rest))) (home_open q (Escape q) s at) (escape_step q d) refl
    ∙ add_run (Escape q) (OneDigit q u) d s (at + length x) (at + length x + length xu) b (48 + u) (xv ++ (xw ++ rest)) refl (first_step q d u (omega arith)) refl
    ∙ add_run (OneDigit q u) (TwoDigits q (10 * u + v)) d s (at + length x + length xu) (at + length x + length xu + length xv) b (48 + v) (xw ++ rest) refl
    (second_step q d u v (omega arith) (omega arith)) refl
    ∙ add_run (TwoDigits q (10 * u + v)) (home q) d s (at + length x + length xu + length xv) (at + length (x ++ (xu ++ (xv ++ (xw ++ []))))) b (48 + w) rest refl
    (third_step q d (10 * u + v) w (omega arith) (omega arith)) (omega (arith, four_long x xu xv xw))

pub symbols_run : (q : Within) (d s at : ℕ) (b : Bool) (rest : List ℕ) (ss : List Symbol) → list_all (allowed q) ss ≡ true
    → run (home q) d s at b (encode_utf8_all (flat_map spell ss) ++ rest) ≡ run (home q) d s (at + length (encode_utf8_all (flat_map spell ss))) b rest
symbols_run q d s at b rest [] h = ap (λ n. run (home q) d s n b rest) (nothing at)
symbols_run q d s at b rest (y ∷ ss) h =
    let p = and_parts (allowed q y) (list_all (allowed q) ss) h in
    let front : List ℕ = encode_utf8_all (spell y) in
    let back : List ℕ = encode_utf8_all (flat_map spell ss) in
    ap (λ l. run (home q) d s at b (l ++ rest)) (encodes-append (spell y) (flat_map spell ss))
    ∙ ap (run (home q) d s at b) (append_assoc front back rest)
    ∙ symbol_run q d s at b (back ++ rest) y p.0
    ∙ symbols_run q d s (at + length front) b rest ss p.1
    ∙ ap (λ n. run (home q) d s n b rest) (omega (arith, length-append front back, ap length (encodes-append (spell y) (flat_map spell ss))))

pub note_run : (d s at : ℕ) (b : Bool) (cs rest : List ℕ) → list_all is_note_char cs ≡ true
    → run Comment d s at b (encode_utf8_all cs ++ rest) ≡ run Comment d s (at + length (encode_utf8_all cs)) b rest
note_run d s at b [] rest h = ap (λ n. run Comment d s n b rest) (nothing at)
note_run d s at b (c ∷ cs) rest h =
    let p = and_parts (is_note_char c) (list_all is_note_char cs) h in
    let x : List ℕ = encode_utf8 c in
    let y : List ℕ = encode_utf8_all cs in
    ap (run Comment d s at b) (append_assoc x y rest)
    ∙ run_some Comment d s at b c (y ++ rest) _ (note_step d c (view c) p.0)
    ∙ note_run d s (at + length x) b cs rest p.1
    ∙ ap (λ n. run Comment d s n b rest) (omega (arith, length-append x y))

pub self : (at : ℕ) → (at == at) ≡ true
self at = eq-eqb at at refl

-- the bytes of marks
pub blank_bytes : (t : Bool) → lexeme_bytes (Blank t) ≡ cond t 9 32 ∷ []
unfolding encode
blank_bytes true = refl
blank_bytes false = refl

pub line_bytes : (r : Bool) → lexeme_bytes (Line r) ≡ cond r (13 ∷ 10 ∷ []) (10 ∷ [])
unfolding encode
line_bytes true = refl
line_bytes false = refl

pub open_bytes : lexeme_bytes Open ≡ 40 ∷ []
unfolding encode
open_bytes = refl

pub close_bytes : lexeme_bytes Close ≡ 41 ∷ []
unfolding encode
close_bytes = refl

pub note_bytes : (cs : List ℕ) → lexeme_bytes (Note cs) ≡ 59 ∷ encode_utf8_all cs
note_bytes cs = ap (λ l. l ++ encode_utf8_all cs) (encode_ascii 59 (omega arith))

pub quote_bytes : (ss : List Symbol) → lexeme_bytes (Quote ss) ≡ 34 ∷ (encode_utf8_all (flat_map spell ss) ++ 34 ∷ [])
quote_bytes ss = ap (λ l. encode_utf8 34 ++ l) (encodes-append (flat_map spell ss) (34 ∷ [])) ∙ ap (λ l. l ++ (encode_utf8_all (flat_map spell ss) ++ (l ++ []))) (encode_ascii 34 (omega arith))

-- after a comment
pub note_end : (d s at : ℕ) (b : Bool) (ls : List Lexeme) (cs : List ℕ) → may_precede (Note cs) ls ≡ true → nests d ls ≡ true
    → run Comment d s at b (flat_map lexeme_bytes ls) ≡ Ok (comment_at s at) ∷ run Outside d at at b (flat_map lexeme_bytes ls)
note_end zero s at b [] cs h n = rw (self at) refl
note_end (suc d) s at b [] cs h n = cc
note_end zero s at b (Line true ∷ ls) cs h n = rw (line_bytes true, self at) refl
note_end (suc d) s at b (Line true ∷ ls) cs h n = rw (line_bytes true, self at) refl
note_end zero s at b (Line false ∷ ls) cs h n = rw (line_bytes false, self at) refl
note_end (suc d) s at b (Line false ∷ ls) cs h n = rw (line_bytes false, self at) refl
note_end d s at b (Blank _ ∷ ls) cs h n = cc
note_end d s at b (Open ∷ ls) cs h n = cc
note_end d s at b (Close ∷ ls) cs h n = cc
note_end d s at b (Note _ ∷ ls) cs h n = cc
note_end d s at b (Word _ _ ∷ ls) cs h n = cc
note_end d s at b (Quote _ ∷ ls) cs h n = cc
