-- A text that splits is read with the same entries.
use Rattle.std.proofs.Common.{◌≡◌, ℕ, zero, suc, ◌+◌, ◌-◌, ◌*◌, ◌/◌, ◌%◌, ◌<◌, ◌≤◌, Bool, true, false, not, ◌&&◌, ◌||◌, ◌==◌, nat_le, List, [], ◌∷◌, ◌++◌, length, refl, sym, ap, ◌∙◌, subst}
use Rattle.std.proofs.Common.{arith, append_assoc, append-nil, inl, inr, ◌⊎◌, length-append}
use Rattle.std.specs.Prelude.{unwrap_or, Option, Some, None, option_map, option_and_then, encode_utf8, encode_utf8_all}
use Rattle.std.specs.List.{flat_map, list_all}
use Rattle.std.proofs.lemmas.Bool.{and_parts, eqb-true, cases_Bool, le-leb, not-true, and_from, ltb-true}
use Rattle.std.proofs.lemmas.Str.{encodes-append, length-encode, len_utf8_bounds, encodes_same}
use Rattle.dns_symbol.specs.declared.symbol.Symbol.{Symbol}
use Rattle.dns_symbol.specs.declared.symbol.Symbol.TheVariants.{Char, SimpleEscape, DecimalEscape}
use Rattle.dns_lexer.specs.declared.reader.Mode.{Mode}
use Rattle.dns_lexer.specs.declared.reader.Mode.TheVariants.{Outside, Quoted, Comment, Escape, OneDigit, TwoDigits}
use Rattle.dns_lexer.specs.declared.reader.Act.TheVariants.{EndToken, Add}
use Rattle.dns_lexer.specs.Lexeme.{Lexeme, Blank, Line, Open, Close, Note, Word, Quote, characters, lexeme_bytes, is_quote_symbol, is_quote_char, is_note_char}
use Rattle.dns_lexer.specs.Splitting.{Splits, may_precede, are_lexemes, nests, with_token, entries, Entries}
use Rattle.dns_symbol.specs.Symbol.{spell, is_word_symbol, is_word_char, is_readable, is_digit}
use Rattle.dns_lexer.specs.declared.reader.Kind.TheVariants.{Plain}
use Rattle.dns_lexer.specs.declared.reader.Move.{Move}
use Rattle.dns_lexer.specs.Reader.{kind, home, move_to, step, read, after, with_open}
use Rattle.dns_lexer.specs.declared.reader.Within.{Within}
use Rattle.dns_lexer.specs.declared.reader.Within.TheVariants.{InWord, InQuote}

-- a character without a part in the grammar
pub record IsPlain (c : ℕ) : Type 0 where
  pub kind_is : kind c ≡ Plain
  pub in_word : is_word_char c ≡ true
  pub in_quote : is_quote_char c ≡ true
  pub in_note : not (c == 10 || c == 13) ≡ true
  pub unescaped : (c == 92) ≡ false

-- one of those that have a part, or plain
pub data View : ℕ → Type 0 where
  v_space : View 32
  v_tab : View 9
  v_lf : View 10
  v_cr : View 13
  v_open : View 40
  v_close : View 41
  v_note : View 59
  v_quote : View 34
  v_escape : View 92
  v_plain : {c : ℕ} → IsPlain c → View c

pub is_at : (c n : ℕ) → View n → ((c == n) ≡ false → View c) → View c
is_at c n v other = elim (cases_Bool (c == n)) [ inl e ↦ subst View (sym (eqb-true c n e)) v | inr e ↦ other e ]

pub view : (c : ℕ) → View c
view c =
    is_at c 32 v_space λ e32. is_at c 9 v_tab λ e9. is_at c 10 v_lf λ e10. is_at c 13 v_cr λ e13. is_at c 40 v_open λ e40.
    is_at c 41 v_close λ e41. is_at c 59 v_note λ e59. is_at c 34 v_quote λ e34. is_at c 92 v_escape λ e92.
    v_plain (record {
      kind_is = simp (e32, e9, e10, e13, e40, e41, e59, e34, e92);
      in_word = simp (e32, e9, e10, e13, e40, e41, e59, e34);
      in_quote = simp (e34, e10, e13);
      in_note = simp (e10, e13);
      unescaped = e92;
    })

-- a symbol that may be in a quoted string, and in a word
abbrev pub allowed : Within → Symbol → Bool
allowed InQuote s = is_quote_symbol s
allowed InWord s = is_word_symbol s

pub char_step : (q : Within) (d c : ℕ) → View c → allowed q (Char c) ≡ true → step (home q) d c ≡ move_to (home q) d Add
char_step InQuote d _ (v_plain p) h = rw p.kind_is
char_step InWord d _ (v_plain p) h = rw p.kind_is
char_step InQuote d _ v_space h = refl
char_step InQuote d _ v_tab h = refl
char_step InQuote d _ v_open h = refl
char_step InQuote d _ v_close h = refl
char_step InQuote d _ v_note h = refl
char_step InQuote d _ v_lf h = cc
char_step InQuote d _ v_cr h = cc
char_step InQuote d _ v_quote h = cc
char_step InQuote d _ v_escape h = cc
char_step InWord d _ v_space h = cc
char_step InWord d _ v_tab h = cc
char_step InWord d _ v_lf h = cc
char_step InWord d _ v_cr h = cc
char_step InWord d _ v_open h = cc
char_step InWord d _ v_close h = cc
char_step InWord d _ v_note h = cc
char_step InWord d _ v_quote h = cc
char_step InWord d _ v_escape h = cc

-- a step that adds its character
pub add_read : (m m' : Mode) (d : ℕ) (t cs : List ℕ) (c : ℕ) → step m d c ≡ move_to m' d Add → read m d t (c ∷ cs) ≡ read m' d (t ++ encode_utf8 c) cs
add_read m m' d t cs c e = ap (option_and_then (λ (v : Move). after v.act c t (λ u. read v.mode v.depth u cs))) e

pub escape_step : (q : Within) (d : ℕ) → step (home q) d 92 ≡ move_to (Escape q) d Add
escape_step InQuote d = refl
escape_step InWord d = refl

pub simple_step : (q : Within) (d o : ℕ) → is_readable (SimpleEscape o) ≡ true → step (Escape q) d o ≡ move_to (home q) d Add
simple_step q d o h =
    let p = and_parts (nat_le 32 o && nat_le o 126) (not (is_digit o)) h in
    let other : is_digit o ≡ false = not-true (is_digit o) p.1 in
    let prints : (nat_le 32 o && nat_le o 126) ≡ true = p.0 in
    rw (other, prints)

digit_is : (x : ℕ) → x < 10 → is_digit (48 + x) ≡ true
digit_is x h = and_from _ _ (le-leb 48 (48 + x) (omega arith)) (le-leb (48 + x) 57 (omega arith))

pub first_step : (q : Within) (d x : ℕ) → x ≤ 2 → step (Escape q) d (48 + x) ≡ move_to (OneDigit q x) d Add
first_step q d x h =
    let e : 48 + x - 48 ≡ x = omega arith in
    rw (digit_is x (omega arith), le-leb (48 + x) 50 (omega arith), e)

pub second_step : (q : Within) (d n x : ℕ) → x < 10 → 10 * n + x ≤ 25 → step (OneDigit q n) d (48 + x) ≡ move_to (TwoDigits q (10 * n + x)) d Add
second_step q d n x small h =
    let e : 48 + x - 48 ≡ x = omega arith in
    rw (digit_is x small, e, le-leb (10 * n + x) 25 h)

pub third_step : (q : Within) (d n x : ℕ) → x < 10 → 10 * n + x ≤ 255 → step (TwoDigits q n) d (48 + x) ≡ move_to (home q) d Add
third_step q d n x small h =
    let e : 48 + x - 48 ≡ x = omega arith in
    rw (digit_is x small, e, le-leb (10 * n + x) 255 h)

pub simple_readable : (q : Within) (o : ℕ) → allowed q (SimpleEscape o) ≡ true → is_readable (SimpleEscape o) ≡ true
simple_readable InQuote o h = h
simple_readable InWord o h = h

pub decimal_small : (q : Within) (o : ℕ) → allowed q (DecimalEscape o) ≡ true → o < 256
decimal_small InQuote o h = ltb-true o 256 h
decimal_small InWord o h = ltb-true o 256 h

four : (t a b c d : List ℕ) → t ++ a ++ b ++ c ++ d ≡ t ++ (a ++ (b ++ (c ++ (d ++ []))))
four t a b c d = simp (append_assoc, append-nil)

-- a symbol of the open token
pub symbol_read : (q : Within) (d : ℕ) (t cs : List ℕ) (s : Symbol) → allowed q s ≡ true → read (home q) d t (spell s ++ cs) ≡ read (home q) d (t ++ encode_utf8_all (spell s)) cs
symbol_read q d t cs (Char c) h = add_read (home q) (home q) d t cs c (char_step q d c (view c) h) ∙ rw append-nil
symbol_read q d t cs (SimpleEscape o) h =
    add_read (home q) (Escape q) d t (o ∷ cs) 92 (escape_step q d)
    ∙ add_read (Escape q) (home q) d (t ++ encode_utf8 92) cs o (simple_step q d o (simple_readable q o h))
    ∙ ap (λ u. read (home q) d u cs) (simp (append_assoc, append-nil))
symbol_read q d t cs (DecimalEscape o) h =
    let small : o < 256 = decimal_small q o h in
    let a : ℕ = o / 100 in
    let b : ℕ = o / 10 % 10 in
    let e : ℕ = o % 10 in
    let t1 : List ℕ = t ++ encode_utf8 92 in
    let t2 : List ℕ = t1 ++ encode_utf8 (48 + a) in
    let t3 : List ℕ = t2 ++ encode_utf8 (48 + b) in
    add_read (home q) (Escape q) d t ((48 + a) ∷ (48 + b) ∷ (48 + e) ∷ cs) 92 (escape_step q d)
    ∙ add_read (Escape q) (OneDigit q a) d t1 ((48 + b) ∷ (48 + e) ∷ cs) (48 + a) (first_step q d a (omega arith))
    ∙ add_read (OneDigit q a) (TwoDigits q (10 * a + b)) d t2 ((48 + e) ∷ cs) (48 + b) (second_step q d a b (omega arith) (omega arith))
    ∙ add_read (TwoDigits q (10 * a + b)) (home q) d t3 cs (48 + e) (third_step q d (10 * a + b) e (omega arith) (omega arith))
    ∙ ap (λ u. read (home q) d u cs) (four t (encode_utf8 92) (encode_utf8 (48 + a)) (encode_utf8 (48 + b)) (encode_utf8 (48 + e)))

-- symbols of the open token
pub symbols_read : (q : Within) (d : ℕ) (t cs : List ℕ) (ss : List Symbol) → list_all (allowed q) ss ≡ true
    → read (home q) d t (flat_map spell ss ++ cs) ≡ read (home q) d (t ++ encode_utf8_all (flat_map spell ss)) cs
symbols_read q d t cs [] h = rw append-nil
symbols_read q d t cs (s ∷ ss) h =
    let p = and_parts (allowed q s) (list_all (allowed q) ss) h in
    ap (read (home q) d t) (append_assoc (spell s) (flat_map spell ss) cs)
    ∙ symbol_read q d t (flat_map spell ss ++ cs) s p.0
    ∙ symbols_read q d (t ++ encode_utf8_all (spell s)) cs ss p.1
    ∙ ap (λ u. read (home q) d u cs) (simp (encodes-append, append_assoc))

-- the characters of a comment
pub note_step : (d c : ℕ) → View c → is_note_char c ≡ true → step Comment d c ≡ move_to Comment d EndToken
note_step d _ (v_plain p) h = rw p.kind_is
note_step d _ v_lf h = cc
note_step d _ v_cr h = cc
note_step d _ v_space h = refl
note_step d _ v_tab h = refl
note_step d _ v_open h = refl
note_step d _ v_close h = refl
note_step d _ v_note h = refl
note_step d _ v_quote h = refl
note_step d _ v_escape h = refl

pub map_open_nil : (x : Option Entries) → option_map (with_open []) x ≡ x
map_open_nil None = refl
map_open_nil (Some e) = refl

pub note_read : (d : ℕ) (cs rest : List ℕ) → list_all is_note_char cs ≡ true → read Comment d [] (cs ++ rest) ≡ read Comment d [] rest
note_read d [] rest h = refl
note_read d (c ∷ cs) rest h =
    let p = and_parts (is_note_char c) (list_all is_note_char cs) h in
    ap (option_and_then (λ (v : Move). after v.act c [] (λ u. read v.mode v.depth u (cs ++ rest)))) (note_step d c (view c) p.0)
    ∙ map_open_nil (read Comment d [] (cs ++ rest))
    ∙ note_read d cs rest p.1

-- a comment is followed by nothing, or by a line end
note_end : (d : ℕ) (ls : List Lexeme) (cs : List ℕ) → may_precede (Note cs) ls ≡ true → nests d ls ≡ true → read Comment d [] (flat_map characters ls) ≡ read Outside d [] (flat_map characters ls)
note_end zero [] cs h n = refl
note_end (suc d) [] cs h n = cc
note_end d (Line true ∷ ls) cs h n = refl
note_end d (Line false ∷ ls) cs h n = refl
note_end d (Blank _ ∷ ls) cs h n = cc
note_end d (Open ∷ ls) cs h n = cc
note_end d (Close ∷ ls) cs h n = cc
note_end d (Note _ ∷ ls) cs h n = cc
note_end d (Word _ _ ∷ ls) cs h n = cc
note_end d (Quote _ ∷ ls) cs h n = cc

pub with_open_some : (t : List ℕ) (e : Entries) → 0 < length t → with_open t e ≡ with_token t e
with_open_some [] e h = absurd (omega arith)
with_open_some (b ∷ t) e h = refl

spell_some : (s : Symbol) → 0 < length (encode_utf8_all (spell s))
spell_some (Char c) = omega (arith, length-append (encode_utf8 c) [], length-encode c, (len_utf8_bounds c).0)
spell_some (SimpleEscape o) = omega (arith, length-append (encode_utf8 92) (encode_utf8_all (o ∷ [])), length-encode 92, (len_utf8_bounds 92).0)
spell_some (DecimalEscape o) = omega (arith, length-append (encode_utf8 92) (encode_utf8_all ((48 + o / 100) ∷ (48 + o / 10 % 10) ∷ (48 + o % 10) ∷ [])), length-encode 92, (len_utf8_bounds 92).0)

pub word_some : (s : Symbol) (ss : List Symbol) → 0 < length (lexeme_bytes (Word s ss))
word_some s ss = omega (arith, spell_some s, length-append (encode_utf8_all (spell s)) (encode_utf8_all (flat_map spell ss)), ap length (encodes-append (spell s) (flat_map spell ss)))

pub quote_some : (ss : List Symbol) → 0 < length (lexeme_bytes (Quote ss))
quote_some ss = omega (arith, length-append (encode_utf8 34) (encode_utf8_all (flat_map spell ss ++ 34 ∷ [])), length-encode 34, (len_utf8_bounds 34).0)

-- no word comes first
abbrev pub no_word : List Lexeme → Bool
no_word (Word _ _ ∷ _) = false
no_word _ = true

-- no token is open, or no word comes first
abbrev pub Apart : List ℕ → List Lexeme → Type 0
Apart t ls = (t ≡ []) ⊎ (no_word ls ≡ true)

open_clear : (e : Entries) (t : List ℕ) (ls : List Lexeme) → Apart t ls → no_word ls ≡ false → t ≡ []
open_clear e t ls (inl h) n = h
open_clear e t ls (inr h) n = cc

apart_word : (s : Symbol) (ss : List Symbol) (ls : List Lexeme) → may_precede (Word s ss) ls ≡ true → no_word ls ≡ true
apart_word s ss [] h = refl
apart_word s ss (Word _ _ ∷ ls) h = cc
apart_word s ss (Blank _ ∷ ls) h = refl
apart_word s ss (Line _ ∷ ls) h = refl
apart_word s ss (Open ∷ ls) h = refl
apart_word s ss (Close ∷ ls) h = refl
apart_word s ss (Note _ ∷ ls) h = refl
apart_word s ss (Quote _ ∷ ls) h = refl

-- a text of lexemes is read into their entries
pub lexemes_read : (ls : List Lexeme) (d : ℕ) (t : List ℕ) → are_lexemes ls ≡ true → nests d ls ≡ true → Apart t ls → read Outside d t (flat_map characters ls) ≡ Some (with_open t (entries d ls))
lexemes_read [] zero t v n a = refl
lexemes_read [] (suc d) t v n a = cc
lexemes_read (Blank true ∷ ls) d t v n a = ap (option_map (with_open t)) (lexemes_read ls d [] v n (inl refl))
lexemes_read (Blank false ∷ ls) d t v n a = ap (option_map (with_open t)) (lexemes_read ls d [] v n (inl refl))
lexemes_read (Line true ∷ ls) zero t v n a = ap (λ x. option_map (with_open t) (option_map (λ e. [] ∷ e) x)) (lexemes_read ls zero [] v n (inl refl))
lexemes_read (Line true ∷ ls) (suc d) t v n a = ap (λ x. option_map (with_open t) (option_map (λ e. e) x)) (lexemes_read ls (suc d) [] v n (inl refl))
lexemes_read (Line false ∷ ls) zero t v n a = ap (option_map (λ e. with_open t ([] ∷ e))) (lexemes_read ls zero [] v n (inl refl))
lexemes_read (Line false ∷ ls) (suc d) t v n a = ap (option_map (with_open t)) (lexemes_read ls (suc d) [] v n (inl refl))
lexemes_read (Open ∷ ls) d t v n a = ap (option_map (with_open t)) (lexemes_read ls (suc d) [] v n (inl refl))
lexemes_read (Close ∷ ls) zero t v n a = cc
lexemes_read (Close ∷ ls) (suc d) t v n a = ap (option_map (with_open t)) (lexemes_read ls d [] v n (inl refl))
lexemes_read (Note cs ∷ ls) d t v n a =
    let p = and_parts (list_all is_note_char cs && may_precede (Note cs) ls) (are_lexemes ls) v in
    let r = and_parts (list_all is_note_char cs) (may_precede (Note cs) ls) p.0 in
    ap (option_map (with_open t)) (note_read d cs (flat_map characters ls) r.0 ∙ note_end d ls cs r.1 n ∙ lexemes_read ls d [] p.1 n (inl refl))
lexemes_read (Word s ss ∷ ls) d t v n a =
    let p = and_parts (list_all is_word_symbol (s ∷ ss) && may_precede (Word s ss) ls) (are_lexemes ls) v in
    let r = and_parts (list_all is_word_symbol (s ∷ ss)) (may_precede (Word s ss) ls) p.0 in
    let e : t ≡ [] = open_clear [] t (Word s ss ∷ ls) a refl in
    rw e
    (symbols_read InWord d [] (flat_map characters ls) (s ∷ ss) r.0
    ∙ lexemes_read ls d (lexeme_bytes (Word s ss)) p.1 n (inr (apart_word s ss ls r.1))
    ∙ ap Some (with_open_some (lexeme_bytes (Word s ss)) (entries d ls) (word_some s ss)))
lexemes_read (Quote ss ∷ ls) d t v n a =
    let p = and_parts (list_all is_quote_symbol ss && true) (are_lexemes ls) v in
    let r = and_parts (list_all is_quote_symbol ss) true p.0 in
    let rest : List ℕ = flat_map characters ls in
    let body : List ℕ = encode_utf8_all (flat_map spell ss) in
    let token : encode_utf8 34 ++ body ++ encode_utf8 34 ≡ lexeme_bytes (Quote ss) = simp (encodes-append, append_assoc, append-nil) in
    ap (option_map (with_open t))
    (ap (read Quoted d (encode_utf8 34)) (append_assoc (flat_map spell ss) (34 ∷ []) rest)
    ∙ symbols_read InQuote d (encode_utf8 34) (34 ∷ rest) ss r.0
    ∙ ap (λ x. option_map (with_open (encode_utf8 34 ++ body ++ encode_utf8 34)) x) (lexemes_read ls d [] p.1 n (inl refl))
    ∙ ap (λ u. Some (with_open u (entries d ls))) token
    ∙ ap Some (with_open_some (lexeme_bytes (Quote ss)) (entries d ls) (quote_some ss)))

pub Some_same : {A : Type 0} {x y : A} → Some x ≡ Some y → x ≡ y
Some_same {x = x} e = ap (λ o. unwrap_or o x) e

pub bytes_all : (ls : List Lexeme) → flat_map lexeme_bytes ls ≡ encode_utf8_all (flat_map characters ls)
bytes_all [] = refl
bytes_all (l ∷ ls) = ap (λ x. lexeme_bytes l ++ x) (bytes_all ls) ∙ sym (encodes-append (characters l) (flat_map characters ls))

-- a text that splits is read so
pub splits_read : (cs : List ℕ) (text : List ℕ) (e : Entries) → encode_utf8_all cs ≡ text → Splits text e → read Outside 0 [] cs ≡ Some e
splits_read cs text e is s =
    let same : cs ≡ flat_map characters s.lexemes = encodes_same cs (flat_map characters s.lexemes) (is ∙ sym s.spelled ∙ bytes_all s.lexemes) in
    rw same (lexemes_read s.lexemes 0 [] s.valid s.nested (inl refl) ∙ ap Some s.cut)

-- a text splits in one way at most
pub one_way : (text : List ℕ) (e f : Entries) → Splits text e → Splits text f → e ≡ f
one_way text e f s r =
    let cs : List ℕ = flat_map characters s.lexemes in
    let is : encode_utf8_all cs ≡ text = sym (bytes_all s.lexemes) ∙ s.spelled in
    Some_same (sym (splits_read cs text e is s) ∙ splits_read cs text f is r)
