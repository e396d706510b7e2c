-- A text that is read splits into the same entries.
use Rattle.std.proofs.Common.{◌≡◌, ℕ, zero, suc, ◌+◌, ◌-◌, ◌*◌, ◌/◌, ◌%◌, ◌<◌, ◌≤◌, Bool, true, false, cond, ◌&&◌, nat_le, List, [], ◌∷◌, ◌++◌, refl, sym, ap, ◌∙◌, subst, arith, append_assoc}
use Rattle.std.proofs.Common.{append-nil, inl, inr, ◌⊎◌}
use Rattle.std.specs.Prelude.{Option, Some, None, option_map, option_and_then, encode_utf8, encode_utf8_all}
use Rattle.std.specs.List.{flat_map, list_all}
use Rattle.std.proofs.lemmas.Bool.{and_parts, cases_Bool, leb-true, lt-ltb, and_from, not_from_false}
use Rattle.std.proofs.lemmas.Str.{encodes-append}
use lib.Utf8.{scalar, scalars}
use Rattle.dns_symbol.specs.declared.symbol.Symbol.{Symbol}
use Rattle.dns_symbol.specs.declared.symbol.Symbol.TheVariants.{Char, SimpleEscape, DecimalEscape}
use Rattle.dns_lexer.specs.declared.reader.Mode.{Mode}
use Rattle.dns_lexer.specs.declared.reader.Mode.TheVariants.{Outside, Quoted, Comment, Return, Escape, OneDigit, TwoDigits}
use Rattle.dns_lexer.specs.declared.reader.Act.TheVariants.{Add}
use Rattle.dns_lexer.specs.Lexeme.{Lexeme, Blank, Line, Open, Close, Note, Word, Quote, characters, lexeme_bytes, is_quote_symbol, is_note_char}
use Rattle.dns_lexer.specs.Splitting.{Splits, may_precede, are_lexemes, nests, entries, Entries}
use Rattle.dns_symbol.specs.Symbol.{spell, is_word_symbol, is_readable, is_digit}
use Rattle.dns_lexer.specs.declared.reader.Move.{Move}
use Rattle.dns_lexer.specs.Reader.{home, move_to, read, after, with_open}
use Rattle.dns_lexer.proofs.Complete.{View, view, v_space, v_tab, v_lf, v_cr, v_open, v_close, v_note, v_quote, v_escape, v_plain, allowed, with_open_some, word_some, quote_some, no_word}
use Rattle.dns_lexer.proofs.Complete.{Some_same, bytes_all}
use Rattle.dns_lexer.specs.declared.reader.Within.{Within}
use Rattle.dns_lexer.specs.declared.reader.Within.TheVariants.{InWord, InQuote}

-- the text is lexemes with these entries
pub record Lexed (d : ℕ) (cs : List ℕ) (e : Entries) : Type 0 where
  pub ls : List Lexeme
  pub text : cs ≡ flat_map characters ls
  pub valid : are_lexemes ls ≡ true
  pub nested : nests d ls ≡ true
  pub is : e ≡ entries d ls

-- the text is the rest of a word, if any, and lexemes
pub record FromGap (d : ℕ) (t cs : List ℕ) (e : Entries) : Type 0 where
  pub ss : List Symbol
  pub ls : List Lexeme
  pub text : cs ≡ flat_map spell ss ++ flat_map characters ls
  pub symbols : list_all is_word_symbol ss ≡ true
  pub apart : no_word ls ≡ true
  pub valid : are_lexemes ls ≡ true
  pub nested : nests d ls ≡ true
  pub is : e ≡ with_open (t ++ encode_utf8_all (flat_map spell ss)) (entries d ls)

-- the rest of a quoted string, a double quote, and lexemes
pub record FromQuoted (d : ℕ) (t cs : List ℕ) (e : Entries) : Type 0 where
  pub ss : List Symbol
  pub ls : List Lexeme
  pub text : cs ≡ flat_map spell ss ++ (34 ∷ flat_map characters ls)
  pub symbols : list_all is_quote_symbol ss ≡ true
  pub valid : are_lexemes ls ≡ true
  pub nested : nests d ls ≡ true
  pub is : e ≡ with_open (t ++ (encode_utf8_all (flat_map spell ss) ++ encode_utf8 34)) (entries d ls)

pub record FromComment (d : ℕ) (t cs : List ℕ) (e : Entries) : Type 0 where
  pub left : List ℕ
  pub ls : List Lexeme
  pub text : cs ≡ left ++ flat_map characters ls
  pub note_chars : list_all is_note_char left ≡ true
  pub ends : may_precede (Note []) ls ≡ true
  pub valid : are_lexemes ls ≡ true
  pub nested : nests d ls ≡ true
  pub is : e ≡ with_open t (entries d ls)

pub record FromReturn (d : ℕ) (t cs : List ℕ) (e : Entries) : Type 0 where
  pub ls : List Lexeme
  pub text : cs ≡ 10 ∷ flat_map characters ls
  pub valid : are_lexemes ls ≡ true
  pub nested : nests d ls ≡ true
  pub is : e ≡ with_open t (entries d (Line false ∷ ls))

abbrev pub FromHome : Within → ℕ → List ℕ → List ℕ → Entries → Type 0
FromHome InQuote d t cs e = FromQuoted d t cs e
FromHome InWord d t cs e = FromGap d t cs e

pub record FromTwo (q : Within) (n d : ℕ) (t cs : List ℕ) (e : Entries) : Type 0 where
  pub x : ℕ
  pub rest : List ℕ
  pub digit : x < 10
  pub fits : 10 * n + x ≤ 255
  pub text : cs ≡ (48 + x) ∷ rest
  pub then : FromHome q d (t ++ encode_utf8 (48 + x)) rest e

pub record FromOne (q : Within) (n d : ℕ) (t cs : List ℕ) (e : Entries) : Type 0 where
  pub x : ℕ
  pub rest : List ℕ
  pub digit : x < 10
  pub fits : 10 * n + x ≤ 25
  pub text : cs ≡ (48 + x) ∷ rest
  pub then : FromTwo q (10 * n + x) d (t ++ encode_utf8 (48 + x)) rest e

pub record FromSimple (q : Within) (d : ℕ) (t cs : List ℕ) (e : Entries) : Type 0 where
  pub o : ℕ
  pub rest : List ℕ
  pub readable : is_readable (SimpleEscape o) ≡ true
  pub text : cs ≡ o ∷ rest
  pub then : FromHome q d (t ++ encode_utf8 o) rest e

pub record FromDigit (q : Within) (d : ℕ) (t cs : List ℕ) (e : Entries) : Type 0 where
  pub x : ℕ
  pub rest : List ℕ
  pub digit : x ≤ 2
  pub text : cs ≡ (48 + x) ∷ rest
  pub then : FromOne q x d (t ++ encode_utf8 (48 + x)) rest e

-- what the text is, if the machine has begun so
abbrev pub From : Mode → ℕ → List ℕ → List ℕ → Entries → Type 0
From Outside d t cs e = FromGap d t cs e
From Quoted d t cs e = FromQuoted d t cs e
From Comment d t cs e = FromComment d t cs e
From Return d t cs e = FromReturn d t cs e
From (Escape q) d t cs e = FromSimple q d t cs e ⊎ FromDigit q d t cs e
From (OneDigit q n) d t cs e = FromOne q n d t cs e
From (TwoDigits q n) d t cs e = FromTwo q n d t cs e

word_follows : (s : Symbol) (ss : List Symbol) (ls : List Lexeme) → no_word ls ≡ true → may_precede (Word s ss) ls ≡ true
word_follows s ss [] h = refl
word_follows s ss (Word _ _ ∷ ls) h = cc
word_follows s ss (Blank _ ∷ ls) h = refl
word_follows s ss (Line _ ∷ ls) h = refl
word_follows s ss (Open ∷ ls) h = refl
word_follows s ss (Close ∷ ls) h = refl
word_follows s ss (Note _ ∷ ls) h = refl
word_follows s ss (Quote _ ∷ ls) h = refl

lexed_with : (d : ℕ) (cs : List ℕ) (e : Entries) (ss : List Symbol) (ls : List Lexeme) → cs ≡ flat_map spell ss ++ flat_map characters ls → list_all is_word_symbol ss ≡ true
    → no_word ls ≡ true → are_lexemes ls ≡ true → nests d ls ≡ true → e ≡ with_open (encode_utf8_all (flat_map spell ss)) (entries d ls) → Lexed d cs e
lexed_with d cs e [] ls text symbols apart valid nested is = record { ls = ls; text = text; valid = valid; nested = nested; is = is }
lexed_with d cs e (s ∷ ss) ls text symbols apart valid nested is = record {
  ls = Word s ss ∷ ls;
  text = text;
  valid = and_from _ _ (and_from _ _ symbols (word_follows s ss ls apart)) valid;
  nested = nested;
  is = is ∙ with_open_some (lexeme_bytes (Word s ss)) (entries d ls) (word_some s ss);
}

-- from the start of a token on, the text is lexemes
pub lexed : (d : ℕ) (cs : List ℕ) (e : Entries) → FromGap d [] cs e → Lexed d cs e
lexed d cs e g = lexed_with d cs e g.ss g.ls g.text g.symbols g.apart g.valid g.nested g.is

-- lexemes without a word first end the open token
gap_of : (d : ℕ) (t cs : List ℕ) (e : Entries) (ls : List Lexeme) → cs ≡ flat_map characters ls → no_word ls ≡ true → are_lexemes ls ≡ true → nests d ls ≡ true → e ≡ with_open t (entries d ls)
    → FromGap d t cs e
gap_of d t cs e ls text apart valid nested is = record {
  ss = [];
  ls = ls;
  text = text;
  symbols = refl;
  apart = apart;
  valid = valid;
  nested = nested;
  is = is ∙ ap (λ u. with_open u (entries d ls)) (sym (append-nil t));
}

-- one more symbol before
symbol_before : (q : Within) (d : ℕ) (t rest : List ℕ) (s : Symbol) (e : Entries) → allowed q s ≡ true → FromHome q d (t ++ encode_utf8_all (spell s)) rest e → FromHome q d t (spell s ++ rest) e
symbol_before InQuote d t rest s e ok f = record {
  ss = s ∷ f.ss;
  ls = f.ls;
  text = ap (λ x. spell s ++ x) f.text ∙ sym (append_assoc (spell s) (flat_map spell f.ss) (34 ∷ flat_map characters f.ls));
  symbols = and_from (is_quote_symbol s) (list_all is_quote_symbol f.ss) ok f.symbols;
  valid = f.valid;
  nested = f.nested;
  is = f.is ∙ ap (λ u. with_open u (entries d f.ls)) (longer t (encode_utf8_all (spell s)) (encode_utf8_all (flat_map spell f.ss)) (encode_utf8_all (spell s ++ flat_map spell f.ss))
      (encode_utf8 34) (encodes-append (spell s) (flat_map spell f.ss)));
}
  where
    longer : (t a b ab c : List ℕ) → ab ≡ a ++ b → t ++ a ++ (b ++ c) ≡ t ++ (ab ++ c)
    longer t a b ab c h = simp (h, append_assoc)
symbol_before InWord d t rest s e ok f = record {
  ss = s ∷ f.ss;
  ls = f.ls;
  text = ap (λ x. spell s ++ x) f.text ∙ sym (append_assoc (spell s) (flat_map spell f.ss) (flat_map characters f.ls));
  symbols = and_from (is_word_symbol s) (list_all is_word_symbol f.ss) ok f.symbols;
  apart = f.apart;
  valid = f.valid;
  nested = f.nested;
  is = f.is ∙ ap (λ u. with_open u (entries d f.ls)) (append_assoc t (encode_utf8_all (spell s)) (encode_utf8_all (flat_map spell f.ss))
      ∙ ap (λ u. t ++ u) (sym (encodes-append (spell s) (flat_map spell f.ss))));
}

char_before : (q : Within) (d : ℕ) (t rest : List ℕ) (c : ℕ) (e : Entries) → allowed q (Char c) ≡ true → FromHome q d (t ++ encode_utf8 c) rest e → FromHome q d t (c ∷ rest) e
char_before q d t rest c e ok f = symbol_before q d t rest (Char c) e ok (subst (λ u. FromHome q d (t ++ u) rest e) (sym (append-nil (encode_utf8 c))) f)

escape_allowed : (q : Within) (o : ℕ) → is_readable (SimpleEscape o) ≡ true → allowed q (SimpleEscape o) ≡ true
escape_allowed InQuote o h = h
escape_allowed InWord o h = h

decimal_allowed : (q : Within) (o : ℕ) → o < 256 → allowed q (DecimalEscape o) ≡ true
decimal_allowed InQuote o h = lt-ltb o 256 h
decimal_allowed InWord o h = lt-ltb o 256 h

simple_before : (q : Within) (d : ℕ) (t cs : List ℕ) (e : Entries) → FromSimple q d (t ++ encode_utf8 92) cs e → FromHome q d t (92 ∷ cs) e
simple_before q d t cs e f =
    let same : t ++ encode_utf8 92 ++ encode_utf8 f.o ≡ t ++ (encode_utf8 92 ++ (encode_utf8 f.o ++ [])) = simp (append_assoc, append-nil) in
    subst (λ x. FromHome q d t (92 ∷ x) e) (sym f.text)
    (symbol_before q d t f.rest (SimpleEscape f.o) e (escape_allowed q f.o f.readable) (subst (λ u. FromHome q d u f.rest e) same f.then))

four : (t a b c d : List ℕ) → t ++ a ++ b ++ c ++ d ≡ t ++ (a ++ (b ++ (c ++ (d ++ []))))
four t a b c d = simp (append_assoc, append-nil)

decimal_spelled : (a b c : ℕ) → b < 10 → c < 10 → spell (DecimalEscape (10 * (10 * a + b) + c)) ≡ 92 ∷ (48 + a) ∷ (48 + b) ∷ (48 + c) ∷ []
decimal_spelled a b c small less =
    let x : (10 * (10 * a + b) + c) / 100 ≡ a = omega arith in
    let y : (10 * (10 * a + b) + c) / 10 % 10 ≡ b = omega arith in
    let z : (10 * (10 * a + b) + c) % 10 ≡ c = omega arith in
    simp (x, y, z)

digits_before : (q : Within) (d : ℕ) (t cs : List ℕ) (e : Entries) → FromDigit q d (t ++ encode_utf8 92) cs e → FromHome q d t (92 ∷ cs) e
digits_before q d t cs e f =
    let one = f.then in
    let two = one.then in
    let s : Symbol = DecimalEscape (10 * (10 * f.x + one.x) + two.x) in
    let spelled : spell s ≡ 92 ∷ (48 + f.x) ∷ (48 + one.x) ∷ (48 + two.x) ∷ [] = decimal_spelled f.x one.x two.x one.digit two.digit in
    let whole : cs ≡ (48 + f.x) ∷ (48 + one.x) ∷ (48 + two.x) ∷ two.rest = f.text ∙ ap (λ r. (48 + f.x) ∷ r) one.text ∙ ap (λ r. (48 + f.x) ∷ (48 + one.x) ∷ r) two.text in
    let same : t ++ encode_utf8 92 ++ encode_utf8 (48 + f.x) ++ encode_utf8 (48 + one.x) ++ encode_utf8 (48 + two.x) ≡ t ++ encode_utf8_all (spell s) = four t _ _ _ _
    ∙ ap (λ l. t ++ encode_utf8_all l) (sym spelled) in
    subst (λ x. FromHome q d t x e) (ap (λ l. l ++ two.rest) spelled ∙ ap (λ x. 92 ∷ x) (sym whole))
    (symbol_before q d t two.rest s e (decimal_allowed q _ (omega (arith, two.fits))) (subst (λ u. FromHome q d u two.rest e) same two.then))

escape_before : (q : Within) (d : ℕ) (t cs : List ℕ) (e : Entries) → From (Escape q) d (t ++ encode_utf8 92) cs e → FromHome q d t (92 ∷ cs) e
escape_before q d t cs e (inl f) = simple_before q d t cs e f
escape_before q d t cs e (inr f) = digits_before q d t cs e f

pub map_some : {A B : Type 0} (f : A → B) (x : Option A) (z : B) → option_map f x ≡ Some z → (y : A) × (x ≡ Some y) × (z ≡ f y)
map_some f None z e = cc
map_some f (Some y) z e = (y, refl, sym (Some_same e))

pub cond_some : {A B : Type 0} (k : A → Option B) (b : Bool) (x : Option A) (z : B) → option_and_then k (cond b x None) ≡ Some z → (b ≡ true) × (option_and_then k x ≡ Some z)
cond_some k true x z e = (refl, e)
cond_some k false x z e = cc

-- the end of the text
end_sound : (m : Mode) (d : ℕ) (t : List ℕ) (e : Entries) → read m d t [] ≡ Some e → From m d t [] e
end_sound Outside zero t e h = gap_of zero t [] e [] refl refl refl refl (sym (Some_same h))
end_sound Comment zero t e h = record { left = []; ls = []; text = refl; note_chars = refl; ends = refl; valid = refl; nested = refl; is = sym (Some_same h) }
end_sound Outside (suc d) t e h = cc
end_sound Comment (suc d) t e h = cc
end_sound Quoted d t e h = cc
end_sound Return d t e h = cc
end_sound (Escape q) d t e h = cc
end_sound (OneDigit q n) d t e h = cc
end_sound (TwoDigits q n) d t e h = cc

-- the reader is right of a text
abbrev pub Right : List ℕ → Type 0
Right cs = (m : Mode) (d : ℕ) (t : List ℕ) (e : Entries) → read m d t cs ≡ Some e → From m d t cs e

line_same : (d : ℕ) (ls : List Lexeme) → entries d (Line false ∷ ls) ≡ entries d (Line true ∷ ls)
line_same zero ls = refl
line_same (suc d) ls = refl

-- after a flushed token
flushed : (d : ℕ) (t cs : List ℕ) (e : Entries) → Right cs → option_map (with_open t) (read Outside d [] cs) ≡ Some e → (y : Entries) × Lexed d cs y × (e ≡ with_open t y)
flushed d t cs e ih h = let p = map_some (with_open t) (read Outside d [] cs) e h in (p.0, lexed d cs p.0 (ih Outside d [] p.0 p.1), p.2)

-- at a line's end
lined : (d : ℕ) (t cs : List ℕ) (e : Entries) → Right cs → read Outside d t (10 ∷ cs) ≡ Some e → FromReturn d t (10 ∷ cs) e
lined zero t cs e ih h =
    let p = map_some (λ (x : Entries). with_open t ([] ∷ x)) (read Outside zero [] cs) e h in
    let l = lexed zero cs p.0 (ih Outside zero [] p.0 p.1) in
    record { ls = l.ls; text = ap (λ x. 10 ∷ x) l.text; valid = l.valid; nested = l.nested; is = p.2 ∙ ap (λ (x : Entries). with_open t ([] ∷ x)) l.is }
lined (suc d) t cs e ih h =
    let p = flushed (suc d) t cs e ih h in
    let l = p.1 in
    record { ls = l.ls; text = ap (λ x. 10 ∷ x) l.text; valid = l.valid; nested = l.nested; is = p.2 ∙ ap (with_open t) l.is }

quoted_same : (t body : List ℕ) → t ++ encode_utf8 34 ≡ t ++ ([] ++ encode_utf8 34)
quoted_same t body = refl

gap_sound : (c : ℕ) → View c → (cs : List ℕ) → Right cs → scalar c ≡ true → (d : ℕ) (t : List ℕ) (e : Entries) → read Outside d t (c ∷ cs) ≡ Some e → FromGap d t (c ∷ cs) e
gap_sound _ v_space cs ih ok d t e h =
    let p = flushed d t cs e ih h in
    let l = p.1 in
    gap_of d t _ e (Blank false ∷ l.ls) (ap (λ x. 32 ∷ x) l.text) refl l.valid l.nested (p.2 ∙ ap (with_open t) l.is)
gap_sound _ v_tab cs ih ok d t e h =
    let p = flushed d t cs e ih h in
    let l = p.1 in
    gap_of d t _ e (Blank true ∷ l.ls) (ap (λ x. 9 ∷ x) l.text) refl l.valid l.nested (p.2 ∙ ap (with_open t) l.is)
gap_sound _ v_lf cs ih ok d t e h =
    let l = lined d t cs e ih h in
    gap_of d t _ e (Line false ∷ l.ls) l.text refl l.valid l.nested l.is
gap_sound _ v_cr cs ih ok d t e h =
    let p = map_some (with_open t) (read Return d [] cs) e h in
    let l = ih Return d [] p.0 p.1 in
    gap_of d t _ e (Line true ∷ l.ls) (ap (λ x. 13 ∷ x) l.text) refl l.valid l.nested (p.2 ∙ ap (with_open t) (l.is ∙ line_same d l.ls))
gap_sound _ v_open cs ih ok d t e h =
    let p = flushed (suc d) t cs e ih h in
    let l = p.1 in
    gap_of d t _ e (Open ∷ l.ls) (ap (λ x. 40 ∷ x) l.text) refl l.valid l.nested (p.2 ∙ ap (with_open t) l.is)
gap_sound _ v_close cs ih ok zero t e h = cc
gap_sound _ v_close cs ih ok (suc d) t e h =
    let p = flushed d t cs e ih h in
    let l = p.1 in
    gap_of (suc d) t _ e (Close ∷ l.ls) (ap (λ x. 41 ∷ x) l.text) refl l.valid l.nested (p.2 ∙ ap (with_open t) l.is)
gap_sound _ v_note cs ih ok d t e h =
    let p = map_some (with_open t) (read Comment d [] cs) e h in
    let l = ih Comment d [] p.0 p.1 in
    gap_of d t _ e (Note l.left ∷ l.ls) (ap (λ x. 59 ∷ x) l.text) refl (and_from _ _ (and_from _ _ l.note_chars (note_follows l.left l.ls l.ends)) l.valid) l.nested (p.2 ∙ ap (with_open t) l.is)
  where
    note_follows : (n : List ℕ) (ls : List Lexeme) → may_precede (Note []) ls ≡ true → may_precede (Note n) ls ≡ true
    note_follows n [] h = refl
    note_follows n (Line _ ∷ ls) h = refl
    note_follows n (Blank _ ∷ ls) h = cc
    note_follows n (Open ∷ ls) h = cc
    note_follows n (Close ∷ ls) h = cc
    note_follows n (Note _ ∷ ls) h = cc
    note_follows n (Word _ _ ∷ ls) h = cc
    note_follows n (Quote _ ∷ ls) h = cc
gap_sound _ v_quote cs ih ok d t e h =
    let p = map_some (with_open t) (read Quoted d (encode_utf8 34) cs) e h in
    let l = ih Quoted d (encode_utf8 34) p.0 p.1 in
    let token : encode_utf8 34 ++ (encode_utf8_all (flat_map spell l.ss) ++ encode_utf8 34) ≡ lexeme_bytes (Quote l.ss) = simp (encodes-append, append-nil) in
    gap_of d t _ e (Quote l.ss ∷ l.ls) (ap (λ x. 34 ∷ x) (l.text ∙ sym (append_assoc (flat_map spell l.ss) (34 ∷ []) (flat_map characters l.ls)))) refl
    (and_from _ _ (and_from _ _ l.symbols refl) l.valid) l.nested
    (p.2 ∙ ap (with_open t) (l.is ∙ ap (λ u. with_open u (entries d l.ls)) token ∙ with_open_some (lexeme_bytes (Quote l.ss)) (entries d l.ls) (quote_some l.ss)))
gap_sound _ v_escape cs ih ok d t e h = escape_before InWord d t cs e (ih (Escape InWord) d (t ++ encode_utf8 92) e h)
gap_sound c (v_plain p) cs ih ok d t e h =
    char_before InWord d t cs c e (and_from _ _ p.in_word (and_from _ _ ok (not_from_false _ p.unescaped))) (ih Outside d (t ++ encode_utf8 c) e (rw p.kind_is at h))

quoted_sound : (c : ℕ) → View c → (cs : List ℕ) → Right cs → scalar c ≡ true → (d : ℕ) (t : List ℕ) (e : Entries) → read Quoted d t (c ∷ cs) ≡ Some e → FromQuoted d t (c ∷ cs) e
quoted_sound _ v_lf cs ih ok d t e h = cc
quoted_sound _ v_cr cs ih ok d t e h = cc
quoted_sound _ v_quote cs ih ok d t e h =
    let p = flushed d (t ++ encode_utf8 34) cs e ih h in
    let l = p.1 in
    record { ss = []; ls = l.ls; text = ap (λ x. 34 ∷ x) l.text; symbols = refl; valid = l.valid; nested = l.nested; is = p.2 ∙ ap (with_open (t ++ encode_utf8 34)) l.is }
quoted_sound _ v_escape cs ih ok d t e h = escape_before InQuote d t cs e (ih (Escape InQuote) d (t ++ encode_utf8 92) e h)
quoted_sound _ v_space cs ih ok d t e h = char_before InQuote d t cs 32 e refl (ih Quoted d (t ++ encode_utf8 32) e h)
quoted_sound _ v_tab cs ih ok d t e h = char_before InQuote d t cs 9 e refl (ih Quoted d (t ++ encode_utf8 9) e h)
quoted_sound _ v_open cs ih ok d t e h = char_before InQuote d t cs 40 e refl (ih Quoted d (t ++ encode_utf8 40) e h)
quoted_sound _ v_close cs ih ok d t e h = char_before InQuote d t cs 41 e refl (ih Quoted d (t ++ encode_utf8 41) e h)
quoted_sound _ v_note cs ih ok d t e h = char_before InQuote d t cs 59 e refl (ih Quoted d (t ++ encode_utf8 59) e h)
quoted_sound c (v_plain p) cs ih ok d t e h =
    char_before InQuote d t cs c e (and_from _ _ p.in_quote (and_from _ _ ok (not_from_false _ p.unescaped))) (ih Quoted d (t ++ encode_utf8 c) e (rw p.kind_is at h))

-- one more character of a comment
note_before : (d : ℕ) (t cs : List ℕ) (c : ℕ) (e : Entries) → is_note_char c ≡ true → Right cs → option_map (with_open t) (read Comment d [] cs) ≡ Some e → FromComment d t (c ∷ cs) e
note_before d t cs c e ok ih h =
    let p = map_some (with_open t) (read Comment d [] cs) e h in
    let l = ih Comment d [] p.0 p.1 in
    record {
      left = c ∷ l.left;
      ls = l.ls;
      text = ap (λ x. c ∷ x) l.text;
      note_chars = and_from _ _ ok l.note_chars;
      ends = l.ends;
      valid = l.valid;
      nested = l.nested;
      is = p.2
          ∙ ap (with_open t) l.is;
    }

comment_sound : (c : ℕ) → View c → (cs : List ℕ) → Right cs → scalar c ≡ true → (d : ℕ) (t : List ℕ) (e : Entries) → read Comment d t (c ∷ cs) ≡ Some e → FromComment d t (c ∷ cs) e
comment_sound _ v_lf cs ih ok d t e h =
    let l = lined d t cs e ih h in
    record { left = []; ls = Line false ∷ l.ls; text = l.text; note_chars = refl; ends = refl; valid = l.valid; nested = l.nested; is = l.is }
comment_sound _ v_cr cs ih ok d t e h =
    let p = map_some (with_open t) (read Return d [] cs) e h in
    let l = ih Return d [] p.0 p.1 in
    record {
      left = [];
      ls = Line true ∷ l.ls;
      text = ap (λ x. 13 ∷ x) l.text;
      note_chars = refl;
      ends = refl;
      valid = l.valid;
      nested = l.nested;
      is = p.2
          ∙ ap (with_open t) (l.is ∙ line_same d l.ls);
    }
comment_sound _ v_space cs ih ok d t e h = note_before d t cs 32 e refl ih h
comment_sound _ v_tab cs ih ok d t e h = note_before d t cs 9 e refl ih h
comment_sound _ v_open cs ih ok d t e h = note_before d t cs 40 e refl ih h
comment_sound _ v_close cs ih ok d t e h = note_before d t cs 41 e refl ih h
comment_sound _ v_note cs ih ok d t e h = note_before d t cs 59 e refl ih h
comment_sound _ v_quote cs ih ok d t e h = note_before d t cs 34 e refl ih h
comment_sound _ v_escape cs ih ok d t e h = note_before d t cs 92 e refl ih h
comment_sound c (v_plain p) cs ih ok d t e h = note_before d t cs c e (and_from _ _ ok p.in_note) ih (rw p.kind_is at h)

return_sound : (c : ℕ) → View c → (cs : List ℕ) → Right cs → (d : ℕ) (t : List ℕ) (e : Entries) → read Return d t (c ∷ cs) ≡ Some e → FromReturn d t (c ∷ cs) e
return_sound _ v_lf cs ih d t e h = lined d t cs e ih h
return_sound _ v_space cs ih d t e h = cc
return_sound _ v_tab cs ih d t e h = cc
return_sound _ v_cr cs ih d t e h = cc
return_sound _ v_open cs ih d t e h = cc
return_sound _ v_close cs ih d t e h = cc
return_sound _ v_note cs ih d t e h = cc
return_sound _ v_quote cs ih d t e h = cc
return_sound _ v_escape cs ih d t e h = cc
return_sound c (v_plain p) cs ih d t e h = let no : None ≡ Some e = rw p.kind_is at h in cc

home_right : (cs : List ℕ) → Right cs → (q : Within) (d : ℕ) (t : List ℕ) (e : Entries) → read (home q) d t cs ≡ Some e → FromHome q d t cs e
home_right cs ih InQuote d t e h = ih Quoted d t e h
home_right cs ih InWord d t e h = ih Outside d t e h

-- a digit is 48 and its value
digit_value_of : (c : ℕ) → is_digit c ≡ true → (x : ℕ) × (c ≡ 48 + x) × (x < 10)
digit_value_of c h =
    let p = and_parts (nat_le 48 c) (nat_le c 57) h in
    let low : 48 ≤ c = leb-true 48 c p.0 in
    let high : c ≤ 57 = leb-true c 57 p.1 in
    (c - 48, omega arith, omega arith)

two_sound : (c : ℕ) (cs : List ℕ) → Right cs → (q : Within) (n d : ℕ) (t : List ℕ) (e : Entries) → read (TwoDigits q n) d t (c ∷ cs) ≡ Some e → FromTwo q n d t (c ∷ cs) e
two_sound c cs ih q n d t e h =
    let p = cond_some (λ (v : Move). after v.act c t (λ u. read v.mode v.depth u cs)) (is_digit c && nat_le (10 * n + (c - 48)) 255) (move_to (home q) d Add) e h in
    let r = and_parts (is_digit c) (nat_le (10 * n + (c - 48)) 255) p.0 in
    let v = digit_value_of c r.0 in
    let fits : 10 * n + (c - 48) ≤ 255 = leb-true _ _ r.1 in
    let is : c ≡ 48 + v.0 = v.1 in
    record {
      x = v.0;
      rest = cs;
      digit = v.2;
      fits = omega arith;
      text = ap (λ x. x ∷ cs) is;
      then = subst (λ x. FromHome q d (t ++ encode_utf8 x) cs e) is (home_right cs ih q d (t ++ encode_utf8 c) e p.1);
    }

one_sound : (c : ℕ) (cs : List ℕ) → Right cs → (q : Within) (n d : ℕ) (t : List ℕ) (e : Entries) → read (OneDigit q n) d t (c ∷ cs) ≡ Some e → FromOne q n d t (c ∷ cs) e
one_sound c cs ih q n d t e h =
    let p = cond_some (λ (v : Move). after v.act c t (λ u. read v.mode v.depth u cs)) (is_digit c && nat_le (10 * n + (c - 48)) 25) (move_to (TwoDigits q (10 * n + (c - 48))) d Add) e h in
    let r = and_parts (is_digit c) (nat_le (10 * n + (c - 48)) 25) p.0 in
    let v = digit_value_of c r.0 in
    let fits : 10 * n + (c - 48) ≤ 25 = leb-true _ _ r.1 in
    let is : c ≡ 48 + v.0 = v.1 in
    let value : c - 48 ≡ v.0 = omega arith in
    record {
      x = v.0;
      rest = cs;
      digit = v.2;
      fits = omega arith;
      text = ap (λ x. x ∷ cs) is;
      then = subst (λ x. FromTwo q (10 * n + v.0) d (t ++ encode_utf8 x) cs e) is
          (subst (λ x. FromTwo q (10 * n + x) d (t ++ encode_utf8 c) cs e) value (ih (TwoDigits q (10 * n + (c - 48))) d (t ++ encode_utf8 c) e p.1));
    }

begun_sound : (c : ℕ) (cs : List ℕ) → Right cs → (q : Within) (d : ℕ) (t : List ℕ) (e : Entries) → read (Escape q) d t (c ∷ cs) ≡ Some e → FromSimple q d t (c ∷ cs) e ⊎ FromDigit q d t (c ∷ cs) e
begun_sound c cs ih q d t e h = elim (cases_Bool (is_digit c)) [
  | inl yes_digit ↦
      let p = cond_some k (nat_le c 50) (move_to (OneDigit q (c - 48)) d Add) e
      (subst (λ b. option_and_then k (cond b (cond (nat_le c 50) (move_to (OneDigit q (c - 48)) d Add) None)
      (cond (nat_le 32 c && nat_le c 126) (move_to (home q) d Add) None)) ≡ Some e) yes_digit h) in
      let v = digit_value_of c yes_digit in
      let is : c ≡ 48 + v.0 = v.1 in
      let low : c ≤ 50 = leb-true c 50 p.0 in
      let value : c - 48 ≡ v.0 = omega arith in
      inr (record {
        x = v.0;
        rest = cs;
        digit = omega arith;
        text = ap (λ x. x ∷ cs) is;
        then = subst (λ x. FromOne q v.0 d (t ++ encode_utf8 x) cs e) is (subst (λ x. FromOne q x d (t ++ encode_utf8 c) cs e) value (ih (OneDigit q (c - 48)) d (t ++ encode_utf8 c) e p.1));
      })
  | inr no_digit ↦
      let p = cond_some k (nat_le 32 c && nat_le c 126) (move_to (home q) d Add) e
      (subst (λ b. option_and_then k (cond b (cond (nat_le c 50) (move_to (OneDigit q (c - 48)) d Add) None)
      (cond (nat_le 32 c && nat_le c 126) (move_to (home q) d Add) None)) ≡ Some e) no_digit h) in
      inl (record {
        o = c;
        rest = cs;
        readable = and_from _ _ p.0 (not_from_false _ no_digit);
        text = refl;
        then = home_right cs ih q d (t ++ encode_utf8 c) e p.1;
      })
]
  where
    k : Move → Option Entries
    k v = after v.act c t (λ u. read v.mode v.depth u cs)

step_sound : (c : ℕ) (cs : List ℕ) → Right cs → scalar c ≡ true → Right (c ∷ cs)
step_sound c cs ih ok Outside d t e h = gap_sound c (view c) cs ih ok d t e h
step_sound c cs ih ok Quoted d t e h = quoted_sound c (view c) cs ih ok d t e h
step_sound c cs ih ok Comment d t e h = comment_sound c (view c) cs ih ok d t e h
step_sound c cs ih ok Return d t e h = return_sound c (view c) cs ih d t e h
step_sound c cs ih ok (Escape q) d t e h = begun_sound c cs ih q d t e h
step_sound c cs ih ok (OneDigit q n) d t e h = one_sound c cs ih q n d t e h
step_sound c cs ih ok (TwoDigits q n) d t e h = two_sound c cs ih q n d t e h

-- the reader is right of every text
pub sound : (cs : List ℕ) → scalars cs ≡ true → Right cs
sound [] ok = end_sound
sound (c ∷ cs) ok = let p = and_parts (scalar c) (scalars cs) ok in step_sound c cs (sound cs p.1) p.0

-- what is read splits so
pub read_splits : (cs : List ℕ) (e : Entries) → scalars cs ≡ true → read Outside 0 [] cs ≡ Some e → Splits (encode_utf8_all cs) e
read_splits cs e ok h =
    let l = lexed 0 cs e (sound cs ok Outside 0 [] e h) in
    record { lexemes = l.ls; spelled = bytes_all l.ls ∙ ap encode_utf8_all (sym l.text); valid = l.valid; nested = l.nested; cut = sym l.is }
