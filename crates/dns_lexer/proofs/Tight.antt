-- Every list of lexemes of a text has blanks in the same places.
use Rattle.std.proofs.Common.{◌≡◌, ℕ, zero, suc, ◌+◌, ◌*◌, ◌/◌, ◌%◌, ◌<◌, Bool, true, false, not, ◌&&◌, List, [], ◌∷◌, ◌++◌, refl, sym, ap, ◌∙◌, arith, append_assoc}
use Rattle.std.specs.Prelude.{option_map, unwrap_or}
use Rattle.std.specs.List.{flat_map, list_all}
use Rattle.std.proofs.lemmas.Bool.{and_parts}
use Rattle.std.proofs.lemmas.Str.{encodes_same}
use Rattle.dns_symbol.specs.declared.symbol.Symbol.{Symbol}
use Rattle.dns_symbol.specs.declared.symbol.Symbol.TheVariants.{Char, SimpleEscape, DecimalEscape}
use Rattle.dns_lexer.specs.declared.reader.Mode.{Mode}
use Rattle.dns_lexer.specs.declared.reader.Mode.TheVariants.{Outside, Quoted, Comment, Escape, OneDigit, TwoDigits}
use Rattle.dns_lexer.specs.declared.reader.Act.{Act}
use Rattle.dns_lexer.specs.declared.reader.Act.TheVariants.{EndToken, EndEntry, Add}
use Rattle.dns_lexer.specs.declared.reader.Kind.{Kind}
use Rattle.dns_lexer.specs.declared.reader.Kind.TheVariants.{White}
use Rattle.dns_lexer.specs.declared.reader.Move.{Move}
use Rattle.dns_lexer.specs.Lexeme.{Lexeme, Blank, Line, Open, Close, Note, Word, Quote, characters, lexeme_bytes, is_quote_symbol, is_note_char}
use Rattle.dns_lexer.specs.Splitting.{BeginsNoBlank, may_precede, are_lexemes, nests, is_tight}
use Rattle.dns_symbol.specs.Symbol.{spell, is_word_symbol}
use Rattle.dns_lexer.specs.Reader.{kind, home, step, move_to}
use Rattle.dns_lexer.proofs.Complete.{View, view, v_space, v_tab, v_lf, v_cr, v_open, v_close, v_note, v_quote, v_escape, v_plain, allowed, char_step, escape_step, simple_step, first_step}
use Rattle.dns_lexer.proofs.Complete.{second_step, third_step, simple_readable, decimal_small, note_step, bytes_all}
use Rattle.dns_lexer.specs.declared.reader.Within.{Within}
use Rattle.dns_lexer.specs.declared.reader.Within.TheVariants.{InWord, InQuote}

abbrev is_cut : Act → Bool
is_cut EndEntry = true
is_cut _ = false

abbrev is_blank : Kind → Bool
is_blank White = true
is_blank _ = false

-- the reader meets no blank at the start, if starts, and after a line's end
abbrev tight : Bool → Mode → ℕ → List ℕ → Bool
tight starts m d [] = true
tight starts m d (c ∷ cs) = not (is_blank (kind c) && starts) && unwrap_or (option_map (λ (v : Move). tight (is_cut v.act) v.mode v.depth cs) (step m d c)) true

no_blank : (k : Kind) → not (is_blank k && false) ≡ true
no_blank White = refl
no_blank _ = refl

-- a step that cuts nothing, not at a start
step_tight : (m m' : Mode) (d c : ℕ) (a : Act) (cs : List ℕ) → step m d c ≡ move_to m' d a → is_cut a ≡ false → tight false m d (c ∷ cs) ≡ tight false m' d cs
step_tight m m' d c a cs h n = rw (no_blank (kind c), h, n)

symbol_tight : (q : Within) (d : ℕ) (cs : List ℕ) (s : Symbol) → allowed q s ≡ true → tight false (home q) d (spell s ++ cs) ≡ tight false (home q) d cs
symbol_tight q d cs (Char c) h = step_tight (home q) (home q) d c Add cs (char_step q d c (view c) h) refl
symbol_tight q d cs (SimpleEscape o) h =
    step_tight (home q) (Escape q) d 92 Add (o ∷ cs) (escape_step q d) refl
    ∙ step_tight (Escape q) (home q) d o Add cs (simple_step q d o (simple_readable q o h)) refl
symbol_tight q d cs (DecimalEscape o) h =
    let small : o < 256 = decimal_small q o h in
    let a : ℕ = o / 100 in
    let b : ℕ = o / 10 % 10 in
    let e : ℕ = o % 10 in
    step_tight (home q) (Escape q) d 92 Add ((48 + a) ∷ (48 + b) ∷ (48 + e) ∷ cs) (escape_step q d) refl
    ∙ step_tight (Escape q) (OneDigit q a) d (48 + a) Add ((48 + b) ∷ (48 + e) ∷ cs) (first_step q d a (omega arith)) refl
    ∙ step_tight (OneDigit q a) (TwoDigits q (10 * a + b)) d (48 + b) Add ((48 + e) ∷ cs) (second_step q d a b (omega arith) (omega arith)) refl
    ∙ step_tight (TwoDigits q (10 * a + b)) (home q) d (48 + e) Add cs (third_step q d (10 * a + b) e (omega arith) (omega arith)) refl

symbols_tight : (q : Within) (d : ℕ) (cs : List ℕ) (ss : List Symbol) → list_all (allowed q) ss ≡ true → tight false (home q) d (flat_map spell ss ++ cs) ≡ tight false (home q) d cs
symbols_tight q d cs [] h = refl
symbols_tight q d cs (s ∷ ss) h =
    let p = and_parts (allowed q s) (list_all (allowed q) ss) h in
    ap (tight false (home q) d) (append_assoc (spell s) (flat_map spell ss) cs) ∙ symbol_tight q d (flat_map spell ss ++ cs) s p.0 ∙ symbols_tight q d cs ss p.1

-- a word begins with no blank
plain_kind : (c : ℕ) → View c → allowed InWord (Char c) ≡ true → is_blank (kind c) ≡ false
plain_kind c (v_plain p) h = rw p.kind_is
plain_kind _ v_space h = cc
plain_kind _ v_tab h = cc
plain_kind _ v_lf h = refl
plain_kind _ v_cr h = refl
plain_kind _ v_open h = refl
plain_kind _ v_close h = refl
plain_kind _ v_note h = refl
plain_kind _ v_quote h = refl
plain_kind _ v_escape h = refl

word_starts : (starts : Bool) (d : ℕ) (cs : List ℕ) (s : Symbol) → allowed InWord s ≡ true → tight starts Outside d (spell s ++ cs) ≡ tight false Outside d (spell s ++ cs)
word_starts starts d cs (Char c) h = rw (plain_kind c (view c) h)
word_starts starts d cs (SimpleEscape o) h = refl
word_starts starts d cs (DecimalEscape o) h = refl

note_tight : (d : ℕ) (cs rest : List ℕ) → list_all is_note_char cs ≡ true → tight false Comment d (cs ++ rest) ≡ tight false Comment d rest
note_tight d [] rest h = refl
note_tight d (c ∷ cs) rest h =
    let p = and_parts (is_note_char c) (list_all is_note_char cs) h in
    step_tight Comment Comment d c EndToken (cs ++ rest) (note_step d c (view c) p.0) refl ∙ note_tight d cs rest p.1

note_end : (d : ℕ) (ls : List Lexeme) (cs : List ℕ) → may_precede (Note cs) ls ≡ true → tight false Comment d (flat_map characters ls) ≡ tight false Outside d (flat_map characters ls)
note_end d [] cs h = refl
note_end d (Line true ∷ ls) cs h = refl
note_end d (Line false ∷ ls) cs h = refl
note_end d (Blank _ ∷ ls) cs h = cc
note_end d (Open ∷ ls) cs h = cc
note_end d (Close ∷ ls) cs h = cc
note_end d (Note _ ∷ ls) cs h = cc
note_end d (Word _ _ ∷ ls) cs h = cc
note_end d (Quote _ ∷ ls) cs h = cc

tight_is : (ls : List Lexeme) (starts : Bool) (d : ℕ) → are_lexemes ls ≡ true → nests d ls ≡ true → tight starts Outside d (flat_map characters ls) ≡ is_tight starts d ls
tight_is [] starts d v n = refl
tight_is (Blank true ∷ ls) starts d v n = ap (λ b. not starts && b) (tight_is ls false d v n)
tight_is (Blank false ∷ ls) starts d v n = ap (λ b. not starts && b) (tight_is ls false d v n)
tight_is (Line true ∷ ls) starts zero v n = tight_is ls true zero v n
tight_is (Line true ∷ ls) starts (suc d) v n = tight_is ls false (suc d) v n
tight_is (Line false ∷ ls) starts zero v n = tight_is ls true zero v n
tight_is (Line false ∷ ls) starts (suc d) v n = tight_is ls false (suc d) v n
tight_is (Open ∷ ls) starts d v n = tight_is ls false (suc d) v n
tight_is (Close ∷ ls) starts zero v n = cc
tight_is (Close ∷ ls) starts (suc d) v n = tight_is ls false d v n
tight_is (Note cs ∷ ls) starts d v n =
    let p = and_parts (list_all is_note_char cs && may_precede (Note cs) ls) (are_lexemes ls) v in
    let r = and_parts (list_all is_note_char cs) (may_precede (Note cs) ls) p.0 in
    note_tight d cs (flat_map characters ls) r.0 ∙ note_end d ls cs r.1 ∙ tight_is ls false d p.1 n
tight_is (Word s ss ∷ ls) starts d v n =
    let p = and_parts (list_all is_word_symbol (s ∷ ss) && may_precede (Word s ss) ls) (are_lexemes ls) v in
    let r = and_parts (list_all is_word_symbol (s ∷ ss)) (may_precede (Word s ss) ls) p.0 in
    let first = and_parts (is_word_symbol s) (list_all is_word_symbol ss) r.0 in
    let whole = append_assoc (spell s) (flat_map spell ss) (flat_map characters ls) in
    ap (tight starts Outside d) whole ∙ word_starts starts d (flat_map spell ss ++ flat_map characters ls) s first.0 ∙ ap (tight false Outside d) (sym whole)
    ∙ symbols_tight InWord d (flat_map characters ls) (s ∷ ss) r.0 ∙ tight_is ls false d p.1 n
tight_is (Quote ss ∷ ls) starts d v n =
    let p = and_parts (list_all is_quote_symbol ss && true) (are_lexemes ls) v in
    let r = and_parts (list_all is_quote_symbol ss) true p.0 in
    ap (tight false Quoted d) (append_assoc (flat_map spell ss) (34 ∷ []) (flat_map characters ls))
    ∙ symbols_tight InQuote d (34 ∷ flat_map characters ls) ss r.0 ∙ tight_is ls false d p.1 n

-- one such lexeme list represents all
pub tight_all : (text : List ℕ) (ls : List Lexeme) → flat_map lexeme_bytes ls ≡ text → are_lexemes ls ≡ true → nests 0 ls ≡ true → is_tight true 0 ls ≡ true → BeginsNoBlank text
tight_all text ls s v n t ks ss kv kn =
    let same : flat_map characters ks ≡ flat_map characters ls = encodes_same _ _ (sym (bytes_all ks) ∙ ss ∙ sym s ∙ bytes_all ls) in
    sym (tight_is ks true 0 kv kn) ∙ ap (tight true Outside 0) same ∙ tight_is ls true 0 v n ∙ t
