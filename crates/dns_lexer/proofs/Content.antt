-- The content of a token.
use Rattle.std.proofs.Common.{◌≡◌, ℕ, ◌-◌, ◌<◌, ◌≤◌, true, List, [], ◌∷◌, ◌++◌, length, take, drop, refl, sym, ap, ◌∙◌, subst, arith, append_assoc, append-nil, length-append, get_or}
use Rattle.std.specs.Prelude.{encode_utf8, None}
use Rattle.std.specs.List.{flat_map, list_all}
use Rattle.std.proofs.lemmas.Bool.{and_parts, and_from}
use Rattle.std.proofs.lemmas.Str.{encode_ascii, char_from_byte, length-encode, len_utf8_bounds}
use Rattle.std.proofs.Math.Seq.{take-append_seam, get_or-append_seam}
use Rattle.dns_symbol.specs.declared.symbol.Symbol.{Symbol}
use Rattle.dns_symbol.specs.declared.symbol.Symbol.TheVariants.{Char, SimpleEscape, DecimalEscape}
use Rattle.dns_symbol.specs.Symbol.{bytes, is_readable, may_be_in_word, is_word_symbol}
use Rattle.dns_symbol.specs.Text.{SymbolsOf}
use Rattle.dns_lexer.specs.Lexeme.{may_be_in_quote, is_quote_symbol}
use Rattle.dns_lexer.specs.Token.{IsWord, IsQuote}

escape_first : (rest : List ℕ) → get_or (encode_utf8 92 ++ rest) 0 0 ≡ 34 → ⊥
escape_first rest h = let e : 92 ≡ 34 = sym (ap (λ l. get_or (l ++ rest) 0 0) (encode_ascii 92 (omega arith))) ∙ h in absurd (omega (arith, e))

char_first : (c : ℕ) (rest : List ℕ) → is_word_symbol (Char c) ≡ true → get_or (encode_utf8 c ++ rest) 0 0 ≡ 34 → ⊥
char_first c rest w h =
    let e : c ≡ 34 = char_from_byte (encode_utf8 c ++ rest) rest c refl (omega (arith, h)) (omega (arith, length-encode c, (len_utf8_bounds c).0, length-append (encode_utf8 c) rest)) ∙ h in
    elim (go (subst (λ x. is_word_symbol (Char x) ≡ true) e w)) [ ]
  where
    go : is_word_symbol (Char 34) ≡ true → ⊥
    go k = cc

-- no word begins with a double quote
symbols_first : (ss : List Symbol) → 0 < length ss → list_all is_word_symbol ss ≡ true → get_or (flat_map bytes ss) 0 0 ≡ 34 → ⊥
symbols_first [] h v e = absurd (omega arith)
symbols_first (Char c ∷ ss) h v e = char_first c (flat_map bytes ss) (and_parts (is_word_symbol (Char c)) (list_all is_word_symbol ss) v).0
    (ap (λ l. get_or l 0 0) (sym (append_assoc (encode_utf8 c) [] (flat_map bytes ss))) ∙ e)
symbols_first (SimpleEscape o ∷ ss) h v e = escape_first _ (ap (λ l. get_or l 0 0) (sym (append_assoc (encode_utf8 92) _ (flat_map bytes ss))) ∙ e)
symbols_first (DecimalEscape o ∷ ss) h v e = escape_first _ (ap (λ l. get_or l 0 0) (sym (append_assoc (encode_utf8 92) _ (flat_map bytes ss))) ∙ e)

pub word_first : (t : List ℕ) → IsWord t → get_or t 0 0 ≡ 34 → ⊥
word_first t w h = symbols_first w.symbols w.some w.valid (ap (λ l. get_or l 0 0) (sym w.spelled) ∙ h)

pub between_quotes : (t : List ℕ) → (q : IsQuote t) → take (length t - 1 - 1) (drop 1 t) ≡ flat_map bytes q.symbols
between_quotes t q =
    let body : List ℕ = flat_map bytes q.symbols in
    let n : length t - 1 - 1 ≡ length body = omega (arith, ap length q.spelled, length-append body (34 ∷ [])) in
    ap (λ i. take i (drop 1 t)) n ∙ ap (λ l. take (length body) (drop 1 l)) q.spelled ∙ take-append_seam body (34 ∷ [])

pub quote_long : (t : List ℕ) → IsQuote t → 2 ≤ length t
quote_long t q = omega (arith, ap length q.spelled, length-append (flat_map bytes q.symbols) (34 ∷ []))

pub quote_first : (t : List ℕ) → IsQuote t → get_or t 0 0 ≡ 34
quote_first t q = ap (λ l. get_or l 0 0) q.spelled

pub quote_last : (t : List ℕ) → IsQuote t → get_or t (length t - 1) 0 ≡ 34
quote_last t q =
    let body : List ℕ = flat_map bytes q.symbols in
    let n : length t - 1 ≡ length (34 ∷ body) = omega (arith, ap length q.spelled, length-append body (34 ∷ [])) in
    ap (λ i. get_or t i 0) n ∙ ap (λ l. get_or l (length (34 ∷ body)) 0) q.spelled ∙ get_or-append_seam (34 ∷ body) 34 [] 0

word_readable : (ss : List Symbol) → list_all is_word_symbol ss ≡ true → list_all is_readable ss ≡ true
word_readable [] h = refl
word_readable (s ∷ ss) h = let p = and_parts (is_word_symbol s) (list_all is_word_symbol ss) h in and_from _ _ (and_parts (may_be_in_word s) (is_readable s) p.0).1 (word_readable ss p.1)

quote_readable : (ss : List Symbol) → list_all is_quote_symbol ss ≡ true → list_all is_readable ss ≡ true
quote_readable [] h = refl
quote_readable (s ∷ ss) h = let p = and_parts (is_quote_symbol s) (list_all is_quote_symbol ss) h in and_from _ _ (and_parts (may_be_in_quote s) (is_readable s) p.0).1 (quote_readable ss p.1)

-- a word's symbols
pub word_symbols : (t : List ℕ) → (w : IsWord t) → SymbolsOf t w.symbols None
word_symbols t w = record { rest = []; readable = word_readable w.symbols w.valid; spelled = w.spelled ∙ sym (append-nil _); ends = refl }

-- and those between quotes
pub quote_symbols : (t body : List ℕ) → (q : IsQuote t) → body ≡ flat_map bytes q.symbols → SymbolsOf body q.symbols None
quote_symbols t body q e = record { rest = []; readable = quote_readable q.symbols q.valid; spelled = e ∙ sym (append-nil _); ends = refl }
