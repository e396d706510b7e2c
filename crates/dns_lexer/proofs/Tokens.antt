-- A token is one lexeme.
use Rattle.std.proofs.Common.{◌≡◌, ℕ, ◌<◌, Bool, true, false, List, [], ◌∷◌, ◌++◌, length, refl, sym, ap, ◌∙◌, arith, inl, inr}
use Rattle.std.specs.Prelude.{encode_utf8, encode_utf8_all}
use Rattle.std.specs.List.{flat_map, list_all}
use Rattle.std.proofs.lemmas.Str.{encodes-append, encode_ascii}
use Rattle.dns_symbol.specs.declared.symbol.Symbol.{Symbol}
use Rattle.dns_symbol.specs.Symbol.{spell, is_word_symbol}
use Rattle.dns_symbol.specs.Symbol.{bytes}
use Rattle.dns_lexer.specs.Lexeme.{Lexeme, Blank, Line, Open, Close, Note, Word, Quote, lexeme_bytes, is_lexeme}
use Rattle.dns_lexer.specs.Token.{IsToken}

abbrev pub is_token_lexeme : Lexeme → Bool
is_token_lexeme (Word _ _) = true
is_token_lexeme (Quote _) = true
is_token_lexeme _ = false

-- a token as a lexeme
pub record IsOne (t : List ℕ) : Type 0 where
  pub lexeme : Lexeme
  pub is_one : is_token_lexeme lexeme ≡ true
  pub valid : is_lexeme lexeme ≡ true
  pub spelled : lexeme_bytes lexeme ≡ t

-- symbols one by one, and at once
pub symbols_bytes : (ss : List Symbol) → flat_map bytes ss ≡ encode_utf8_all (flat_map spell ss)
symbols_bytes [] = refl
symbols_bytes (s ∷ ss) = ap (λ l. bytes s ++ l) (symbols_bytes ss) ∙ sym (encodes-append (spell s) (flat_map spell ss))

pub quote_bytes : (ss : List Symbol) → lexeme_bytes (Quote ss) ≡ 34 ∷ (flat_map bytes ss ++ 34 ∷ [])
quote_bytes ss =
    ap (λ l. encode_utf8 34 ++ l) (encodes-append (flat_map spell ss) (34 ∷ []) ∙ ap (λ l. l ++ encode_utf8_all (34 ∷ [])) (sym (symbols_bytes ss)))
    ∙ ap (λ l. l ++ (flat_map bytes ss ++ (l ++ []))) (encode_ascii 34 (omega arith))

pub one_token : {t : List ℕ} → IsOne t → IsToken t
one_token {t} r = go r.lexeme r.is_one r.valid r.spelled
  where
    go : (l : Lexeme) → is_token_lexeme l ≡ true → is_lexeme l ≡ true → lexeme_bytes l ≡ t → IsToken t
    go (Word s ss) o v e = inl (record { symbols = s ∷ ss; some = omega arith; valid = v; spelled = sym e ∙ sym (symbols_bytes (s ∷ ss)) })
    go (Quote ss) o v e = inr (record { symbols = ss; valid = v; spelled = sym e ∙ quote_bytes ss })
    go (Blank _) o v e = cc
    go (Line _) o v e = cc
    go Open o v e = cc
    go Close o v e = cc
    go (Note _) o v e = cc

word_one : {t : List ℕ} (ss : List Symbol) → 0 < length ss → list_all is_word_symbol ss ≡ true → t ≡ flat_map bytes ss → IsOne t
word_one [] some v e = absurd (omega arith)
word_one (s ∷ ss) some v e = record { lexeme = Word s ss; is_one = refl; valid = v; spelled = sym (symbols_bytes (s ∷ ss)) ∙ sym e }

pub token_one : {t : List ℕ} → IsToken t → IsOne t
token_one (inl w) = word_one w.symbols w.some w.valid w.spelled
token_one (inr q) = record { lexeme = Quote q.symbols; is_one = refl; valid = q.valid; spelled = quote_bytes q.symbols ∙ sym q.spelled }
