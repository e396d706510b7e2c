-- Texts in which tokens are replaced by tokens.
use Rattle.std.specs.Prelude.{◌≡◌, ℕ, ◌+◌, ◌⊎◌, true, List, [], ◌∷◌, length}
use Rattle.dns_symbol.specs.declared.symbol.Symbol.{Symbol}
use Rattle.dns_lexer.specs.Lexeme.{Lexeme, Word, Quote, is_lexeme, lexeme_bytes}
use Rattle.zone_edit.specs.declared.edit.Edit.{Edit}

-- a token that may replace a token: a word for a word, and a quoted string for either
pub data MayReplace : Lexeme → Lexeme → Type 0 where
  word_for_word : (s : Symbol) (ss : List Symbol) (t : Symbol) (ts : List Symbol) → is_lexeme (Word t ts) ≡ true → MayReplace (Word s ss) (Word t ts)
  quote_for_word : (s : Symbol) (ss ts : List Symbol) → is_lexeme (Quote ts) ≡ true → MayReplace (Word s ss) (Quote ts)
  quote_for_quote : (ss ts : List Symbol) → is_lexeme (Quote ts) ≡ true → MayReplace (Quote ss) (Quote ts)

-- the lexemes of a text from an offset on, and those of the edited text: each is the same, or is a token that is the span of the next edit, and the new one is a token that is its text
abbrev pub ReplacesTokens : {B : Type 0} → ℕ → List (Edit B) → List Lexeme → List Lexeme → Type 0
ReplacesTokens at edits [] [] = edits ≡ []
ReplacesTokens at edits [] (m ∷ ms) = ⊥
ReplacesTokens at edits (l ∷ ls) [] = ⊥
ReplacesTokens {B} at edits (l ∷ ls) (m ∷ ms) =
    ((l ≡ m) × ReplacesTokens (at + length (lexeme_bytes l)) edits ls ms)
    ⊎ ((e : Edit B) × (rest : List (Edit B)) × (edits ≡ e ∷ rest) × (e.start ≡ at) × (e.end ≡ at + length (lexeme_bytes l))
    × (e.text.items ≡ lexeme_bytes m) × MayReplace l m × ReplacesTokens (at + length (lexeme_bytes l)) rest ls ms)
