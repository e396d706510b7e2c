-- The offset of parentheses that are not closed.
use Rattle.std.specs.Prelude.{◌≡◌, ℕ, suc, ◌<◌, ◌≤◌, List, ◌∷◌, ◌++◌, length, take, drop, replicate}
use Rattle.dns_symbol.specs.Characters.{line_feed, open_parenthesis, close_parenthesis}
use Rattle.dns_lexer.specs.Splitting.{Entries, Splits}

-- an opening parenthesis, before which the text splits and after which no prefix of it does
pub record IsOpener (text : List ℕ) (i : ℕ) : Type 0 where
  pub inside : List ℕ
  pub opens : drop i text ≡ open_parenthesis ∷ inside
  pub found : Entries
  pub splits : Splits (take i text) found
  pub never_closed : (j : ℕ) → i < j → j ≤ length text → (e : Entries) → ¬ Splits (take j text) e

-- closing parentheses alone, on a separate line, complete the text
abbrev pub LacksClosing : List ℕ → Type 0
LacksClosing text = (n : ℕ) × (e : Entries) × Splits (text ++ (line_feed ∷ replicate (suc n) close_parenthesis)) e
