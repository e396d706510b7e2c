-- The prefixes of a text that can be completed to one that splits.
use Rattle.std.specs.Prelude.{◌≡◌, ℕ, ◌<◌, ◌≤◌, Bool, if◌then◌else◌, List, [], ◌∷◌, ◌++◌, length, take, replicate}
use Rattle.dns_symbol.specs.Characters.{line_feed, double_quote, close_parenthesis}
use Rattle.dns_lexer.specs.Splitting.{Entries, Splits}

-- what may complete a prefix: an escape's last digits, a double quote, LF, and closing parentheses
pub record IsTail (tail : List ℕ) : Type 0 where
  pub zeros : ℕ
  pub few : zeros ≤ 3
  pub quoted : Bool
  pub lined : Bool
  pub open_blocks : ℕ
  pub is : tail ≡ replicate zeros 48 ++ ((if quoted then double_quote ∷ [] else []) ++ ((if lined then line_feed ∷ [] else []) ++ replicate open_blocks close_parenthesis))

-- some tail makes it a text that splits
pub record IsViable (beginning : List ℕ) : Type 0 where
  pub tail : List ℕ
  pub is_tail : IsTail tail
  pub found : Entries
  pub splits : Splits (beginning ++ tail) found

-- the longest viable prefix of the text has i bytes
pub record IsLongestViable (text : List ℕ) (i : ℕ) : Type 0 where
  pub within : i ≤ length text
  pub viable : IsViable (take i text)
  pub longest : (j : ℕ) → i < j → j ≤ length text → ¬ IsViable (take j text)

-- the text doesn't split, and its longest viable prefix has i bytes
pub record IsBad (text : List ℕ) (i : ℕ) : Type 0 where
  pub splits_not : (e : Entries) → ¬ Splits text e
  pub at : IsLongestViable text i
