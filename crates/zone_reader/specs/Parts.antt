-- Words, quoted strings and comments without escapes, and where they end.
use Rattle.std.specs.Prelude.{◌≡◌, ◌⊎◌, ◌+◌, ◌-◌, ◌<◌, ◌≤◌, ℕ, List, length, slice_index}
use Rattle.dns_symbol.specs.Characters.{tab, line_feed, carriage_return, space, double_quote, open_parenthesis, close_parenthesis, semicolon}
use Rattle.dns_lexer.specs.declared.runs.OctetClass.TheVariants.{Word, Quote, Comment}
use Rattle.dns_lexer.specs.Skip.{EachIn}

-- a word ends before this octet, in parentheses of a depth
abbrev pub EndsWordBefore : ℕ → ℕ → Type 0
EndsWordBefore depth c = (c ≡ space) ⊎ (c ≡ tab) ⊎ (c ≡ line_feed) ⊎ (c ≡ carriage_return) ⊎ (c ≡ double_quote) ⊎ (c ≡ open_parenthesis) ⊎ (c ≡ semicolon) ⊎ ((c ≡ close_parenthesis) × (0 < depth))

-- the octets from one offset to before another are a word's, which ends there
pub record IsWordTo (octets : List ℕ) (depth at end : ℕ) : Type 0 where
  pub some : at < end
  pub within : end < length octets
  pub inside : EachIn Word octets at end
  pub ends : EndsWordBefore depth (slice_index octets end)

-- a double quote, octets of a quoted string, and a double quote, from one offset to before another
pub record IsQuoteTo (octets : List ℕ) (at end : ℕ) : Type 0 where
  pub some : at + 2 ≤ end
  pub within : end ≤ length octets
  pub inside : EachIn Quote octets (at + 1) (end - 1)
  pub closes : slice_index octets (end - 1) ≡ double_quote

-- a semicolon and octets of a comment, from one offset to before a line feed or a carriage return
pub record IsCommentTo (octets : List ℕ) (at end : ℕ) : Type 0 where
  pub some : at < end
  pub within : end < length octets
  pub inside : EachIn Comment octets (at + 1) end
  pub ends : (slice_index octets end ≡ line_feed) ⊎ (slice_index octets end ≡ carriage_return)

-- after a blank, or before another octet
abbrev pub IsAfterBlank : List ℕ → ℕ → ℕ → Type 0
IsAfterBlank octets at after = (after ≡ at) ⊎ ((after ≡ at + 1) × ((slice_index octets at ≡ tab) ⊎ (slice_index octets at ≡ space)))

-- after an octet and a line feed
abbrev pub IsAfterReturn : List ℕ → ℕ → ℕ → Type 0
IsAfterReturn octets at after = (at + 1 < length octets) × (slice_index octets (at + 1) ≡ line_feed) × (after ≡ at + 2)
