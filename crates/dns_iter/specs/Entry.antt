-- The tokens of a scanner over an entry.
use Rattle.std.specs.Prelude.{ℕ, List, Option, IsSomeAnd, map}
use Rattle.std.specs.Borrow.{Bor}
use Rattle.dns_scan.specs.Unread.{HasTokens}
use Rattle.dns_scan.specs.Tokens.{Token}
use Rattle.dns_lexer.specs.Splitting.{Entries, Splits}
use Rattle.dns_iter.specs.Contents.{HoldsAt, HoldsOnly, content_next}
use Rattle.dns_iter.specs.TokenNext.{token_next}
use Rattle.dns_iter.specs.declared.entry.Contents.{Contents}
use Rattle.dns_iter.specs.declared.scanner.IterScanner.{IterScanner}

-- the next token is the content of the first of the entry's tokens, by its text
abbrev pub entry_next : {T O E B A : Type 0} → (T → List ℕ) → IterScanner (Contents T) O E (Bor Token) B A → Option Token → IterScanner (Contents T) O E (Bor Token) B A → Type 0
entry_next text = token_next (content_next (λ s. map text s.tokens.now))

-- both are the entries of one text
abbrev pub AreOfOneText : Entries → Entries → Type 0
AreOfOneText given found = (text : List ℕ) × Splits text given × Splits text found

module _ {S : Type 0} (next : S → Option Token → S → Type 0) where
  -- there is a scanner, in which the contents of the tokens of that entry remain
  abbrev pub IsAtEntry : Entries → ℕ → Option S → Type 0
  IsAtEntry entries place scanner = (contents : List Token) → HoldsAt entries place contents → IsSomeAnd scanner (λ s. HasTokens next s contents)

  -- the one list of texts that are their contents remains in a scanner
  abbrev pub IsAtTexts : Entries → ℕ → S → Type 0
  IsAtTexts entries place s = (contents : List Token) × HoldsOnly entries place contents × HasTokens next s contents
