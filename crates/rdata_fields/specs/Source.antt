-- Sources of the tokens of an entry.
use Rattle.std.specs.Prelude.{ℕ, List, [], ◌∷◌, map, Option, None, Result}
use Rattle.dns_lexer.specs.declared.pieces.Fault.{Fault}
use Rattle.dns_lexer.specs.EntryTokens.{PartSeen, TokenSeen, token_seen}
use Rattle.rdata_fields.specs.declared.source.TokenList.{TokenList}

-- the offset of the next token, or of the entry's end
abbrev pub next_place : List TokenSeen → ℕ → ℕ
next_place [] end = end
next_place (t ∷ ts) end = t.at

-- the offset of an entry's end; and, if it is read of a text, what the text has after the tokens: the entry's end and what follows, or the error
pub record EntryEnd : Type 0 where
  pub at : ℕ
  pub behind : Option (List (Result PartSeen Fault))

-- the unread tokens of a list, and the end of its entry
abbrev pub listed : TokenList → List TokenSeen
listed l = map token_seen l.tokens.now

abbrev pub listed_end : TokenList → EntryEnd
listed_end l = record { at = l.end; behind = None }
