-- Clauses: words, and the semicolon, the brace or the end of the text after them.
use Rattle.std.specs.Prelude.{ℕ, zero, suc, ◌<◌, ◌+◌, nat_le, if◌then◌else◌, List, length, Option, None, Some, Result, Ok, Err}
use Rattle.server_config.specs.Tokens.{next_token}
use Rattle.server_config.specs.declared.clause.Clause.{Clause}
use Rattle.server_config.specs.declared.clause.ClauseEnd.{ClauseEnd}
use Rattle.server_config.specs.declared.clause.ClauseEnd.TheVariants.{Closes, Ends, Last, Opens}
use Rattle.server_config.specs.declared.clause.ClauseWords.{ClauseWords}
use Rattle.server_config.specs.declared.error.ConfigError.{ConfigError}
use Rattle.server_config.specs.declared.token.ConfigToken.{ConfigToken}
use Rattle.server_config.specs.declared.token.TokenKind.{TokenKind}
use Rattle.server_config.specs.declared.token.TokenKind.TheVariants.{CloseBrace, Mark, OpenBrace, Quoted, Semicolon, Word}

-- a semicolon or a brace ends a clause
abbrev pub clause_end_of : TokenKind → Option ClauseEnd
clause_end_of Semicolon = Some Ends
clause_end_of OpenBrace = Some Opens
clause_end_of CloseBrace = Some Closes
clause_end_of Word = None
clause_end_of Quoted = None
clause_end_of Mark = None

-- the next clause comes after this one, unless this is the last
abbrev pub MovesOn : ℕ → ClauseEnd → ℕ → Type 0
MovesOn from Ends next = from < next
MovesOn from Opens next = from < next
MovesOn from Closes next = from < next
MovesOn from Last next = Unit {0}

-- the end of the text ends the last clause
abbrev pub last_clause : ℕ → ℕ → ℕ → Clause
last_clause from words len = record { from = from; words = words; end = Last; at = len; next = len }

-- a token that ends the clause; or else one more word
abbrev pub clause_with : ℕ → ℕ → ConfigToken → Option ClauseEnd → (ℕ → Result Clause ConfigError) → Result Clause ConfigError
clause_with from words t (Some end) more = Ok (record { from = from; words = words; end = end; at = t.at; next = t.end })
clause_with from words t None more = more t.end

abbrev pub clause_by : ℕ → ℕ → ℕ → Result (Option ConfigToken) ConfigError → (ℕ → Result Clause ConfigError) → Result Clause ConfigError
clause_by len from words (Err e) more = Err e
clause_by len from words (Ok None) more = Ok (last_clause from words len)
clause_by len from words (Ok (Some t)) more = clause_with from words t (clause_end_of t.kind) more

-- the clause that begins at an offset, of which some words come before another offset, and at most a number of tokens after it
abbrev pub clause_among : ℕ → List ℕ → ℕ → ℕ → ℕ → Result Clause ConfigError
clause_among zero text from words at = Ok (last_clause from words (length text))
clause_among (suc most) text from words at = clause_by (length text) from words (next_token text at) (λ end. clause_among most text from (words + 1) end)

-- the clause at an offset: the words up to the first semicolon or brace
abbrev pub next_clause : List ℕ → ℕ → Result Clause ConfigError
next_clause text from = clause_among (length text) text from 0 from

abbrev pub token_or_none : Result (Option ConfigToken) ConfigError → Option ConfigToken
token_or_none (Ok t) = t
token_or_none (Err e) = None

-- the word at an offset or after it, if a clause has more words than that
abbrev pub word_among : List ℕ → ℕ → ℕ → ℕ → Option ConfigToken
word_among text from index words = if nat_le words index then None else token_or_none (next_token text from)

abbrev pub clause_word_end : Option ConfigToken → ℕ
clause_word_end (Some t) = t.end
clause_word_end None = 0

-- the first three words of a clause
abbrev pub words_with : List ℕ → ℕ → Option ConfigToken → Option ConfigToken → ClauseWords
words_with text words first second = record { first = first; second = second; third = word_among text (clause_word_end second) 2 words }

abbrev pub words_from : List ℕ → ℕ → Option ConfigToken → ClauseWords
words_from text words first = words_with text words first (word_among text (clause_word_end first) 1 words)

abbrev pub clause_words : List ℕ → Clause → ClauseWords
clause_words text c = words_from text c.words (word_among text c.from 0 c.words)
