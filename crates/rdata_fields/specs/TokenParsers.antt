-- The behaviour of a parser of tokens.
use Rattle.std.specs.Prelude.{ℕ, List, Result}
use Rattle.dns_lexer.specs.EntryTokens.{TokenSeen}
use Rattle.rdata_fields.specs.Source.{EntryEnd}
use Rattle.rdata_fields.specs.declared.record_error.RecordError.{RecordError}

-- by the entry's end, the unread tokens and the target's octets before a call: its result, and the tokens and octets after it
abbrev pub TokenParser : Type 0 → Type 1
TokenParser A = ℕ → List TokenSeen → List ℕ → Result A RecordError → List TokenSeen → List ℕ → Type 0

-- a call behaves as such a parser: its source of tokens, its result, and its target
abbrev pub Parses : {A S B : Type 0} → TokenParser A → (S → List TokenSeen) → (S → EntryEnd) → (B → List ℕ) → S → B → Result A RecordError → S → B → Type 0
Parses How left end octets source target result source_after target_after =
    How (end source).at (left source) (octets target) result (left source_after) (octets target_after)
