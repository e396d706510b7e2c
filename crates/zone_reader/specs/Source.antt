-- The position of a reader of entries among the parts of a text.
use Rattle.std.specs.Prelude.{⊤, ◌≡◌, ◌≤◌, ◌<◌, ◌+◌, ◌^◌, ℕ, Bool, true, false, if◌then◌else◌, List, [], ◌∷◌, ◌++◌, drop, length, map, Option, Some, None, option_map, is_some, unwrap_or, Result, Ok, Err}
use Rattle.std.specs.Io.BufRead.{drop_through}
use Rattle.std.specs.Option.{option_to_list}
use Rattle.dns_symbol.specs.Characters.{line_feed}
use Rattle.dns_lexer.specs.declared.pieces.EndOfEntry.{EndOfEntry}
use Rattle.dns_lexer.specs.declared.pieces.Fault.{Fault}
use Rattle.dns_lexer.specs.declared.entry_tokens.EntryPart.{EntryPart}
use Rattle.dns_lexer.specs.EntryTokens.{BeginsToken, EndIs, IsOpen, IsSeenFrom, PartSeen, TokenIs, TokenSeen, answer_seen, spelled}
use Rattle.rdata_fields.specs.Source.{EntryEnd}
use Rattle.zone_reader.specs.declared.source.StartOfEntry.{StartOfEntry}

-- the offset where a token ends: for quoted text after its closing double quote
abbrev pub token_end : TokenSeen → ℕ
token_end t = t.at + length (spelled t)

-- the offset where the last of some tokens ends; without tokens, this offset
abbrev pub last_token_end : ℕ → List TokenSeen → ℕ
last_token_end at [] = at
last_token_end at (t ∷ tokens) = last_token_end (token_end t) tokens

-- where the open entry began, or the next one begins; whether one is open, and where the last token that was taken of it ended, if one was; and the parts of the text that are left
pub record SourceSeen : Type 0 where
  pub began : ℕ
  pub is_open : Bool
  pub taken : Option ℕ
  pub parts : List (Result PartSeen Fault)

-- the part that was read ahead, if an entry is open, comes before the others
abbrev pub source_seen : ℕ → Option (Result EntryPart Fault) → Option ℕ → List (Result PartSeen Fault) → SourceSeen
source_seen began next taken parts = record { began = began; is_open = is_some next; taken = taken; parts = option_to_list (option_map answer_seen next) ++ parts }

-- an open entry has an end, or a syntax error
abbrev pub IsOpenBefore : Option (Result EntryPart Fault) → List (Result PartSeen Fault) → Type 0
IsOpenBefore None parts = ⊤
IsOpenBefore (Some x) parts = (blank : Bool) × IsOpen blank (answer_seen x ∷ parts)

-- each token ends at an offset below 2^64
abbrev pub TokensEnd : List (Result PartSeen Fault) → Type 0
TokensEnd [] = ⊤
TokensEnd (Ok (TokenIs t b) ∷ parts) = (token_end t < 2 ^ 64) × TokensEnd parts
TokensEnd (Ok (EndIs e) ∷ parts) = TokensEnd parts
TokensEnd (Err f ∷ parts) = TokensEnd parts

pub record IsSourceOf (next : Option (Result EntryPart Fault)) (parts : List (Result PartSeen Fault)) : Type 0 where
  pub opens : IsOpenBefore next parts
  pub ends : TokensEnd (option_to_list (option_map answer_seen next) ++ parts)

-- the source is after the first line feed from an offset on, or at the octets' end if none follows; what it then reads does not depend on what came before
pub record StartsAfterLine (octets : List ℕ) (at : ℕ) (s : SourceSeen) : Type 0 where
  pub within : s.began ≤ length octets
  pub behind : drop s.began octets ≡ drop_through line_feed (drop at octets)
  pub closed : s.is_open ≡ false
  pub taken : s.taken ≡ None
  pub parts : IsSeenFrom octets s.began s.parts

-- the tokens that come first, and the parts after them
abbrev pub tokens_first : List (Result PartSeen Fault) → List TokenSeen
tokens_first (Ok (TokenIs t b) ∷ parts) = t ∷ tokens_first parts
tokens_first _ = []

abbrev pub parts_after_tokens : List (Result PartSeen Fault) → List (Result PartSeen Fault)
parts_after_tokens (Ok (TokenIs t b) ∷ parts) = parts_after_tokens parts
parts_after_tokens parts = parts

-- the offset of the end, or of the syntax error, that comes first
abbrev pub end_first : ℕ → List (Result PartSeen Fault) → ℕ
end_first at (Ok (EndIs e) ∷ parts) = e.at
end_first at (Err f ∷ parts) = f.at
end_first at _ = at

-- the tokens that are left of the open entry
abbrev pub unread_entry_tokens : SourceSeen → List TokenSeen
unread_entry_tokens s = if s.is_open then tokens_first s.parts else []

-- the parts after them
abbrev pub parts_after_unread : SourceSeen → List (Result PartSeen Fault)
parts_after_unread s = if s.is_open then parts_after_tokens s.parts else s.parts

-- where its line ends, or where the syntax error is that cuts it off; if no entry is open, where the last one ended
abbrev pub stop_place : SourceSeen → ℕ
stop_place s = if s.is_open then end_first s.began (parts_after_tokens s.parts) else s.began

-- where the last of its tokens ends, and what the text has after them; if no entry is open, where the last one ended
abbrev pub entry_end : SourceSeen → EntryEnd
entry_end s = if s.is_open then record { at = last_token_end (unwrap_or s.taken s.began) (tokens_first s.parts); behind = Some (parts_after_tokens s.parts) } else record { at = s.began; behind = None }

-- the source is where an entry of tokens begins; or nothing is left; or a syntax error comes next
abbrev pub IsAtStart : Result (Option StartOfEntry) Fault → SourceSeen → Type 0
IsAtStart (Ok (Some start)) s = (s.is_open ≡ true) × (start.at ≡ s.began) × IsOpen start.begins_blank s.parts × BeginsToken s.parts × (s.taken ≡ None)
IsAtStart (Ok None) s = (s.is_open ≡ false) × (s.parts ≡ [])
IsAtStart (Err f) s = (s.is_open ≡ true) × (s.parts ≡ Err f ∷ [])

-- where the last of these entries ends, if the first begins at an offset
abbrev pub last_end : ℕ → List EndOfEntry → ℕ
last_end began [] = began
last_end began (e ∷ ends) = last_end e.at ends

-- what was left of the open entry is skipped, and so are entries without tokens
pub record BeginsEntry (old : SourceSeen) (result : Result (Option StartOfEntry) Fault) (new : SourceSeen) : Type 0 where
  pub ends : List EndOfEntry
  pub passed : parts_after_unread old ≡ map (λ e. Ok (EndIs e)) ends ++ new.parts
  pub began : new.began ≡ last_end old.began ends
  pub start : IsAtStart result new

-- what was left of the open entry is taken, and its end; or no entry is open, and nothing is taken; or a syntax error comes before the end, and it stays
abbrev pub FinishesEntry : SourceSeen → Result (Option EndOfEntry) Fault → SourceSeen → Type 0
FinishesEntry old (Ok (Some end)) new = (old.is_open ≡ true) × (parts_after_unread old ≡ Ok (EndIs end) ∷ new.parts) × (new.is_open ≡ false) × (new.began ≡ end.at) × (new.taken ≡ None)
FinishesEntry old (Ok None) new = (old.is_open ≡ false) × (new ≡ old)
FinishesEntry old (Err f) new = (old.is_open ≡ true) × (parts_after_unread old ≡ Err f ∷ []) × (new ≡ record { began = old.began; is_open = true; taken = old.taken; parts = Err f ∷ [] })
