-- The entries of a text, each by its tokens; if a syntax error cuts one off, reading continues after the error's line.
use Rattle.std.specs.Prelude.{◌≡◌, ◌≤◌, ℕ, Bool, true, false, List, [], ◌∷◌, ◌++◌, drop, length, map, Result, Ok, Err}
use Rattle.std.specs.Io.BufRead.{drop_through}
use Rattle.std.specs.List.{flat_map}
use Rattle.dns_symbol.specs.Characters.{line_feed}
use Rattle.dns_lexer.specs.declared.pieces.EndOfEntry.{EndOfEntry}
use Rattle.dns_lexer.specs.declared.pieces.Fault.{Fault}
use Rattle.dns_lexer.specs.EntryTokens.{EndIs, IsSeenFrom, PartSeen, TokenIs, TokenSeen, spelled}
use Rattle.zone_reader.specs.Source.{last_token_end}

-- an entry: whether it begins with a blank, its tokens, and its end, or the syntax error that cuts it off
pub record TextEntry : Type 0 where
  pub begins_blank : Bool
  pub tokens : List TokenSeen
  pub end : Result EndOfEntry Fault

-- the entry's parts: the tokens, and then the end or the syntax error
abbrev pub end_seen : Result EndOfEntry Fault → Result PartSeen Fault
end_seen (Ok e) = Ok (EndIs e)
end_seen (Err f) = Err f

abbrev pub parts_of_entry : TextEntry → List (Result PartSeen Fault)
parts_of_entry e = map (λ t. Ok (TokenIs t e.begins_blank)) e.tokens ++ end_seen e.end ∷ []

abbrev pub parts_of_entries : List TextEntry → List (Result PartSeen Fault)
parts_of_entries entries = flat_map parts_of_entry entries

-- where the last of its tokens ends
abbrev pub tokens_end : List TokenSeen → ℕ
tokens_end tokens = last_token_end 0 tokens

-- the tokens as they are spelled
abbrev pub spelled_tokens : TextEntry → List (List ℕ)
spelled_tokens e = map spelled e.tokens

-- an entry with tokens, or with a syntax error: others are skipped
abbrev pub counts_with : List TokenSeen → Result EndOfEntry Fault → Bool
counts_with [] (Ok e) = false
counts_with [] (Err f) = true
counts_with (t ∷ ts) end = true

abbrev pub entry_counts : TextEntry → Bool
entry_counts e = counts_with e.tokens e.end

-- the offset after the first line feed from an offset on; or that of the octets' end, if no line feed follows
pub record IsNextLine (octets : List ℕ) (at next : ℕ) : Type 0 where
  pub within : next ≤ length octets
  pub behind : drop next octets ≡ drop_through line_feed (drop at octets)

-- the parts that are seen before an offset where reading continues: none at the start; and those up to a syntax error, after whose line it continues
pub data ContinuesAt (octets : List ℕ) : List (Result PartSeen Fault) → ℕ → Type 0 where
  at_start : ContinuesAt octets [] 0
  behind_fault : (passed front : List (Result PartSeen Fault)) (at next : ℕ) (fault : Fault) → ContinuesAt octets passed at → IsSeenFrom octets at (front ++ Err fault ∷ []) → IsNextLine octets fault.at next
      → ContinuesAt octets (passed ++ (front ++ Err fault ∷ [])) next

-- of octets these parts are seen first, and then those that are left, up to the end or the next syntax error
pub record IsSeenPastFaults (octets : List ℕ) (seen left : List (Result PartSeen Fault)) : Type 0 where
  pub passed : List (Result PartSeen Fault)
  pub front : List (Result PartSeen Fault)
  pub at : ℕ
  pub goes_on : ContinuesAt octets passed at
  pub from : IsSeenFrom octets at (front ++ left)
  pub seen_are : seen ≡ passed ++ front
