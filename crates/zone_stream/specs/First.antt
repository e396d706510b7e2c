-- The first entry of octets.
use Rattle.std.specs.Prelude.{◌≡◌, ◌<◌, ◌≤◌, ◌⊎◌, ℕ, Bool, true, false, List, [], ◌∷◌, ◌++◌, length, map, Option, Some, None, Result, Ok, Err}
use Rattle.dns_lexer.specs.EntryTokens.{EndIs, IsSeen, PartSeen, TokenIs, TokenSeen}
use Rattle.dns_lexer.specs.declared.pieces.EndOfEntry.{EndOfEntry}
use Rattle.dns_lexer.specs.declared.pieces.Fault.{Fault}
use Rattle.dns_lexer.specs.declared.pieces.Piece.{Piece}
use Rattle.zone_reader.specs.FirstEntry.{StopsFirst}

-- the parts of one entry's tokens, by whether it begins with a blank
abbrev pub parts_of : Bool → List TokenSeen → List (Result PartSeen Fault)
parts_of blank tokens = map (λ t. Ok (TokenIs t blank)) tokens

-- a text has these tokens first, and then this end of its first entry; or this syntax error, and nothing after it
abbrev pub BeginsEntryWith : List ℕ → Bool → List TokenSeen → Result EndOfEntry Fault → Type 0
BeginsEntryWith text blank tokens (Ok end) = (left : List (Result PartSeen Fault)) × IsSeen text (parts_of blank tokens ++ Ok (EndIs end) ∷ left)
BeginsEntryWith text blank tokens (Err f) = IsSeen text (parts_of blank tokens ++ Err f ∷ [])

-- ---- by the pieces of octets

-- the first entry ends at an offset, and something comes after it or no octets follow; or a syntax error comes before its end, and before that of the octets or no octets follow; or octets that follow may change either
abbrev pub FirstEntryEnds : List ℕ → Bool → Option (Result ℕ Fault) → Type 0
FirstEntryEnds octets last (Some (Ok at)) =
    (end : EndOfEntry) × (left : List (Result Piece Fault)) × StopsFirst octets (Ok end) left × (end.at ≡ at) × ((0 < length left) ⊎ (last ≡ true))
FirstEntryEnds octets last (Some (Err f)) = StopsFirst octets (Err f) [] × ((f.at < length octets) ⊎ (last ≡ true))
FirstEntryEnds octets last None =
    (last ≡ false) × (((end : EndOfEntry) × StopsFirst octets (Ok end) []) ⊎ ((f : Fault) × StopsFirst octets (Err f) [] × (length octets ≤ f.at)))
