-- Worked examples of the entries of a text: `a )`, a blank line, and `b`.
use Rattle.std.specs.Prelude.{◌≡◌, false, ℕ, List, [], ◌∷◌, codes, map, refl, Result, Ok, Err}
use Rattle.std.specs.List.{filter}
use Rattle.std.proofs.Common.{lit≤}
use Rattle.dns_lexer.specs.declared.pieces.EndOfEntry.{EndOfEntry}
use Rattle.dns_lexer.specs.declared.pieces.Fault.{Fault}
use Rattle.dns_lexer.specs.declared.pieces.Wrong.TheVariants.{Closing, OpenQuote}
use Rattle.dns_lexer.specs.EntryTokens.{EndIs, TokenIs, TokenSeen}
use Rattle.zone_reader.specs.TextEntries.{IsNextLine, TextEntry, entry_counts, parts_of_entries, spelled_tokens}
use Rattle.zone_reader.specs.TextPieces.{seen_later}

abbrev word : List ℕ → ℕ → TokenSeen
word text at = record { text = text; is_quoted = false; is_adjacent = false; at = at }

abbrev end : ℕ → EndOfEntry
end at = record { at = at; begins_blank = false }

abbrev entry : List TokenSeen → Result EndOfEntry Fault → TextEntry
entry tokens end = record { begins_blank = false; tokens = tokens; end = end }

abbrev cut_off : TextEntry
cut_off = entry (word (codes "a") 0 ∷ []) (Err (record { at = 2; wrong = Closing }))

abbrev last : TextEntry
last = entry (word (codes "b") 5 ∷ []) (Ok (end 6))

-- the syntax error is skipped, and so is the blank line
parts_row : parts_of_entries (cut_off ∷ entry [] (Ok (end 5)) ∷ last ∷ [])
    ≡ Ok (TokenIs (word (codes "a") 0) false) ∷ Err (record { at = 2; wrong = Closing }) ∷ Ok (EndIs (end 5)) ∷ Ok (TokenIs (word (codes "b") 5) false) ∷ Ok (EndIs (end 6)) ∷ []
parts_row = refl

counts_row : filter entry_counts (cut_off ∷ entry [] (Ok (end 5)) ∷ last ∷ []) ≡ cut_off ∷ last ∷ []
counts_row = refl

-- a syntax error before all tokens counts
fault_row : filter entry_counts (entry [] (Err (record { at = 0; wrong = Closing })) ∷ []) ≡ entry [] (Err (record { at = 0; wrong = Closing })) ∷ []
fault_row = refl

spelled_row : spelled_tokens cut_off ≡ codes "a" ∷ []
spelled_row = refl

next_line_row : IsNextLine (codes "a )\n\nb") 2 4
next_line_row = record { within = lit≤ tt; behind = refl }

-- the syntax error is at the line feed; and no line feed follows
feed_row : IsNextLine (codes "\"a\nb") 2 3
feed_row = record { within = lit≤ tt; behind = refl }

no_line_row : IsNextLine (codes "b )") 2 3
no_line_row = record { within = lit≤ tt; behind = refl }

-- four octets further on
later_row : map (seen_later 4) (Ok (TokenIs (word (codes "a") 0) false) ∷ Ok (EndIs (end 2)) ∷ Err (record { at = 3; wrong = OpenQuote 2 }) ∷ [])
    ≡ Ok (TokenIs (word (codes "a") 4) false) ∷ Ok (EndIs (end 6)) ∷ Err (record { at = 7; wrong = OpenQuote 6 }) ∷ []
later_row = refl
