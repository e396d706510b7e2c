-- Worked examples: texts, and what is read of each, entry by entry.
use Rattle.std.specs.Prelude.{◌≡◌, Bool, true, false, ℕ, List, [], ◌∷◌, map, codes, refl, Some, None, Result, Ok, Err}
use Rattle.std.proofs.Common.{inl, lit≤}
use lib.Utf8.{encode}
use Rattle.dns_symbol.specs.declared.symbol.Symbol.TheVariants.{Char}
use Rattle.dns_lexer.specs.declared.pieces.EndOfEntry.{EndOfEntry}
use Rattle.dns_lexer.specs.declared.pieces.Fault.{Fault}
use Rattle.dns_lexer.specs.declared.pieces.Piece.{Piece}
use Rattle.dns_lexer.specs.declared.pieces.Wrong.TheVariants.{Closing}
use Rattle.dns_lexer.specs.Lexeme.{Blank, Line, Word}
use Rattle.dns_lexer.specs.Pieces.{AreItemsOf, end_at, word_at}
use Rattle.dns_lexer.specs.EntryTokens.{EndIs, IsSeen, PartSeen, TokenIs, TokenSeen}
use Rattle.zone_reader.specs.Source.{BeginsEntry, FinishesEntry, SourceSeen, StartsAfterLine, entry_end, unread_entry_tokens, last_token_end, stop_place}

abbrev word : List ℕ → ℕ → TokenSeen
word text at = record { text = text; is_quoted = false; is_adjacent = false; at = at }

abbrev end : ℕ → Bool → EndOfEntry
end at blank = record { at = at; begins_blank = blank }

abbrev source : ℕ → Bool → List (Result PartSeen Fault) → SourceSeen
source began is_open parts = record { began = began; is_open = is_open; taken = None; parts = parts }

-- two words, a blank line, and an entry that begins with a blank
abbrev last_entry : List (Result PartSeen Fault)
last_entry = Ok (TokenIs (word (codes "c") 6) true) ∷ Ok (EndIs (end 7 true)) ∷ []

abbrev later_entries : List (Result PartSeen Fault)
later_entries = Ok (EndIs (end 5 false)) ∷ last_entry

abbrev all_entries : List (Result PartSeen Fault)
all_entries = Ok (TokenIs (word (codes "a") 0) false) ∷ Ok (TokenIs (word (codes "b") 2) false) ∷ Ok (EndIs (end 4 false)) ∷ later_entries

abbrev pieces_of_all : List Piece
pieces_of_all = word_at 0 1 ∷ word_at 2 3 ∷ end_at 4 false ∷ end_at 5 false ∷ word_at 6 7 ∷ end_at 7 true ∷ []

given_of_all : AreItemsOf (codes "a b\n\n c") (map Ok pieces_of_all)
unfolding encode
given_of_all = (
  inl (record {
    found = pieces_of_all;
    is = refl;
    placed = record {
      lexemes = Word (Char 97) [] ∷ Blank false ∷ Word (Char 98) [] ∷ Line false ∷ Line false ∷ Blank false ∷ Word (Char 99) [] ∷ [];
      spelled = refl;
      valid = refl;
      nested = refl;
      placed = refl;
    };
  }),
  ((lit≤ tt, lit≤ tt), ((lit≤ tt, lit≤ tt), (lit≤ tt, (lit≤ tt, ((lit≤ tt, lit≤ tt), (lit≤ tt, tt)))))),
)

seen_of_all : IsSeen (codes "a b\n\n c") all_entries
seen_of_all = (map Ok pieces_of_all, given_of_all, refl)

first_begins : BeginsEntry (source 0 false all_entries) (Ok (Some (record { at = 0; begins_blank = false }))) (source 0 true all_entries)
first_begins = record { ends = []; passed = refl; began = refl; start = (refl, refl, (refl, (refl, refl)), tt, refl) }

first_is_left : unread_entry_tokens (source 0 true all_entries) ≡ word (codes "a") 0 ∷ word (codes "b") 2 ∷ []
first_is_left = refl

-- the entry ends after its last token, and not after its line
first_ends : entry_end (source 0 true all_entries) ≡ record { at = 3; behind = Some (Ok (EndIs (end 4 false)) ∷ later_entries) }
first_ends = refl

first_stops : stop_place (source 0 true all_entries) ≡ 4
first_stops = refl

-- so also if its first token was taken, and if both were
abbrev one_taken : SourceSeen
one_taken = record { began = 0; is_open = true; taken = Some 1; parts = Ok (TokenIs (word (codes "b") 2) false) ∷ Ok (EndIs (end 4 false)) ∷ later_entries }

abbrev both_taken : SourceSeen
both_taken = record { began = 0; is_open = true; taken = Some 3; parts = Ok (EndIs (end 4 false)) ∷ later_entries }

one_taken_ends : entry_end one_taken ≡ entry_end (source 0 true all_entries)
one_taken_ends = refl

both_taken_end : entry_end both_taken ≡ entry_end (source 0 true all_entries)
both_taken_end = refl

-- `a ( "b" ; c`, and a parenthesis on the next line: the entry ends after the double quote
quote_ends : last_token_end 0 (word (codes "a") 0 ∷ record { text = codes "b"; is_quoted = true; is_adjacent = false; at = 4 } ∷ []) ≡ 7
quote_ends = refl

first_is_finished : FinishesEntry (source 0 true all_entries) (Ok (Some (end 4 false))) (source 4 false later_entries)
first_is_finished = (refl, refl, refl, refl, refl)

blank_line_is_passed : BeginsEntry (source 4 false later_entries) (Ok (Some (record { at = 5; begins_blank = true }))) (source 5 true last_entry)
blank_line_is_passed = record { ends = end 5 false ∷ []; passed = refl; began = refl; start = (refl, refl, (refl, refl), tt, refl) }

nothing_is_left : BeginsEntry (source 5 true last_entry) (Ok None) (source 7 false [])
nothing_is_left = record { ends = end 7 true ∷ []; passed = refl; began = refl; start = (refl, refl) }

-- a syntax error cuts an entry off: `a )`
abbrev cut_off : List (Result PartSeen Fault)
cut_off = Ok (TokenIs (word (codes "a") 0) false) ∷ Err (record { at = 2; wrong = Closing }) ∷ []

cut_is_left : unread_entry_tokens (source 0 true cut_off) ≡ word (codes "a") 0 ∷ []
cut_is_left = refl

cut_ends : entry_end (source 0 true cut_off) ≡ record { at = 1; behind = Some (Err (record { at = 2; wrong = Closing }) ∷ []) }
cut_ends = refl

cut_is_refused : FinishesEntry (source 0 true cut_off) (Err (record { at = 2; wrong = Closing })) (source 0 true (Err (record { at = 2; wrong = Closing }) ∷ []))
cut_is_refused = (refl, refl, refl)

-- the line after the syntax error of `a )`
given_of_line : AreItemsOf (codes "b") (map Ok (word_at 0 1 ∷ end_at 1 false ∷ []))
unfolding encode
given_of_line = (
  inl (record {
    found = word_at 0 1 ∷ end_at 1 false ∷ [];
    is = refl;
    placed = record { lexemes = Word (Char 98) [] ∷ []; spelled = refl; valid = refl; nested = refl; placed = refl };
  }),
  ((lit≤ tt, lit≤ tt), (lit≤ tt, tt)),
)

goes_on_behind : StartsAfterLine (codes "a )\nb") 2 (source 4 false (Ok (TokenIs (word (codes "b") 4) false) ∷ Ok (EndIs (end 5 false)) ∷ []))
goes_on_behind = record {
  within = lit≤ tt;
  behind = refl;
  closed = refl;
  taken = refl;
  parts = (map Ok (word_at 4 5 ∷ end_at 5 false ∷ []), (map Ok (word_at 0 1 ∷ end_at 1 false ∷ []), given_of_line, refl), refl);
}
