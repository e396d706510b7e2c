-- The parts that a text splits into are tokens, and its pieces are of their kinds.
use Rattle.std.proofs.Common.{◌≡◌, ℕ, zero, suc, ◌+◌, ◌-◌, ◌<◌, ◌≤◌, Bool, true, ◌&&◌, List, [], ◌∷◌, ◌++◌, length, take, drop}
use Rattle.std.proofs.Common.{refl, sym, ap, ◌∙◌, subst, arith, append_assoc, length-append, length-drop, inl, inr}
use Rattle.std.specs.Prelude.{map, Result, Ok, Err, Vec, String}
use Rattle.std.specs.List.{flat_map, list_all, All, AllByRecursion}
use Rattle.std.proofs.lemmas.Bool.{and_parts}
use Rattle.std.proofs.lemmas.List.Elements.{All-from_recursion}
use Rattle.std.proofs.lemmas.List.{take-append-le, drop-append-le, take-append-drop}
use Rattle.dns_symbol.specs.Symbol.{is_word_symbol}
use Rattle.dns_symbol.specs.declared.symbol.Symbol.{Symbol}
use Rattle.dns_lexer.specs.declared.pieces.Piece.{Piece}
use Rattle.dns_lexer.specs.declared.pieces.Piece.TheVariants.{Word as WordAt, Quote as QuoteAt, Comment as CommentAt, End as EndAt}
use Rattle.dns_lexer.specs.declared.pieces.Fault.{Fault}
use Rattle.dns_lexer.specs.Answer.{texts, entries_of}
use Rattle.dns_lexer.specs.Lexeme.{Lexeme, Blank, Line, Open, Close, Note, Word, Quote, lexeme_bytes, is_lexeme, is_quote_symbol, is_note_char}
use Rattle.dns_lexer.specs.Splitting.{Splits, Entries, may_precede, are_lexemes, with_token, entries}
use Rattle.dns_lexer.specs.Token.{IsWord, IsQuote, IsComment, IsToken}
use Rattle.dns_lexer.specs.Pieces.{begins_blank, pieces, IsPieces, IsSpelled, IsWithin, EachWithin, Faulty, Reads, between}
use Rattle.dns_lexer.proofs.Tokens.{symbols_bytes, quote_bytes}
use Rattle.dns_lexer.proofs.PieceSplit.{between_is, split_pieces}

word_is : (s : Symbol) (ss : List Symbol) → list_all is_word_symbol (s ∷ ss) ≡ true → IsWord (lexeme_bytes (Word s ss))
word_is s ss v = record { symbols = s ∷ ss; some = omega arith; valid = v; spelled = sym (symbols_bytes (s ∷ ss)) }

quote_is : (ss : List Symbol) → list_all is_quote_symbol ss ≡ true → IsQuote (lexeme_bytes (Quote ss))
quote_is ss v = record { symbols = ss; valid = v; spelled = quote_bytes ss }

comment_is : (cs : List ℕ) → list_all is_note_char cs ≡ true → IsComment (lexeme_bytes (Note cs))
comment_is cs v = record { characters = cs; valid = v; spelled = refl }

-- the first of lexemes, and the others
first_valid : (l : Lexeme) (ls : List Lexeme) → are_lexemes (l ∷ ls) ≡ true → is_lexeme l ≡ true
first_valid l ls v = (and_parts (is_lexeme l) (may_precede l ls) (and_parts (is_lexeme l && may_precede l ls) (are_lexemes ls) v).0).0

rest_valid : (l : Lexeme) (ls : List Lexeme) → are_lexemes (l ∷ ls) ≡ true → are_lexemes ls ≡ true
rest_valid l ls v = (and_parts (is_lexeme l && may_precede l ls) (are_lexemes ls) v).1

abbrev AreEntries : Entries → Type 0
AreEntries = AllByRecursion (AllByRecursion IsToken)

more_token : (t : List ℕ) (e : Entries) → IsToken t → AreEntries e → AreEntries (with_token t e)
more_token t [] i a = ((i, tt), tt)
more_token t (ts ∷ e) i a = ((i, a.0), a.1)

some_with : (t : List ℕ) (e : Entries) → 0 < length (with_token t e)
some_with t [] = omega arith
some_with t (ts ∷ e) = omega arith

are_entries : (d : ℕ) (ls : List Lexeme) → are_lexemes ls ≡ true → AreEntries (entries d ls)
are_entries d [] v = (tt, tt)
are_entries d (Open ∷ ls) v = are_entries (suc d) ls v
are_entries zero (Line r ∷ ls) v = (tt, are_entries zero ls v)
are_entries (suc d) (Line r ∷ ls) v = are_entries (suc d) ls v
are_entries zero (Close ∷ ls) v = are_entries zero ls v
are_entries (suc d) (Close ∷ ls) v = are_entries d ls v
are_entries d (Blank t ∷ ls) v = are_entries d ls v
are_entries d (Note cs ∷ ls) v = are_entries d ls (rest_valid (Note cs) ls v)
are_entries d (Word s ss ∷ ls) v = more_token (lexeme_bytes (Word s ss)) (entries d ls) (inl (word_is s ss (first_valid (Word s ss) ls v))) (are_entries d ls (rest_valid (Word s ss) ls v))
are_entries d (Quote ss ∷ ls) v = more_token (lexeme_bytes (Quote ss)) (entries d ls) (inr (quote_is ss (first_valid (Quote ss) ls v))) (are_entries d ls (rest_valid (Quote ss) ls v))

some_entry : (d : ℕ) (ls : List Lexeme) → 0 < length (entries d ls)
some_entry d [] = omega arith
some_entry d (Open ∷ ls) = some_entry (suc d) ls
some_entry zero (Line r ∷ ls) = omega arith
some_entry (suc d) (Line r ∷ ls) = some_entry (suc d) ls
some_entry zero (Close ∷ ls) = some_entry zero ls
some_entry (suc d) (Close ∷ ls) = some_entry d ls
some_entry d (Blank t ∷ ls) = some_entry d ls
some_entry d (Note cs ∷ ls) = some_entry d ls
some_entry d (Word s ss ∷ ls) = some_with (lexeme_bytes (Word s ss)) (entries d ls)
some_entry d (Quote ss ∷ ls) = some_with (lexeme_bytes (Quote ss)) (entries d ls)

-- what a text splits into are tokens, in one entry or more
pub splits_into_tokens : (text : List ℕ) (found : Entries) → Splits text found → AllByRecursion (AllByRecursion IsToken) found
splits_into_tokens text found s = subst AreEntries s.cut (are_entries 0 s.lexemes s.valid)

pub splits_into_some : (text : List ℕ) (found : Entries) → Splits text found → 0 < length found
splits_into_some text found s = subst (λ e. 0 < length e) s.cut (some_entry 0 s.lexemes)

-- of the entries that `split` answers
pub entries_of_tokens : {A : Type 0} (v : List (Vec (String A) A)) → AllByRecursion (AllByRecursion IsToken) (entries_of v) → All (λ e. AllByRecursion IsToken (texts e.items)) v
entries_of_tokens {A} v h = All-from_recursion (λ e. AllByRecursion IsToken (texts e.items)) v (go v h)
  where
    go : (v : List (Vec (String A) A)) → AllByRecursion (AllByRecursion IsToken) (entries_of v) → AllByRecursion (λ e. AllByRecursion IsToken (texts e.items)) v
    go [] h = tt
    go (e ∷ v) h = (h.0, go v h.1)

-- pieces are of their kinds
abbrev Spelled : List ℕ → List Piece → Type 0
Spelled text found = AllByRecursion (IsSpelled text) (map Ok found)

abbrev Says : List Lexeme → Type 0
Says ls = (text before : List ℕ) (d at : ℕ) (b : Bool) → before ++ flat_map lexeme_bytes ls ≡ text → at ≡ length before → are_lexemes ls ≡ true → Spelled text (pieces at d b ls)

on : (l : Lexeme) (ls : List Lexeme) → Says ls → (text before : List ℕ) (d at : ℕ) (b : Bool) → before ++ flat_map lexeme_bytes (l ∷ ls) ≡ text → at ≡ length before
    → are_lexemes (l ∷ ls) ≡ true → Spelled text (pieces (at + length (lexeme_bytes l)) d b ls)
on l ls ih text before d at b e k v = ih text (before ++ lexeme_bytes l) d (at + length (lexeme_bytes l)) b (append_assoc before (lexeme_bytes l) (flat_map lexeme_bytes ls) ∙ e)
    (omega (arith, k, length-append before (lexeme_bytes l))) (rest_valid l ls v)

-- the octets of a lexeme, at its offset
here : (P : List ℕ → Type 0) (l : Lexeme) (ls : List Lexeme) (text before : List ℕ) (at : ℕ) → before ++ flat_map lexeme_bytes (l ∷ ls) ≡ text → at ≡ length before
    → P (lexeme_bytes l) → P (between text at (at + length (lexeme_bytes l)))
here P l ls text before at e k h = subst P (sym (between_is before (lexeme_bytes l) (flat_map lexeme_bytes ls) text at e k)) h

says : (ls : List Lexeme) → Says ls
says [] text before d at b e k v = (tt, tt)
says (Open ∷ ls) text before d at b e k v = on Open ls (says ls) text before (suc d) at b e k v
says (Close ∷ ls) text before zero at b e k v = on Close ls (says ls) text before zero at b e k v
says (Close ∷ ls) text before (suc d) at b e k v = on Close ls (says ls) text before d at b e k v
says (Line r ∷ ls) text before zero at b e k v = (tt, on (Line r) ls (says ls) text before zero at (begins_blank ls) e k v)
says (Line r ∷ ls) text before (suc d) at b e k v = on (Line r) ls (says ls) text before (suc d) at b e k v
says (Blank t ∷ ls) text before d at b e k v = on (Blank t) ls (says ls) text before d at b e k v
says (Note cs ∷ ls) text before d at b e k v =
    (here IsComment (Note cs) ls text before at e k (comment_is cs (first_valid (Note cs) ls v)), on (Note cs) ls (says ls) text before d at b e k v)
says (Word s ss ∷ ls) text before d at b e k v =
    (here IsWord (Word s ss) ls text before at e k (word_is s ss (first_valid (Word s ss) ls v)), on (Word s ss) ls (says ls) text before d at b e k v)
says (Quote ss ∷ ls) text before d at b e k v =
    (here IsQuote (Quote ss) ls text before at e k (quote_is ss (first_valid (Quote ss) ls v)), on (Quote ss) ls (says ls) text before d at b e k v)

pub pieces_spelled : (text : List ℕ) (found : List Piece) → IsPieces text found → AllByRecursion (IsSpelled text) (map Ok found)
pieces_spelled text found p = subst (Spelled text) p.placed (says p.lexemes text [] 0 0 (begins_blank p.lexemes) p.spelled refl p.valid)

-- the same of a text that begins so
between_front : (front more : List ℕ) (s e : ℕ) → s ≤ e → e ≤ length front → between (front ++ more) s e ≡ between front s e
between_front front more s e o w =
    ap (take (e - s)) (drop-append-le s front more (omega arith)) ∙ take-append-le (e - s) (drop s front) more (omega (arith, length-drop s front))

abbrev Alike : List ℕ → List ℕ → Result Piece Fault → Type 0
Alike text other p = IsSpelled text p → IsSpelled other p

alike : (text front rest more : List ℕ) → front ++ rest ≡ text → (p : Piece) → IsWithin (length front) (Ok p) → Alike (front ++ more) text (Ok p)
alike text front rest more e p w h = go p w h
  where
    same : (i j : ℕ) → (i ≤ j) × (j ≤ length front) → between (front ++ more) i j ≡ between text i j
    same i j w = between_front front more i j w.0 w.1 ∙ sym (between_front front rest i j w.0 w.1) ∙ ap (λ l. between l i j) e

    go : (p : Piece) → IsWithin (length front) (Ok p) → Alike (front ++ more) text (Ok p)
    go (WordAt p) w h = subst IsWord (same p.start p.end w) h
    go (QuoteAt p) w h = subst IsQuote (same p.start p.end w) h
    go (CommentAt p) w h = subst IsComment (same p.start p.end w) h
    go (EndAt p) w h = tt

front_spelled : (text front rest more : List ℕ) → front ++ rest ≡ text → (found others : List Piece) → EachWithin (length front) (map Ok found) → Spelled (front ++ more) (found ++ others)
    → (f : Fault) → AllByRecursion (IsSpelled text) (map Ok found ++ Err f ∷ [])
front_spelled text front rest more e [] others w h f = (tt, tt)
front_spelled text front rest more e (p ∷ found) others w h f = (alike text front rest more e p w.0 h.0, front_spelled text front rest more e found others w.1 h.1 f)

faulty_spelled : (text : List ℕ) (given : List (Result Piece Fault)) → Faulty text given → AllByRecursion (IsSpelled text) given
faulty_spelled text given f =
    let front : List ℕ = take f.fault.at text in
    let viable = f.is_fault.bad.at.viable in
    let all = split_pieces (front ++ viable.tail) viable.found viable.splits in
    let begun = f.settled.first viable.tail all.0 all.1 in
    subst (AllByRecursion (IsSpelled text)) (sym f.is)
    (front_spelled text front (drop f.fault.at text) viable.tail (take-append-drop f.fault.at text) f.found begun.0 f.settled.ended
    (subst (Spelled (front ++ viable.tail)) begun.1 (pieces_spelled (front ++ viable.tail) all.0 all.1)) f.fault)

-- the pieces of the iterator are of their kinds
pub given_spelled : (text : List ℕ) (given : List (Result Piece Fault)) → Reads text given → AllByRecursion (IsSpelled text) given
given_spelled text given (inl w) = subst (AllByRecursion (IsSpelled text)) (sym w.is) (pieces_spelled text w.found w.placed)
given_spelled text given (inr f) = faulty_spelled text given f
