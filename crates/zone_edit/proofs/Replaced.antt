-- A text in which tokens are replaced by tokens has the same lexemes but for these tokens.
use Rattle.std.proofs.Common.{ℕ, zero, suc, ◌≡◌, ◌≤◌, ◌+◌, ◌-◌, ◌⊎◌, inl, inr, Bool, true, false, ◌&&◌, List, [], ◌∷◌, ◌++◌, length, take, drop, refl, sym, ap, subst, ◌∙◌, arith}
use Rattle.std.specs.Prelude.{⊤}
use Rattle.std.specs.List.{flat_map}
use Rattle.std.proofs.Math.Seq.{drop-append_seam}
use Rattle.std.proofs.lemmas.Bool.{and_parts, and_from}
use Rattle.dns_symbol.specs.declared.symbol.Symbol.{Symbol}
use Rattle.dns_lexer.specs.Lexeme.{Lexeme, Blank, Line, Open, Close, Note, Word, Quote, is_lexeme, lexeme_bytes}
use Rattle.dns_lexer.specs.Splitting.{Splits, are_lexemes, entries, may_precede, nests}
use Rattle.zone_edit.specs.declared.edit.Edit.{Edit}
use Rattle.zone_edit.specs.Edits.{AreApart, edited, edited_from}
use Rattle.zone_edit.specs.Replaced.{MayReplace, ReplacesTokens, quote_for_quote, quote_for_word, word_for_word}
use Rattle.zone_edit.proofs.Applying.{ap2, edited_before, none_left}

-- the edits begin at or after each lexeme that stays
order_earlier : {B : Type 0} (at to : ℕ) (edits : List (Edit B)) → at ≤ to → AreApart to edits → AreApart at edits
order_earlier at to [] le o = tt
order_earlier at to (e ∷ edits) le o = ((omega (arith, le, o.0.0), o.0.1), o.1)

pub in_order : {B : Type 0} (at : ℕ) (edits : List (Edit B)) (ls ms : List Lexeme) → ReplacesTokens at edits ls ms → AreApart at edits
in_order at edits [] [] r = none_left at edits r
in_order at edits [] (m ∷ ms) r = absurd r
in_order at edits (l ∷ ls) [] r = absurd r
in_order at edits (l ∷ ls) (m ∷ ms) (inl r) = order_earlier at (at + length (lexeme_bytes l)) edits (omega arith) (in_order (at + length (lexeme_bytes l)) edits ls ms r.1)
in_order at edits (l ∷ ls) (m ∷ ms) (inr (e, rest, is, start, end, text, may, r)) =
    let o = in_order (at + length (lexeme_bytes l)) rest ls ms r in
    subst (AreApart at) (sym is) ((omega (arith, start), omega (arith, start, end)), subst (λ n. AreApart n rest) (sym end) o)

pub edited_spelled : {B : Type 0} (at : ℕ) (edits : List (Edit B)) (ls ms : List Lexeme) → ReplacesTokens at edits ls ms
    → flat_map lexeme_bytes ms ≡ edited_from at edits (flat_map lexeme_bytes ls)
edited_spelled at edits [] [] r = ap (λ es. edited_from at es []) (sym r)
edited_spelled at edits [] (m ∷ ms) r = absurd r
edited_spelled at edits (l ∷ ls) [] r = absurd r
edited_spelled at edits (l ∷ ls) (m ∷ ms) (inl r) =
    let next = at + length (lexeme_bytes l) in
    ap2 (λ k rest. lexeme_bytes k ++ rest) (sym r.0) (edited_spelled next edits ls ms r.1)
    ∙ sym (edited_before at next edits (lexeme_bytes l) (flat_map lexeme_bytes ls) refl (in_order next edits ls ms r.1))
edited_spelled at edits (l ∷ ls) (m ∷ ms) (inr (e, rest, is, start, end, text, may, r)) =
    let next = at + length (lexeme_bytes l) in
    let all = lexeme_bytes l ++ flat_map lexeme_bytes ls in
    let nothing : e.start - at ≡ 0 = omega (arith, start) in
    let whole : e.end - at ≡ length (lexeme_bytes l) = omega (arith, end) in
    ap2 (λ t after. t ++ after) (sym text) (edited_spelled next rest ls ms r)
    ∙ ap2 (λ n after. e.text.items ++ edited_from n rest after) (sym end)
    (sym (ap (λ n. drop n all) whole ∙ drop-append_seam (lexeme_bytes l) (flat_map lexeme_bytes ls)))
    ∙ ap (λ n. take n all ++ (e.text.items ++ edited_from e.end rest (drop (e.end - at) all))) (sym nothing)
    ∙ ap (λ es. edited_from at es all) (sym is)

-- lexemes alike: the same, or a token for a token
abbrev Alike : Lexeme → Lexeme → Type 0
Alike l m = (l ≡ m) ⊎ MayReplace l m

alike_valid : (l m : Lexeme) → Alike l m → is_lexeme l ≡ true → is_lexeme m ≡ true
alike_valid l m (inl same) h = subst (λ k. is_lexeme k ≡ true) same h
alike_valid _ _ (inr (word_for_word s ss t ts may)) h = may
alike_valid _ _ (inr (quote_for_word s ss ts may)) h = may
alike_valid _ _ (inr (quote_for_quote ss ts may)) h = may

-- the same lexeme before other lexemes
nests_same : (l : Lexeme) (d : ℕ) (ls ms : List Lexeme) → ((k : ℕ) → nests k ls ≡ nests k ms) → nests d (l ∷ ls) ≡ nests d (l ∷ ms)
nests_same (Blank b) d ls ms h = h d
nests_same (Line b) d ls ms h = h d
nests_same Open d ls ms h = h (suc d)
nests_same Close zero ls ms h = refl
nests_same Close (suc d) ls ms h = h d
nests_same (Note cs) d ls ms h = h d
nests_same (Word s ss) d ls ms h = h d
nests_same (Quote ss) d ls ms h = h d

alike_nests : (l m : Lexeme) (d : ℕ) (ls ms : List Lexeme) → Alike l m → ((k : ℕ) → nests k ls ≡ nests k ms) → nests d (l ∷ ls) ≡ nests d (m ∷ ms)
alike_nests l m d ls ms (inl same) h = nests_same l d ls ms h ∙ ap (λ k. nests d (k ∷ ms)) same
alike_nests _ _ d ls ms (inr (word_for_word s ss t ts may)) h = h d
alike_nests _ _ d ls ms (inr (quote_for_word s ss ts may)) h = h d
alike_nests _ _ d ls ms (inr (quote_for_quote ss ts may)) h = h d

replaced_nests : {B : Type 0} (at : ℕ) (edits : List (Edit B)) (ls ms : List Lexeme) → ReplacesTokens at edits ls ms → (d : ℕ) → nests d ls ≡ nests d ms
replaced_nests at edits [] [] r d = refl
replaced_nests at edits [] (m ∷ ms) r d = absurd r
replaced_nests at edits (l ∷ ls) [] r d = absurd r
replaced_nests at edits (l ∷ ls) (m ∷ ms) (inl r) d = alike_nests l m d ls ms (inl r.0) (replaced_nests (at + length (lexeme_bytes l)) edits ls ms r.1)
replaced_nests at edits (l ∷ ls) (m ∷ ms) (inr (e, rest, is, start, end, text, may, r)) d =
    alike_nests l m d ls ms (inr may) (replaced_nests (at + length (lexeme_bytes l)) rest ls ms r)

-- no word comes first
abbrev no_word : List Lexeme → Bool
no_word (Word s ss ∷ ls) = false
no_word _ = true

-- a line comes first, or nothing does
abbrev line_first : List Lexeme → Bool
line_first [] = true
line_first (Line b ∷ ls) = true
line_first (_ ∷ ls) = false

word_precedes : (s : Symbol) (ss : List Symbol) (ls : List Lexeme) → may_precede (Word s ss) ls ≡ no_word ls
word_precedes s ss [] = refl
word_precedes s ss (Blank b ∷ ls) = refl
word_precedes s ss (Line b ∷ ls) = refl
word_precedes s ss (Open ∷ ls) = refl
word_precedes s ss (Close ∷ ls) = refl
word_precedes s ss (Note cs ∷ ls) = refl
word_precedes s ss (Word t ts ∷ ls) = refl
word_precedes s ss (Quote ts ∷ ls) = refl

note_precedes : (cs : List ℕ) (ls : List Lexeme) → may_precede (Note cs) ls ≡ line_first ls
note_precedes cs [] = refl
note_precedes cs (Blank b ∷ ls) = refl
note_precedes cs (Line b ∷ ls) = refl
note_precedes cs (Open ∷ ls) = refl
note_precedes cs (Close ∷ ls) = refl
note_precedes cs (Note ds ∷ ls) = refl
note_precedes cs (Word t ts ∷ ls) = refl
note_precedes cs (Quote ts ∷ ls) = refl

-- the first lexemes are alike
abbrev HeadsAlike : List Lexeme → List Lexeme → Type 0
HeadsAlike [] [] = ⊤
HeadsAlike [] (m ∷ ms) = ⊥
HeadsAlike (l ∷ ls) [] = ⊥
HeadsAlike (l ∷ ls) (m ∷ ms) = Alike l m

no_word_tail : (l : Lexeme) (ls ms : List Lexeme) → no_word (l ∷ ls) ≡ no_word (l ∷ ms)
no_word_tail (Blank b) ls ms = refl
no_word_tail (Line b) ls ms = refl
no_word_tail Open ls ms = refl
no_word_tail Close ls ms = refl
no_word_tail (Note cs) ls ms = refl
no_word_tail (Word s ss) ls ms = refl
no_word_tail (Quote ss) ls ms = refl

line_tail : (l : Lexeme) (ls ms : List Lexeme) → line_first (l ∷ ls) ≡ line_first (l ∷ ms)
line_tail (Blank b) ls ms = refl
line_tail (Line b) ls ms = refl
line_tail Open ls ms = refl
line_tail Close ls ms = refl
line_tail (Note cs) ls ms = refl
line_tail (Word s ss) ls ms = refl
line_tail (Quote ss) ls ms = refl

still_no_word : (ls ms : List Lexeme) → HeadsAlike ls ms → no_word ls ≡ true → no_word ms ≡ true
still_no_word [] [] a h = h
still_no_word [] (m ∷ ms) a h = absurd a
still_no_word (l ∷ ls) [] a h = absurd a
still_no_word (l ∷ ls) (m ∷ ms) (inl same) h = ap (λ k. no_word (k ∷ ms)) (sym same) ∙ no_word_tail l ms ls ∙ h
still_no_word (_ ∷ ls) (_ ∷ ms) (inr (word_for_word s ss t ts may)) h = h
still_no_word (_ ∷ ls) (_ ∷ ms) (inr (quote_for_word s ss ts may)) h = refl
still_no_word (_ ∷ ls) (_ ∷ ms) (inr (quote_for_quote ss ts may)) h = refl

still_line : (ls ms : List Lexeme) → HeadsAlike ls ms → line_first ls ≡ true → line_first ms ≡ true
still_line [] [] a h = h
still_line [] (m ∷ ms) a h = absurd a
still_line (l ∷ ls) [] a h = absurd a
still_line (l ∷ ls) (m ∷ ms) (inl same) h = ap (λ k. line_first (k ∷ ms)) (sym same) ∙ line_tail l ms ls ∙ h
still_line (_ ∷ ls) (_ ∷ ms) (inr (word_for_word s ss t ts may)) h = h
still_line (_ ∷ ls) (_ ∷ ms) (inr (quote_for_word s ss ts may)) h = h
still_line (_ ∷ ls) (_ ∷ ms) (inr (quote_for_quote ss ts may)) h = h

same_precedes : (l : Lexeme) (ls ms : List Lexeme) → HeadsAlike ls ms → may_precede l ls ≡ true → may_precede l ms ≡ true
same_precedes (Blank b) ls ms a h = refl
same_precedes (Line b) ls ms a h = refl
same_precedes Open ls ms a h = refl
same_precedes Close ls ms a h = refl
same_precedes (Note cs) ls ms a h = note_precedes cs ms ∙ still_line ls ms a (sym (note_precedes cs ls) ∙ h)
same_precedes (Word s ss) ls ms a h = word_precedes s ss ms ∙ still_no_word ls ms a (sym (word_precedes s ss ls) ∙ h)
same_precedes (Quote ss) ls ms a h = refl

alike_precedes : (l m : Lexeme) (ls ms : List Lexeme) → Alike l m → HeadsAlike ls ms → may_precede l ls ≡ true → may_precede m ms ≡ true
alike_precedes l m ls ms (inl same) a h = ap (λ k. may_precede k ms) (sym same) ∙ same_precedes l ls ms a h
alike_precedes _ _ ls ms (inr (word_for_word s ss t ts may)) a h = word_precedes t ts ms ∙ still_no_word ls ms a (sym (word_precedes s ss ls) ∙ h)
alike_precedes _ _ ls ms (inr (quote_for_word s ss ts may)) a h = refl
alike_precedes _ _ ls ms (inr (quote_for_quote ss ts may)) a h = refl

heads_alike : {B : Type 0} (at : ℕ) (edits : List (Edit B)) (ls ms : List Lexeme) → ReplacesTokens at edits ls ms → HeadsAlike ls ms
heads_alike at edits [] [] r = tt
heads_alike at edits [] (m ∷ ms) r = r
heads_alike at edits (l ∷ ls) [] r = r
heads_alike at edits (l ∷ ls) (m ∷ ms) (inl r) = inl r.0
heads_alike at edits (l ∷ ls) (m ∷ ms) (inr (e, rest, is, start, end, text, may, r)) = inr may

valid_next : (l m : Lexeme) (ls ms : List Lexeme) → Alike l m → HeadsAlike ls ms → (are_lexemes ls ≡ true → are_lexemes ms ≡ true)
    → are_lexemes (l ∷ ls) ≡ true → are_lexemes (m ∷ ms) ≡ true
valid_next l m ls ms alike heads later h =
    let p = and_parts (is_lexeme l && may_precede l ls) (are_lexemes ls) h in
    let q = and_parts (is_lexeme l) (may_precede l ls) p.0 in
    and_from (is_lexeme m && may_precede m ms) (are_lexemes ms)
    (and_from (is_lexeme m) (may_precede m ms) (alike_valid l m alike q.0) (alike_precedes l m ls ms alike heads q.1)) (later p.1)

replaced_valid : {B : Type 0} (at : ℕ) (edits : List (Edit B)) (ls ms : List Lexeme) → ReplacesTokens at edits ls ms → are_lexemes ls ≡ true → are_lexemes ms ≡ true
replaced_valid at edits [] [] r h = h
replaced_valid at edits [] (m ∷ ms) r h = absurd r
replaced_valid at edits (l ∷ ls) [] r h = absurd r
replaced_valid at edits (l ∷ ls) (m ∷ ms) (inl r) h =
    valid_next l m ls ms (inl r.0) (heads_alike (at + length (lexeme_bytes l)) edits ls ms r.1) (replaced_valid (at + length (lexeme_bytes l)) edits ls ms r.1) h
replaced_valid at edits (l ∷ ls) (m ∷ ms) (inr (e, rest, is, start, end, text, may, r)) h =
    valid_next l m ls ms (inr may) (heads_alike (at + length (lexeme_bytes l)) rest ls ms r) (replaced_valid (at + length (lexeme_bytes l)) rest ls ms r) h

-- the edited text splits into the entries of the new lexemes
pub tokens_replaced : {B : Type 0} (edits : List (Edit B)) (text : List ℕ) (ls ms : List Lexeme) → flat_map lexeme_bytes ls ≡ text → are_lexemes ls ≡ true → nests 0 ls ≡ true
    → ReplacesTokens 0 edits ls ms → Splits (edited edits text) (entries 0 ms)
tokens_replaced edits text ls ms spelled valid nested r = record {
  lexemes = ms;
  spelled = edited_spelled 0 edits ls ms r ∙ ap (edited_from 0 edits) spelled;
  valid = replaced_valid 0 edits ls ms r valid;
  nested = sym (replaced_nests 0 edits ls ms r 0) ∙ nested;
  cut = refl;
}
