-- What is seen of a text whose tokens are not adjacent, in lines that don't begin with a blank.
use Rattle.std.proofs.Common.{◌≡◌, ℕ, zero, suc, ◌+◌, ◌-◌, ◌<◌, ◌≤◌, Bool, true, false, true≢false, List, [], ◌∷◌, ◌++◌, length, drop, refl, sym, ap, ◌∙◌, subst, arith, append_assoc, append-nil, length-append}
use Rattle.std.specs.Prelude.{⊤, ◌&&◌, ◌==◌, not, map, Option, Some, None, Result, Ok, Err}
use Rattle.std.specs.List.{AllByRecursion, flat_map, list_all}
use Rattle.std.proofs.lemmas.Bool.{and_parts, eqb-true, ne_eqb}
use Rattle.std.proofs.lemmas.List.{drop_at}
use Rattle.std.specs.Prelude.{encode_utf8}
use Rattle.dns_symbol.specs.Symbol.{bytes, is_word_symbol}
use Rattle.dns_symbol.specs.declared.symbol.Symbol.{Symbol}
use Rattle.dns_symbol.specs.declared.symbol.Symbol.TheVariants.{Char, SimpleEscape, DecimalEscape}
use Rattle.dns_lexer.specs.declared.pieces.Fault.{Fault}
use Rattle.dns_lexer.specs.declared.pieces.Piece.{Piece}
use Rattle.dns_lexer.specs.EntryTokens.{EndIs, PartSeen, TokenIs, TokenSeen, ends_at, seen_from, spelled}
use Rattle.dns_lexer.specs.Lexeme.{Lexeme, Blank, Line, Open, Close, Note, Word, Quote, is_lexeme, is_quote_symbol, lexeme_bytes}
use Rattle.dns_lexer.specs.Pieces.{IsPieces, begins_blank, between, pieces}
use Rattle.dns_lexer.specs.Run.{first_blank, is_blank}
use Rattle.dns_lexer.specs.Splitting.{are_lexemes, is_tight, may_precede, nests}
use Rattle.dns_lexer.specs.CursorStates.{blank_at}
use Rattle.dns_lexer.specs.Token.{IsQuote, IsWord}
use Rattle.dns_lexer.proofs.PieceLexemes.{blank_bytes, close_bytes, first_blank_char, line_bytes, note_bytes, open_bytes}
use Rattle.dns_lexer.proofs.PieceSplit.{between_is, pieces_one_way}
use Rattle.dns_lexer.proofs.Tokens.{quote_bytes, symbols_bytes}
use Rattle.dns_laws.proofs.DocumentLayouts.{stands_apart}

-- ---- tokens are words or quoted texts, and not both

word_pieces : (x : List ℕ) (symbols : List Symbol) → 0 < length symbols → list_all is_word_symbol symbols ≡ true → x ≡ flat_map bytes symbols → (y : Symbol) × (ss : List Symbol) × IsPieces x (pieces 0 0 false (Word y ss ∷ []))
word_pieces x [] some valid is = absurd (omega (arith, some))
word_pieces x (y ∷ ss) some valid is =
    (y, ss, record { lexemes = Word y ss ∷ []; spelled = append-nil (lexeme_bytes (Word y ss)) ∙ sym (symbols_bytes (y ∷ ss)) ∙ sym is; valid = rw valid refl; nested = refl; placed = refl })

quote_pieces : (x : List ℕ) (q : IsQuote x) → IsPieces x (pieces 0 0 false (Quote q.symbols ∷ []))
quote_pieces x q = record { lexemes = Quote q.symbols ∷ []; spelled = append-nil (lexeme_bytes (Quote q.symbols)) ∙ quote_bytes q.symbols ∙ sym q.spelled; valid = rw q.valid refl; nested = refl; placed = refl }

pub not_both : (x : List ℕ) → IsWord x → IsQuote x → ⊥
not_both x w q =
    let p = word_pieces x w.symbols w.some w.valid w.spelled in
    let same = pieces_one_way x (pieces 0 0 false (Word p.0 p.1 ∷ [])) (pieces 0 0 false (Quote q.symbols ∷ [])) p.2 (quote_pieces x q) in
    cc

-- ---- a text doesn't begin with a blank if its lexemes don't

no_blank : (c : ℕ) → is_word_symbol (Char c) ≡ true → is_blank c ≡ false
no_blank c h = by (c == 32) (c == 9) refl refl
  where
    by : (s t : Bool) → (c == 32) ≡ s → (c == 9) ≡ t → is_blank c ≡ false
    by true t is and_is = absurd (true≢false (sym h ∙ ap (λ x. is_word_symbol (Char x)) (eqb-true c 32 is)))
    by false true is and_is = absurd (true≢false (sym h ∙ ap (λ x. is_word_symbol (Char x)) (eqb-true c 9 and_is)))
    by false false is and_is = rw (is, and_is) refl

word_first : (y : Symbol) (ss : List Symbol) (rest : List ℕ) → is_word_symbol y ≡ true → first_blank (lexeme_bytes (Word y ss) ++ rest) ≡ false
word_first (Char c) ss rest h = ap first_blank (append_assoc (encode_utf8 c) _ rest) ∙ first_blank_char c _ ∙ no_blank c h
word_first (SimpleEscape o) ss rest h = ap first_blank (append_assoc (encode_utf8 92) _ rest) ∙ first_blank_char 92 _
word_first (DecimalEscape o) ss rest h = ap first_blank (append_assoc (encode_utf8 92) _ rest) ∙ first_blank_char 92 _

first_word : (y : Symbol) (ss : List Symbol) (ls : List Lexeme) → are_lexemes (Word y ss ∷ ls) ≡ true → is_word_symbol y ≡ true
first_word y ss ls v =
    let p = and_parts (list_all is_word_symbol (y ∷ ss) && may_precede (Word y ss) ls) (are_lexemes ls) v in
    let r = and_parts (list_all is_word_symbol (y ∷ ss)) (may_precede (Word y ss) ls) p.0 in
    (and_parts (is_word_symbol y) (list_all is_word_symbol ss) r.0).0

begins_tight : (d : ℕ) (ls : List Lexeme) → are_lexemes ls ≡ true → is_tight true d ls ≡ true → first_blank (flat_map lexeme_bytes ls) ≡ false
begins_tight d [] v t = refl
begins_tight d (Blank w ∷ ls) v t = absurd (true≢false (sym t))
begins_tight d (Line true ∷ ls) v t = rw (line_bytes true) refl
begins_tight d (Line false ∷ ls) v t = rw (line_bytes false) refl
begins_tight d (Open ∷ ls) v t = rw open_bytes refl
begins_tight d (Close ∷ ls) v t = rw close_bytes refl
begins_tight d (Note cs ∷ ls) v t = rw (note_bytes cs) refl
begins_tight d (Quote ss ∷ ls) v t = rw (quote_bytes ss) refl
begins_tight d (Word y ss ∷ ls) v t = word_first y ss (flat_map lexeme_bytes ls) (first_word y ss ls v)

-- ---- what is seen

-- a token is a word, or in quotes a quoted text
abbrev pub IsSpelledSo : TokenSeen → Type 0
IsSpelledSo t = (t.is_quoted ≡ false → IsWord (spelled t)) × (t.is_quoted ≡ true → IsQuote (spelled t))

-- a token that is not adjacent, in an entry that doesn't begin with a blank; or an entry's end
abbrev pub IsSound : Result PartSeen Fault → Type 0
IsSound (Ok (TokenIs t b)) = (b ≡ false) × (t.is_adjacent ≡ false) × IsSpelledSo t
IsSound (Ok (EndIs e)) = ⊤
IsSound (Err f) = ⊥

-- a token has ended before an offset, or at it if one comes directly before
abbrev EndedBefore : Option ℕ → ℕ → Bool → Type 0
EndedBefore None at behind = ⊤
EndedBefore (Some e) at behind = (e ≤ at) × (behind ≡ false → e < at)

further : (ended : Option ℕ) (at n : ℕ) (behind : Bool) → 0 < n → EndedBefore ended at behind → EndedBefore ended (at + n) false
further None at n behind some h = tt
further (Some e) at n behind some h = (omega (arith, h.0), λ _. omega (arith, some, h.0))

not_glued : (ended : Option ℕ) (at : ℕ) → EndedBefore ended at false → ends_at ended at ≡ false
not_glued None at h = refl
not_glued (Some e) at h = let less = h.1 refl in ne_eqb e at (λ same. omega (arith, less, same))

at_end : (e : ℕ) → EndedBefore (Some e) e true
at_end e = (omega arith, λ h. absurd (true≢false h))

apart_first : (behind rest : Bool) → (not behind && rest) ≡ true → (behind ≡ false) × (rest ≡ true)
apart_first true rest h = absurd (true≢false (sym h))
apart_first false rest h = (refl, h)

line_some : (r : Bool) → 0 < length (lexeme_bytes (Line r))
line_some true = omega (arith, ap length (line_bytes true))
line_some false = omega (arith, ap length (line_bytes false))

blank_some : (t : Bool) → 0 < length (lexeme_bytes (Blank t))
blank_some true = omega (arith, ap length (blank_bytes true))
blank_some false = omega (arith, ap length (blank_bytes false))

module _ (text : List ℕ) where
  -- these lexemes come at an offset
  record StandsAt (before : List ℕ) (at : ℕ) (ls : List Lexeme) : Type 0 where
    pub is : before ++ flat_map lexeme_bytes ls ≡ text
    pub place : at ≡ length before

  on : (before : List ℕ) (at : ℕ) (l : Lexeme) (ls : List Lexeme) → StandsAt before at (l ∷ ls) → StandsAt (before ++ lexeme_bytes l) (at + length (lexeme_bytes l)) ls
  on before at l ls s = record {
    is = append_assoc before (lexeme_bytes l) (flat_map lexeme_bytes ls) ∙ s.is;
    place = omega (arith, s.place, length-append before (lexeme_bytes l));
  }

  blank_here : (before : List ℕ) (at : ℕ) (ls : List Lexeme) → StandsAt before at ls → are_lexemes ls ≡ true → is_tight true 0 ls ≡ true → blank_at text at ≡ false
  blank_here before at ls s v t = ap (λ o. first_blank (drop at o)) (sym s.is) ∙ ap first_blank (drop_at before (flat_map lexeme_bytes ls) at (sym s.place)) ∙ begins_tight 0 ls v t

  word_here : (before : List ℕ) (at : ℕ) (y : Symbol) (ss : List Symbol) (ls : List Lexeme) → StandsAt before at (Word y ss ∷ ls) → are_lexemes (Word y ss ∷ ls) ≡ true → IsWord (between text at (at + length (lexeme_bytes (Word y ss))))
  word_here before at y ss ls s v =
      let p = and_parts (list_all is_word_symbol (y ∷ ss) && may_precede (Word y ss) ls) (are_lexemes ls) v in
      let r = and_parts (list_all is_word_symbol (y ∷ ss)) (may_precede (Word y ss) ls) p.0 in
      subst IsWord (sym (between_is before (lexeme_bytes (Word y ss)) (flat_map lexeme_bytes ls) text at s.is s.place))
      (record { symbols = y ∷ ss; some = omega arith; valid = r.0; spelled = sym (symbols_bytes (y ∷ ss)) })

  quote_here : (before : List ℕ) (at : ℕ) (ss : List Symbol) (ls : List Lexeme) → StandsAt before at (Quote ss ∷ ls) → are_lexemes (Quote ss ∷ ls) ≡ true
      → IsQuote (34 ∷ (between text (at + 1) (at + length (lexeme_bytes (Quote ss)) - 1) ++ 34 ∷ []))
  quote_here before at ss ls s v =
      let p = and_parts (list_all is_quote_symbol ss && true) (are_lexemes ls) v in
      let r = and_parts (list_all is_quote_symbol ss) true p.0 in
      let inner : List ℕ = flat_map bytes ss in
      let rest : List ℕ = flat_map lexeme_bytes ls in
      let whole : (before ++ 34 ∷ []) ++ (inner ++ (34 ∷ rest)) ≡ text =
      append_assoc before (34 ∷ []) (inner ++ (34 ∷ rest)) ∙ ap (λ o. before ++ 34 ∷ o) (sym (append_assoc inner (34 ∷ []) rest)) ∙ ap (λ o. before ++ (o ++ rest)) (sym (quote_bytes ss)) ∙ s.is in
      let place : at + 1 ≡ length (before ++ 34 ∷ []) = omega (arith, s.place, length-append before (34 ∷ [])) in
      let last : at + length (lexeme_bytes (Quote ss)) - 1 ≡ at + 1 + length inner = omega (arith, ap length (quote_bytes ss), length-append inner (34 ∷ [])) in
      let is : between text (at + 1) (at + length (lexeme_bytes (Quote ss)) - 1) ≡ inner = ap (between text (at + 1)) last ∙ between_is (before ++ 34 ∷ []) inner (34 ∷ rest) text (at + 1) whole place in
      subst (λ o. IsQuote (34 ∷ (o ++ 34 ∷ []))) (sym is) (record { symbols = ss; valid = r.0; spelled = refl })

  abbrev AllSound : ℕ → Option ℕ → List Piece → Type 0
  AllSound began ended found = AllByRecursion IsSound (seen_from text began ended (map Ok found))

  sound : (ls : List Lexeme) (before : List ℕ) (began at d : ℕ) (ended : Option ℕ) (starts behind b : Bool) → StandsAt before at ls → are_lexemes ls ≡ true → nests d ls ≡ true → is_tight starts d ls ≡ true
      → stands_apart behind ls ≡ true → blank_at text began ≡ false → EndedBefore ended at behind → AllSound began ended (pieces at d b ls)
  sound [] before began at d ended starts behind b s v n t a clear h = (tt, tt)
  sound (Open ∷ ls) before began at d ended starts behind b s v n t a clear h =
      sound ls _ began _ (suc d) ended false false b (on before at Open ls s) v n t a clear (further ended at _ behind (omega (arith, ap length open_bytes)) h)
  sound (Close ∷ ls) before began at zero ended starts behind b s v n t a clear h = absurd (true≢false (sym n))
  sound (Close ∷ ls) before began at (suc d) ended starts behind b s v n t a clear h =
      sound ls _ began _ d ended false false b (on before at Close ls s) v n t a clear (further ended at _ behind (omega (arith, ap length close_bytes)) h)
  sound (Line r ∷ ls) before began at zero ended starts behind b s v n t a clear h =
      let there = on before at (Line r) ls s in
      (tt, sound ls _ (at + length (lexeme_bytes (Line r))) _ zero None true false (begins_blank ls) there v n t a (blank_here _ _ ls there v t) tt)
  sound (Line r ∷ ls) before began at (suc d) ended starts behind b s v n t a clear h =
      sound ls _ began _ (suc d) ended false false b (on before at (Line r) ls s) v n t a clear (further ended at _ behind (line_some r) h)
  sound (Blank w ∷ ls) before began at d ended true behind b s v n t a clear h = absurd (true≢false (sym t))
  sound (Blank w ∷ ls) before began at d ended false behind b s v n t a clear h =
      sound ls _ began _ d ended false false b (on before at (Blank w) ls s) v n t a clear (further ended at _ behind (blank_some w) h)
  sound (Note cs ∷ ls) before began at d ended starts behind b s v n t a clear h =
      sound ls _ began _ d ended false false b (on before at (Note cs) ls s) (and_parts (is_lexeme (Note cs) && may_precede (Note cs) ls) (are_lexemes ls) v).1 n t a clear
      (further ended at _ behind (omega (arith, ap length (note_bytes cs))) h)
  sound (Word y ss ∷ ls) before began at d ended starts behind b s v n t a clear h =
      let first = apart_first behind (stands_apart true ls) a in (
        (clear, not_glued ended at (subst (EndedBefore ended at) first.0 h), ((λ _. word_here before at y ss ls s v), λ q. absurd (true≢false (sym q)))),
        sound ls _ began _ d (Some (at + length (lexeme_bytes (Word y ss)))) false true b (on before at (Word y ss) ls s) (and_parts (is_lexeme (Word y ss) && may_precede (Word y ss) ls) (are_lexemes ls) v).1 n t first.1 clear (at_end _),
      )
  sound (Quote ss ∷ ls) before began at d ended starts behind b s v n t a clear h =
      let first = apart_first behind (stands_apart true ls) a in (
        (clear, not_glued ended at (subst (EndedBefore ended at) first.0 h), ((λ q. absurd (true≢false q)), λ _. quote_here before at ss ls s v)),
        sound ls _ began _ d (Some (at + length (lexeme_bytes (Quote ss)))) false true b (on before at (Quote ss) ls s) (and_parts (is_lexeme (Quote ss) && may_precede (Quote ss) ls) (are_lexemes ls) v).1 n t first.1 clear (at_end _),
      )

-- each part that is seen of such lexemes is sound
pub all_sound : (text : List ℕ) (ls : List Lexeme) → flat_map lexeme_bytes ls ≡ text → are_lexemes ls ≡ true → nests 0 ls ≡ true → is_tight true 0 ls ≡ true → stands_apart false ls ≡ true
    → AllByRecursion IsSound (seen_from text 0 None (map Ok (pieces 0 0 (begins_blank ls) ls)))
all_sound text ls s v n t a =
    let start : StandsAt text [] 0 ls = record { is = s; place = refl } in
    sound text ls [] 0 0 0 None true false (begins_blank ls) start v n t a (blank_here text [] 0 ls start v t) tt
