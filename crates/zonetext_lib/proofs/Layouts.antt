-- What is laid out has the same entries.
use Rattle.std.proofs.Common.{◌≡◌, ℕ, zero, suc, ◌+◌, ◌<◌, ◌≤◌, ◌==◌, Bool, true, false, ◌&&◌, ◌||◌, not, List, [], ◌∷◌, ◌++◌, length, refl, sym, ap, ◌∙◌, subst, arith, append_assoc, length-append}
use Rattle.std.specs.Prelude.{⊤, map, Option, Some, None, Ok, option_map, encode_utf8, encode_utf8_all}
use Rattle.std.specs.List.{flat_map}
use Rattle.std.specs.Option.{is_some}
use lib.Utf8.{encode}
use Rattle.std.proofs.lemmas.Bool.{and_from, eq-eqb, ne_eqb}
use Rattle.std.proofs.lemmas.Grind.{flat_map-append}
use Rattle.std.proofs.lemmas.Str.{encodes-append, length-encode, len_utf8_bounds}
use Rattle.dns_symbol.specs.Characters.{tab, line_feed, carriage_return, space, open_parenthesis, close_parenthesis, semicolon}
use Rattle.dns_lexer.specs.declared.pieces.Piece.{Piece}
use Rattle.dns_lexer.specs.declared.pieces.Fault.{Fault}
use Rattle.dns_lexer.specs.Lexeme.{Lexeme, Blank, Line, Open, Close, Note, Word, Quote, lexeme_bytes, is_lexeme}
use Rattle.dns_lexer.specs.Splitting.{are_lexemes, may_precede, nests}
use Rattle.dns_lexer.specs.Pieces.{pieces, begins_blank, between, IsOctetPieces, IsPieces, moved, moved_piece, moved_fault, place_of}
use Rattle.dns_lexer.proofs.Agree.{pieces_of_octets}
use Rattle.dns_lexer.proofs.Complete.{word_some, quote_some}
use Rattle.dns_lexer.proofs.PieceSplit.{between_is, same_found}
use Rattle.zonetext_lib.specs.declared.layout.Gap.{Gap}
use Rattle.zonetext_lib.specs.declared.layout.Gap.TheVariants.{Space, Tab}
use Rattle.zonetext_lib.specs.Entries.{ComparedPart, Token, Ends, begins_glued, parts, parts_after, HasEntries}
use Rattle.zonetext_lib.specs.Layout.{gap_if, leads, feed_before, laid_out}
use Rattle.zone_format.proofs.Build.{valid_parts}
use Rattle.zone_format.proofs.Givens.{first_fault, pieces_in, all_ok, moved_first, moved_oks, first_of_oks}
use Rattle.zonetext_lib.proofs.Once.{encoded, moved_parts, octets_start, same_parts}

-- the parts of lexemes, directly after a token or not
abbrev parts_of : Bool → ℕ → Bool → List Lexeme → List ComparedPart
parts_of g d b [] = Ends b ∷ []
parts_of g d b (Open ∷ ls) = parts_of false (suc d) b ls
parts_of g zero b (Line r ∷ ls) = Ends b ∷ parts_of false zero (begins_blank ls) ls
parts_of g (suc d) b (Close ∷ ls) = parts_of false d b ls
parts_of g d b (Word s ss ∷ ls) = Token g (lexeme_bytes (Word s ss)) ∷ parts_of true d b ls
parts_of g d b (Quote ss ∷ ls) = Token g (lexeme_bytes (Quote ss)) ∷ parts_of true d b ls
parts_of g d b (_ ∷ ls) = parts_of false d b ls

-- an offset directly after the last token, or not
abbrev StandsAt : Option ℕ → ℕ → Bool → Type 0
StandsAt None at g = g ≡ false
StandsAt (Some e) at g = (e ≤ at) × ((e == at) ≡ g)

glued_here : (ended : Option ℕ) (at : ℕ) (g : Bool) → StandsAt ended at g → begins_glued ended at ≡ g
glued_here None at g h = sym h
glued_here (Some e) at g h = h.1

stands_on : (ended : Option ℕ) (at n : ℕ) (g : Bool) → 0 < n → StandsAt ended at g → StandsAt ended (at + n) false
stands_on None at n g some h = refl
stands_on (Some e) at n g some h = (omega (arith, h.0), ne_eqb e (at + n) (λ k. omega (arith, h.0, k, some)))

stands_end : (at : ℕ) → StandsAt (Some at) at true
stands_end at = (omega arith, eq-eqb at at refl)

first_some : (c : ℕ) (cs : List ℕ) → 0 < length (encode_utf8_all (c ∷ cs))
first_some c cs = omega (arith, length-append (encode_utf8 c) (encode_utf8_all cs), length-encode c, (len_utf8_bounds c).0)

bytes_some : (l : Lexeme) → 0 < length (lexeme_bytes l)
bytes_some (Blank true) = first_some tab []
bytes_some (Blank false) = first_some space []
bytes_some (Line true) = first_some carriage_return (line_feed ∷ [])
bytes_some (Line false) = first_some line_feed []
bytes_some Open = first_some open_parenthesis []
bytes_some Close = first_some close_parenthesis []
bytes_some (Note cs) = first_some semicolon cs
bytes_some (Word s ss) = word_some s ss
bytes_some (Quote ss) = quote_some ss

abbrev Cuts : List Lexeme → Type 0
Cuts ls = (text before : List ℕ) (g : Bool) (ended : Option ℕ) (d at : ℕ) (b : Bool) → before ++ flat_map lexeme_bytes ls ≡ text → at ≡ length before → nests d ls ≡ true → StandsAt ended at g
    → parts_of g d b ls ≡ parts_after text ended (pieces at d b ls)

past : (l : Lexeme) (ls : List Lexeme) → Cuts ls → (text before : List ℕ) (g : Bool) (ended : Option ℕ) (d at : ℕ) (b : Bool) → before ++ flat_map lexeme_bytes (l ∷ ls) ≡ text → at ≡ length before
    → nests d ls ≡ true → StandsAt ended (at + length (lexeme_bytes l)) g → parts_of g d b ls ≡ parts_after text ended (pieces (at + length (lexeme_bytes l)) d b ls)
past l ls more text before g ended d at b e k n s =
    more text (before ++ lexeme_bytes l) g ended d (at + length (lexeme_bytes l)) b (append_assoc before (lexeme_bytes l) (flat_map lexeme_bytes ls) ∙ e) (omega (arith, k, length-append before (lexeme_bytes l))) n s

apart : (l : Lexeme) (ls : List Lexeme) → Cuts ls → (text before : List ℕ) (g : Bool) (ended : Option ℕ) (d at : ℕ) (b : Bool) → before ++ flat_map lexeme_bytes (l ∷ ls) ≡ text → at ≡ length before
    → nests d ls ≡ true → StandsAt ended at g → parts_of false d b ls ≡ parts_after text ended (pieces (at + length (lexeme_bytes l)) d b ls)
apart l ls more text before g ended d at b e k n s = past l ls more text before false ended d at b e k n (stands_on ended at (length (lexeme_bytes l)) g (bytes_some l) s)

token_past : (l : Lexeme) (ls : List Lexeme) → Cuts ls → (text before : List ℕ) (g : Bool) (ended : Option ℕ) (d at : ℕ) (b : Bool) → before ++ flat_map lexeme_bytes (l ∷ ls) ≡ text → at ≡ length before
    → nests d ls ≡ true → StandsAt ended at g
    → Token g (lexeme_bytes l) ∷ parts_of true d b ls
    ≡ Token (begins_glued ended at) (between text at (at + length (lexeme_bytes l))) ∷ parts_after text (Some (at + length (lexeme_bytes l))) (pieces (at + length (lexeme_bytes l)) d b ls)
token_past l ls more text before g ended d at b e k n s =
    ap (λ r. Token g (lexeme_bytes l) ∷ r) (past l ls more text before true (Some (at + length (lexeme_bytes l))) d at b e k n (stands_end (at + length (lexeme_bytes l))))
    ∙ ap (λ t. Token g t ∷ parts_after text (Some (at + length (lexeme_bytes l))) (pieces (at + length (lexeme_bytes l)) d b ls)) (sym (between_is before (lexeme_bytes l) (flat_map lexeme_bytes ls) text at e k))
    ∙ ap (λ x. Token x (between text at (at + length (lexeme_bytes l))) ∷ parts_after text (Some (at + length (lexeme_bytes l))) (pieces (at + length (lexeme_bytes l)) d b ls)) (sym (glued_here ended at g s))

cuts : (ls : List Lexeme) → Cuts ls
cuts [] text before g ended d at b e k n s = refl
cuts (Open ∷ ls) text before g ended d at b e k n s = apart Open ls (cuts ls) text before g ended (suc d) at b e k n s
cuts (Close ∷ ls) text before g ended zero at b e k n s = cc
cuts (Close ∷ ls) text before g ended (suc d) at b e k n s = apart Close ls (cuts ls) text before g ended d at b e k n s
cuts (Line r ∷ ls) text before g ended zero at b e k n s = ap (λ x. Ends b ∷ x) (past (Line r) ls (cuts ls) text before false None zero at (begins_blank ls) e k n refl)
cuts (Line r ∷ ls) text before g ended (suc d) at b e k n s = apart (Line r) ls (cuts ls) text before g ended (suc d) at b e k n s
cuts (Blank t ∷ ls) text before g ended d at b e k n s = apart (Blank t) ls (cuts ls) text before g ended d at b e k n s
cuts (Note cs ∷ ls) text before g ended d at b e k n s = apart (Note cs) ls (cuts ls) text before g ended d at b e k n s
cuts (Word y ss ∷ ls) text before g ended d at b e k n s = token_past (Word y ss) ls (cuts ls) text before g ended d at b e k n s
cuts (Quote ss ∷ ls) text before g ended d at b e k n s = token_past (Quote ss) ls (cuts ls) text before g ended d at b e k n s

-- a word or a quoted string
abbrev is_token : Lexeme → Bool
is_token (Word s ss) = true
is_token (Quote ss) = true
is_token _ = false

record Spelling (t : List ℕ) : Type 0 where
  pub lexeme : Lexeme
  pub token : is_token lexeme ≡ true
  pub valid : is_lexeme lexeme ≡ true
  pub is : lexeme_bytes lexeme ≡ t

-- a token may be glued to this one before it, if there is one
abbrev may_glue : Option Lexeme → Lexeme → Bool
may_glue None l = false
may_glue (Some k) l = may_precede k (l ∷ [])

abbrev Spelled : Option Lexeme → List ComparedPart → Type 0
Spelled k [] = ⊤
Spelled k (Token g t ∷ es) = (x : Spelling t) × (g ≡ true → may_glue k x.lexeme ≡ true) × Spelled (Some x.lexeme) es
Spelled k (Ends b ∷ es) = Spelled None es

abbrev closes : List ComparedPart → Bool
closes [] = false
closes (Token g t ∷ es) = closes es
closes (Ends b ∷ []) = true
closes (Ends b ∷ e ∷ es) = closes (e ∷ es)

some_close : (b : Bool) (es : List ComparedPart) → closes es ≡ true → closes (Ends b ∷ es) ≡ true
some_close b [] h = refl
some_close b (e ∷ es) h = h

closed : (ls : List Lexeme) (g : Bool) (d : ℕ) (b : Bool) → closes (parts_of g d b ls) ≡ true
closed [] g d b = refl
closed (Open ∷ ls) g d b = closed ls false (suc d) b
closed (Close ∷ ls) g zero b = closed ls false zero b
closed (Close ∷ ls) g (suc d) b = closed ls false d b
closed (Line r ∷ ls) g zero b = some_close b (parts_of false zero (begins_blank ls) ls) (closed ls false zero (begins_blank ls))
closed (Line r ∷ ls) g (suc d) b = closed ls false (suc d) b
closed (Blank t ∷ ls) g d b = closed ls false d b
closed (Note cs ∷ ls) g d b = closed ls false d b
closed (Word s ss ∷ ls) g d b = closed ls true d b
closed (Quote ss ∷ ls) g d b = closed ls true d b

-- whether a lexeme may precede others depends on the first of them alone
may_first : (k x : Lexeme) (ls : List Lexeme) → may_precede k (x ∷ ls) ≡ may_precede k (x ∷ [])
may_first (Word s ss) (Word a b) ls = refl
may_first (Word s ss) (Quote a) ls = refl
may_first (Word s ss) (Blank a) ls = refl
may_first (Word s ss) (Line a) ls = refl
may_first (Word s ss) Open ls = refl
may_first (Word s ss) Close ls = refl
may_first (Word s ss) (Note a) ls = refl
may_first (Note cs) (Word a b) ls = refl
may_first (Note cs) (Quote a) ls = refl
may_first (Note cs) (Blank a) ls = refl
may_first (Note cs) (Line a) ls = refl
may_first (Note cs) Open ls = refl
may_first (Note cs) Close ls = refl
may_first (Note cs) (Note a) ls = refl
may_first (Quote ss) x ls = refl
may_first (Blank a) x ls = refl
may_first (Line a) x ls = refl
may_first Open x ls = refl
may_first Close x ls = refl

-- lexemes follow the token that comes before them, if there is one
abbrev Follows : Option Lexeme → List Lexeme → Type 0
Follows None ls = ⊥
Follows (Some k) ls = may_precede k ls ≡ true

may_follow_one : (o : Option Lexeme) (x : Lexeme) (ls : List Lexeme) → Follows o (x ∷ ls) → may_glue o x ≡ true
may_follow_one None x ls h = absurd h
may_follow_one (Some k) x ls h = sym (may_first k x ls) ∙ h

never : {A : Type 0} → false ≡ true → A
never e = cc

spelled : (ls : List Lexeme) (g : Bool) (o : Option Lexeme) (d : ℕ) (b : Bool) → are_lexemes ls ≡ true → (g ≡ true → Follows o ls) → Spelled o (parts_of g d b ls)
spelled [] g o d b v f = tt
spelled (Open ∷ ls) g o d b v f = spelled ls false o (suc d) b (valid_parts Open ls v).2 (λ e. never e)
spelled (Close ∷ ls) g o zero b v f = spelled ls false o zero b (valid_parts Close ls v).2 (λ e. never e)
spelled (Close ∷ ls) g o (suc d) b v f = spelled ls false o d b (valid_parts Close ls v).2 (λ e. never e)
spelled (Line r ∷ ls) g o zero b v f = spelled ls false None zero (begins_blank ls) (valid_parts (Line r) ls v).2 (λ e. never e)
spelled (Line r ∷ ls) g o (suc d) b v f = spelled ls false o (suc d) b (valid_parts (Line r) ls v).2 (λ e. never e)
spelled (Blank t ∷ ls) g o d b v f = spelled ls false o d b (valid_parts (Blank t) ls v).2 (λ e. never e)
spelled (Note cs ∷ ls) g o d b v f = spelled ls false o d b (valid_parts (Note cs) ls v).2 (λ e. never e)
spelled (Word s ss ∷ ls) g o d b v f =
    let r = valid_parts (Word s ss) ls v in
    (record { lexeme = Word s ss; token = refl; valid = r.0; is = refl }, λ e. may_follow_one o (Word s ss) ls (f e), spelled ls true (Some (Word s ss)) d b r.2 (λ e. r.1))
spelled (Quote ss ∷ ls) g o d b v f =
    let r = valid_parts (Quote ss) ls v in
    (record { lexeme = Quote ss; token = refl; valid = r.0; is = refl }, λ e. may_follow_one o (Quote ss) ls (f e), spelled ls true (Some (Quote ss)) d b r.2 (λ e. r.1))

-- the lexemes of what is laid out
abbrev is_tab : Gap → Bool
is_tab Space = false
is_tab Tab = true

abbrev lead : Gap → Bool → List Lexeme
lead gap true = Blank (is_tab gap) ∷ []
lead gap false = []

abbrev line_before : List ComparedPart → List Lexeme
line_before [] = []
line_before (e ∷ es) = Line false ∷ []

abbrev build : Gap → (o : Option Lexeme) (es : List ComparedPart) → Spelled o es → List Lexeme
build gap o [] s = []
build gap o (Token g t ∷ es) s = lead gap (not g && (is_some o || leads es)) ++ (s.0.lexeme ∷ build gap (Some s.0.lexeme) es s.2)
build gap o (Ends b ∷ es) s = lead gap (not (is_some o) && b) ++ (line_before es ++ build gap None es s)

lead_bytes : (gap : Gap) (b : Bool) → flat_map lexeme_bytes (lead gap b) ≡ gap_if gap b
unfolding encode
lead_bytes Space true = refl
lead_bytes Tab true = refl
lead_bytes gap false = refl

line_bytes : (es : List ComparedPart) → flat_map lexeme_bytes (line_before es) ≡ feed_before es
unfolding encode
line_bytes [] = refl
line_bytes (e ∷ es) = refl

built_bytes : (gap : Gap) (o : Option Lexeme) (es : List ComparedPart) (s : Spelled o es) → flat_map lexeme_bytes (build gap o es s) ≡ laid_out gap (is_some o) es
built_bytes gap o [] s = refl
built_bytes gap o (Token g t ∷ es) s =
    let apart : Bool = not g && (is_some o || leads es) in
    let more : List Lexeme = build gap (Some s.0.lexeme) es s.2 in
    flat_map-append lexeme_bytes (lead gap apart) (s.0.lexeme ∷ more) ∙ ap (λ l. l ++ (lexeme_bytes s.0.lexeme ++ flat_map lexeme_bytes more)) (lead_bytes gap apart)
    ∙ ap (λ t. gap_if gap apart ++ (t ++ flat_map lexeme_bytes more)) s.0.is ∙ ap (λ l. gap_if gap apart ++ (t ++ l)) (built_bytes gap (Some s.0.lexeme) es s.2)
built_bytes gap o (Ends b ∷ es) s =
    let blank : Bool = not (is_some o) && b in
    flat_map-append lexeme_bytes (lead gap blank) (line_before es ++ build gap None es s)
    ∙ ap (λ l. l ++ flat_map lexeme_bytes (line_before es ++ build gap None es s)) (lead_bytes gap blank)
    ∙ ap (λ l. gap_if gap blank ++ l) (flat_map-append lexeme_bytes (line_before es) (build gap None es s) ∙ ap (λ l. l ++ flat_map lexeme_bytes (build gap None es s)) (line_bytes es)
    ∙ ap (λ l. feed_before es ++ l) (built_bytes gap None es s))

abbrev no_word : List Lexeme → Bool
no_word (Word s ss ∷ ls) = false
no_word _ = true

may_follow : (l : Lexeme) (ls : List Lexeme) → is_token l ≡ true → no_word ls ≡ true → may_precede l ls ≡ true
may_follow (Word s ss) [] t n = refl
may_follow (Word s ss) (Word a b ∷ ls) t n = cc
may_follow (Word s ss) (Quote a ∷ ls) t n = refl
may_follow (Word s ss) (Blank a ∷ ls) t n = refl
may_follow (Word s ss) (Line a ∷ ls) t n = refl
may_follow (Word s ss) (Open ∷ ls) t n = refl
may_follow (Word s ss) (Close ∷ ls) t n = refl
may_follow (Word s ss) (Note a ∷ ls) t n = refl
may_follow (Quote ss) ls t n = refl
may_follow (Blank a) ls t n = cc
may_follow (Line a) ls t n = cc
may_follow Open ls t n = cc
may_follow Close ls t n = cc
may_follow (Note a) ls t n = cc

after_token : (gap : Gap) (l : Lexeme) (es : List ComparedPart) (s : Spelled (Some l) es) → is_token l ≡ true → may_precede l (build gap (Some l) es s) ≡ true
after_token gap l [] s t = may_follow l [] t refl
after_token gap l (Token true u ∷ es) s t = may_first l s.0.lexeme (build gap (Some s.0.lexeme) es s.2) ∙ s.1 refl
after_token gap l (Token false u ∷ es) s t = may_follow l (Blank (is_tab gap) ∷ s.0.lexeme ∷ build gap (Some s.0.lexeme) es s.2) t refl
after_token gap l (Ends b ∷ []) s t = may_follow l [] t refl
after_token gap l (Ends b ∷ e ∷ es) s t = may_follow l (Line false ∷ build gap None (e ∷ es) s) t refl

lead_valid : (gap : Gap) (b : Bool) (ls : List Lexeme) → are_lexemes ls ≡ true → are_lexemes (lead gap b ++ ls) ≡ true
lead_valid gap true ls v = v
lead_valid gap false ls v = v

line_valid : (es : List ComparedPart) (ls : List Lexeme) → are_lexemes ls ≡ true → are_lexemes (line_before es ++ ls) ≡ true
line_valid [] ls v = v
line_valid (e ∷ es) ls v = v

built_valid : (gap : Gap) (o : Option Lexeme) (es : List ComparedPart) (s : Spelled o es) → are_lexemes (build gap o es s) ≡ true
built_valid gap o [] s = refl
built_valid gap o (Token g t ∷ es) s =
    let l = s.0.lexeme in
    let more = build gap (Some l) es s.2 in
    lead_valid gap (not g && (is_some o || leads es)) (l ∷ more)
    (and_from (is_lexeme l && may_precede l more) (are_lexemes more)
    (and_from (is_lexeme l) (may_precede l more) s.0.valid (after_token gap l es s.2 s.0.token)) (built_valid gap (Some l) es s.2))
built_valid gap o (Ends b ∷ es) s =
    lead_valid gap (not (is_some o) && b) (line_before es ++ build gap None es s) (line_valid es (build gap None es s) (built_valid gap None es s))

lead_nests : (gap : Gap) (b : Bool) (ls : List Lexeme) → nests 0 ls ≡ true → nests 0 (lead gap b ++ ls) ≡ true
lead_nests gap true ls v = v
lead_nests gap false ls v = v

line_nests : (es : List ComparedPart) (ls : List Lexeme) → nests 0 ls ≡ true → nests 0 (line_before es ++ ls) ≡ true
line_nests [] ls v = v
line_nests (e ∷ es) ls v = v

token_nests : (l : Lexeme) (ls : List Lexeme) → is_token l ≡ true → nests 0 ls ≡ true → nests 0 (l ∷ ls) ≡ true
token_nests (Word s ss) ls t n = n
token_nests (Quote ss) ls t n = n
token_nests (Blank a) ls t n = cc
token_nests (Line a) ls t n = cc
token_nests Open ls t n = cc
token_nests Close ls t n = cc
token_nests (Note a) ls t n = cc

built_nests : (gap : Gap) (o : Option Lexeme) (es : List ComparedPart) (s : Spelled o es) → nests 0 (build gap o es s) ≡ true
built_nests gap o [] s = refl
built_nests gap o (Token g t ∷ es) s =
    let more = build gap (Some s.0.lexeme) es s.2 in
    lead_nests gap (not g && (is_some o || leads es)) (s.0.lexeme ∷ more) (token_nests s.0.lexeme more s.0.token (built_nests gap (Some s.0.lexeme) es s.2))
built_nests gap o (Ends b ∷ es) s =
    lead_nests gap (not (is_some o) && b) (line_before es ++ build gap None es s) (line_nests es (build gap None es s) (built_nests gap None es s))

token_blank : (l : Lexeme) (ls : List Lexeme) → is_token l ≡ true → begins_blank (l ∷ ls) ≡ false
token_blank (Word s ss) ls t = refl
token_blank (Quote ss) ls t = refl
token_blank (Blank a) ls t = cc
token_blank (Line a) ls t = cc
token_blank Open ls t = cc
token_blank Close ls t = cc
token_blank (Note a) ls t = cc

lead_blank : (gap : Gap) (b : Bool) (ls : List Lexeme) → begins_blank ls ≡ false → begins_blank (lead gap b ++ ls) ≡ b
lead_blank gap true ls h = refl
lead_blank gap false ls h = h

line_blank : (gap : Gap) (es : List ComparedPart) (s : Spelled None es) → begins_blank (line_before es ++ build gap None es s) ≡ false
line_blank gap [] s = refl
line_blank gap (e ∷ es) s = refl

built_blank : (gap : Gap) (es : List ComparedPart) (s : Spelled None es) → begins_blank (build gap None es s) ≡ leads es
built_blank gap [] s = refl
built_blank gap (Token true t ∷ es) s = never (s.1 refl)
built_blank gap (Token false t ∷ es) s =
    let more = build gap (Some s.0.lexeme) es s.2 in
    lead_blank gap (leads es) (s.0.lexeme ∷ more) (token_blank s.0.lexeme more s.0.token)
built_blank gap (Ends b ∷ es) s = lead_blank gap b (line_before es ++ build gap None es s) (line_blank gap es s)

lead_parts : (gap : Gap) (c b : Bool) (ls : List Lexeme) → parts_of false 0 b (lead gap c ++ ls) ≡ parts_of false 0 b ls
lead_parts gap true b ls = refl
lead_parts gap false b ls = refl

lead_last : (gap : Gap) (c g b : Bool) → parts_of g 0 b (lead gap c ++ []) ≡ Ends b ∷ []
lead_last gap true g b = refl
lead_last gap false g b = refl

lead_line : (gap : Gap) (c g b : Bool) (ls : List Lexeme) → parts_of g 0 b (lead gap c ++ Line false ∷ ls) ≡ Ends b ∷ parts_of false 0 (begins_blank ls) ls
lead_line gap true g b ls = refl
lead_line gap false g b ls = refl

token_parts : (l : Lexeme) (g b : Bool) (ls : List Lexeme) → is_token l ≡ true → parts_of g 0 b (l ∷ ls) ≡ Token g (lexeme_bytes l) ∷ parts_of true 0 b ls
token_parts (Word s ss) g b ls t = refl
token_parts (Quote ss) g b ls t = refl
token_parts (Blank a) g b ls t = cc
token_parts (Line a) g b ls t = cc
token_parts Open g b ls t = cc
token_parts Close g b ls t = cc
token_parts (Note a) g b ls t = cc

token_built : (gap : Gap) (g b : Bool) (t : List ℕ) (es : List ComparedPart) (x : Spelling t) (s : Spelled (Some x.lexeme) es) → parts_of true 0 b (build gap (Some x.lexeme) es s) ≡ es
    → parts_of g 0 b (x.lexeme ∷ build gap (Some x.lexeme) es s) ≡ Token g t ∷ es
token_built gap g b t es x s k =
    let more = build gap (Some x.lexeme) es s in
    token_parts x.lexeme g b more x.token ∙ ap (λ u. Token g u ∷ parts_of true 0 b more) x.is ∙ ap (λ l. Token g t ∷ l) k

built_parts : (gap : Gap) (o : Option Lexeme) (b : Bool) (es : List ComparedPart) (s : Spelled o es) → closes es ≡ true → b ≡ leads es → parts_of (is_some o) 0 b (build gap o es s) ≡ es
built_parts gap o b [] s c e = cc
built_parts gap None b (Token true t ∷ es) s c e = never (s.1 refl)
built_parts gap (Some k) b (Token true t ∷ es) s c e = token_built gap true b t es s.0 s.2 (built_parts gap (Some s.0.lexeme) b es s.2 c e)
built_parts gap None b (Token false t ∷ es) s c e =
    lead_parts gap (leads es) b (s.0.lexeme ∷ build gap (Some s.0.lexeme) es s.2) ∙ token_built gap false b t es s.0 s.2 (built_parts gap (Some s.0.lexeme) b es s.2 c e)
built_parts gap (Some k) b (Token false t ∷ es) s c e = token_built gap false b t es s.0 s.2 (built_parts gap (Some s.0.lexeme) b es s.2 c e)
built_parts gap o b (Ends a ∷ []) s c e = lead_last gap (not (is_some o) && a) (is_some o) b ∙ ap (λ x. Ends x ∷ []) e
built_parts gap o b (Ends a ∷ x ∷ es) s c e =
    let more = build gap None (x ∷ es) s in
    lead_line gap (not (is_some o) && a) (is_some o) b more ∙ ap (λ y. Ends y ∷ parts_of false 0 (begins_blank more) more) e
    ∙ ap (λ l. Ends a ∷ l) (built_parts gap None (begins_blank more) (x ∷ es) s c (built_blank gap (x ∷ es) s))

-- a text is laid out with the same parts
text_laid_out : (gap : Gap) (text : List ℕ) (found : List Piece) → IsPieces text found
    → (again : List Piece) × IsPieces (laid_out gap false (parts text found)) again × (parts (laid_out gap false (parts text found)) again ≡ parts text found)
text_laid_out gap text found p =
    let b = begins_blank p.lexemes in
    let es = parts_of false 0 b p.lexemes in
    let is : es ≡ parts text found = cuts p.lexemes text [] false None 0 0 b p.spelled refl p.nested refl ∙ ap (parts text) p.placed in
    let s = spelled p.lexemes false None 0 b p.valid (λ e. never e) in
    let ls = build gap None es s in
    let out = laid_out gap false es in
    let same : flat_map lexeme_bytes ls ≡ out = built_bytes gap None es s in
    let again = pieces 0 0 (begins_blank ls) ls in
    let whole : IsPieces out again = record { lexemes = ls; spelled = same; valid = built_valid gap None es s; nested = built_nests gap None es s; placed = refl } in
    let kept : parts out again ≡ es = sym (cuts ls out [] false None 0 0 (begins_blank ls) same refl (built_nests gap None es s) refl)
    ∙ built_parts gap None (begins_blank ls) es s (closed p.lexemes false 0 b) (built_blank gap es s) in
    subst (λ fs. (again : List Piece) × IsPieces (laid_out gap false fs) again × (parts (laid_out gap false fs) again ≡ fs)) is (again, whole, kept)

-- the text of octets that are laid out
leads_encoded : (es : List ComparedPart) → leads (map encoded es) ≡ leads es
leads_encoded [] = refl
leads_encoded (Token g t ∷ es) = leads_encoded es
leads_encoded (Ends b ∷ es) = refl

gap_encoded : (gap : Gap) (b : Bool) → encode_utf8_all (gap_if gap b) ≡ gap_if gap b
unfolding encode
gap_encoded Space true = refl
gap_encoded Tab true = refl
gap_encoded gap false = refl

feed_encoded : (es : List ComparedPart) → encode_utf8_all (feed_before es) ≡ feed_before (map encoded es)
unfolding encode
feed_encoded [] = refl
feed_encoded (e ∷ es) = refl

out_encoded : (gap : Gap) (i : Bool) (es : List ComparedPart) → encode_utf8_all (laid_out gap i es) ≡ laid_out gap i (map encoded es)
out_encoded gap i [] = refl
out_encoded gap i (Token g t ∷ es) =
    let apart : Bool = not g && (i || leads es) in
    encodes-append (gap_if gap apart) (t ++ laid_out gap true es) ∙ ap (λ l. l ++ encode_utf8_all (t ++ laid_out gap true es)) (gap_encoded gap apart)
    ∙ ap (λ l. gap_if gap apart ++ l) (encodes-append t (laid_out gap true es) ∙ ap (λ l. encode_utf8_all t ++ l) (out_encoded gap true es))
    ∙ ap (λ b. gap_if gap (not g && (i || b)) ++ (encode_utf8_all t ++ laid_out gap true (map encoded es))) (sym (leads_encoded es))
out_encoded gap i (Ends b ∷ es) =
    encodes-append (gap_if gap (not i && b)) (feed_before es ++ laid_out gap false es) ∙ ap (λ l. l ++ encode_utf8_all (feed_before es ++ laid_out gap false es)) (gap_encoded gap (not i && b))
    ∙ ap (λ l. gap_if gap (not i && b) ++ l) (encodes-append (feed_before es) (laid_out gap false es) ∙ ap (λ l. l ++ encode_utf8_all (laid_out gap false es)) (feed_encoded es)
    ∙ ap (λ l. feed_before (map encoded es) ++ l) (out_encoded gap false es))

-- pieces of octets, from the pieces of their text
octets_have : (octets : List ℕ) (found : List Piece) → IsPieces (encode_utf8_all octets) found → (again : List Piece) × (map (moved_piece (place_of octets)) again ≡ found)
octets_have octets found p =
    let g = place_of octets in
    let read = pieces_of_octets octets found p in
    let given = read.0 in
    let same : map (moved g) given ≡ map Ok found = read.1 in
    let none = none_moved g (first_fault given) (sym (moved_first g given) ∙ ap first_fault same ∙ first_of_oks found) in
    (pieces_in given, same_found (map (moved_piece g) (pieces_in given)) found (sym (ap (map (moved g)) (all_ok given none) ∙ moved_oks g (pieces_in given)) ∙ same))
  where
    none_moved : (g : ℕ → ℕ) (o : Option Fault) → option_map (moved_fault g) o ≡ None → o ≡ None
    none_moved g None e = refl
    none_moved g (Some f) e = cc

pub keeps_entries : (octets : List ℕ) (gap : Gap) (es : List ComparedPart) → HasEntries octets es → HasEntries (laid_out gap false es) es
keeps_entries octets gap es h =
    let text = encode_utf8_all octets in
    let found = map (moved_piece (place_of octets)) h.0 in
    let out = laid_out gap false es in
    let is : parts text found ≡ map encoded es = moved_parts octets None h.0 (octets_start octets h.0 h.1) ∙ ap (map encoded) h.2 in
    let t = text_laid_out gap text found h.1 in
    let same : laid_out gap false (parts text found) ≡ encode_utf8_all out = ap (laid_out gap false) is ∙ sym (out_encoded gap false es) in
    let p : IsPieces (encode_utf8_all out) t.0 = subst (λ l. IsPieces l t.0) same t.1 in
    let a = octets_have out t.0 p in
    let again : IsOctetPieces out a.0 = subst (IsPieces (encode_utf8_all out)) (sym a.1) p in
    let kept : map encoded (parts out a.0) ≡ map encoded es =
    sym (moved_parts out None a.0 (octets_start out a.0 again)) ∙ ap (parts (encode_utf8_all out)) a.1 ∙ ap (λ l. parts l t.0) (sym same) ∙ t.2 ∙ is in
    (a.0, again, same_parts (parts out a.0) es kept)
