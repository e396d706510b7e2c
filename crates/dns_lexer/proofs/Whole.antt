-- A text is a token exactly if it splits into itself alone, and if its first piece is all of it.
use Rattle.std.proofs.Common.{◌≡◌, ◌↔◌, IsTrue, ℕ, zero, suc, ◌+◌, ◌-◌, ◌<◌, ◌≤◌, Bool, true, false, ◌&&◌, ◌==◌, List, [], ◌∷◌, length, take, drop, refl, sym, ap, ◌∙◌, subst, arith}
use Rattle.std.proofs.Common.{append-nil, length-append, get_or, IsUtf8, inl, inr}
use Rattle.std.specs.Prelude.{map, if◌then◌else◌, Option, Some, None, Result, Ok, Err, encode_utf8, encode_utf8_all}
use Rattle.std.specs.Iterator.{YieldsFirst}
use Rattle.std.specs.List.{flat_map, list_all, AllByRecursion}
use Rattle.std.proofs.Math.Seq.{take-length}
use Rattle.std.proofs.lemmas.Bool.{and_parts, and_from, eqb-true, eq-eqb, ne_eqb, cond-false}
use Rattle.std.proofs.lemmas.List.{drop_all}
use Rattle.std.proofs.lemmas.Str.{length-encode, len_utf8_bounds}
use Rattle.dns_lexer.specs.declared.reader.Mode.TheVariants.{Outside, Quoted}
use Rattle.dns_lexer.specs.declared.pieces.Piece.{Piece}
use Rattle.dns_lexer.specs.declared.pieces.Piece.TheVariants.{Word as WordAt, Quote as QuoteAt, Comment as CommentAt, End as EndAt}
use Rattle.dns_lexer.specs.declared.pieces.Fault.{Fault}
use Rattle.dns_lexer.specs.Lexeme.{Lexeme, Blank, Line, Open, Close, Note, Word, Quote, lexeme_bytes, is_lexeme}
use Rattle.dns_lexer.specs.Pieces.{word_at, end_at, spans_all, pieces, IsPieces, IsSpelled, Reads, between}
use Rattle.dns_lexer.specs.Run.{SameRun, before, first_blank, run}
use Rattle.dns_lexer.specs.Splitting.{Splits, are_lexemes, with_token, entries, Entries}
use Rattle.dns_lexer.specs.Token.{IsWord, IsQuote, IsToken}
use Rattle.dns_lexer.proofs.Entries.{given_spelled}
use Rattle.dns_lexer.proofs.PieceFaults.{reads}
use Rattle.dns_lexer.proofs.SettledOnce.{read_once}
use Rattle.dns_lexer.proofs.Skips.{quote_given}
use Rattle.dns_lexer.proofs.Tokens.{is_token_lexeme, IsOne, one_token, token_one}

-- the bytes of some entries' tokens
abbrev weight_of : List (List ℕ) → ℕ
weight_of [] = 0
weight_of (t ∷ ts) = length t + weight_of ts

abbrev weight : Entries → ℕ
weight [] = 0
weight (ts ∷ es) = weight_of ts + weight es

token_weight : (t : List ℕ) (e : Entries) → weight (with_token t e) ≡ length t + weight e
token_weight t [] = omega arith
token_weight t (ts ∷ es) = omega arith

some_bytes : (c : ℕ) (cs : List ℕ) → 0 < length (encode_utf8_all (c ∷ cs))
some_bytes c cs = omega (arith, length-append (encode_utf8 c) (encode_utf8_all cs), length-encode c, (len_utf8_bounds c).0)

-- tokens weigh no more than the text
light : (ls : List Lexeme) (d : ℕ) → weight (entries d ls) ≤ length (flat_map lexeme_bytes ls)
light [] d = omega arith
light (Blank b ∷ ls) d = omega (arith, light ls d, length-append (lexeme_bytes (Blank b)) (flat_map lexeme_bytes ls))
light (Line b ∷ ls) zero = omega (arith, light ls zero, length-append (lexeme_bytes (Line b)) (flat_map lexeme_bytes ls))
light (Line b ∷ ls) (suc d) = omega (arith, light ls (suc d), length-append (lexeme_bytes (Line b)) (flat_map lexeme_bytes ls))
light (Open ∷ ls) d = omega (arith, light ls (suc d), length-append (lexeme_bytes Open) (flat_map lexeme_bytes ls))
light (Close ∷ ls) zero = omega (arith, light ls zero, length-append (lexeme_bytes Close) (flat_map lexeme_bytes ls))
light (Close ∷ ls) (suc d) = omega (arith, light ls d, length-append (lexeme_bytes Close) (flat_map lexeme_bytes ls))
light (Note cs ∷ ls) d = omega (arith, light ls d, length-append (lexeme_bytes (Note cs)) (flat_map lexeme_bytes ls))
light (Word s ss ∷ ls) d = omega (arith, light ls d, length-append (lexeme_bytes (Word s ss)) (flat_map lexeme_bytes ls), token_weight (lexeme_bytes (Word s ss)) (entries d ls))
light (Quote ss ∷ ls) d = omega (arith, light ls d, length-append (lexeme_bytes (Quote ss)) (flat_map lexeme_bytes ls), token_weight (lexeme_bytes (Quote ss)) (entries d ls))

-- and as much only if there is nothing else
all_tokens : (ls : List Lexeme) (d : ℕ) → length (flat_map lexeme_bytes ls) ≤ weight (entries d ls) → list_all is_token_lexeme ls ≡ true
all_tokens [] d h = refl
all_tokens (Blank b ∷ ls) d h = absurd (omega (arith, h, light ls d, length-append (lexeme_bytes (Blank b)) (flat_map lexeme_bytes ls), some_bytes (if b then 9 else 32) []))
all_tokens (Line true ∷ ls) zero h = absurd (omega (arith, h, light ls zero, length-append (lexeme_bytes (Line true)) (flat_map lexeme_bytes ls), some_bytes 13 (10 ∷ [])))
all_tokens (Line false ∷ ls) zero h = absurd (omega (arith, h, light ls zero, length-append (lexeme_bytes (Line false)) (flat_map lexeme_bytes ls), some_bytes 10 []))
all_tokens (Line true ∷ ls) (suc d) h = absurd (omega (arith, h, light ls (suc d), length-append (lexeme_bytes (Line true)) (flat_map lexeme_bytes ls), some_bytes 13 (10 ∷ [])))
all_tokens (Line false ∷ ls) (suc d) h = absurd (omega (arith, h, light ls (suc d), length-append (lexeme_bytes (Line false)) (flat_map lexeme_bytes ls), some_bytes 10 []))
all_tokens (Open ∷ ls) d h = absurd (omega (arith, h, light ls (suc d), length-append (lexeme_bytes Open) (flat_map lexeme_bytes ls), some_bytes 40 []))
all_tokens (Close ∷ ls) zero h = absurd (omega (arith, h, light ls zero, length-append (lexeme_bytes Close) (flat_map lexeme_bytes ls), some_bytes 41 []))
all_tokens (Close ∷ ls) (suc d) h = absurd (omega (arith, h, light ls d, length-append (lexeme_bytes Close) (flat_map lexeme_bytes ls), some_bytes 41 []))
all_tokens (Note cs ∷ ls) d h = absurd (omega (arith, h, light ls d, length-append (lexeme_bytes (Note cs)) (flat_map lexeme_bytes ls), some_bytes 59 cs))
all_tokens (Word s ss ∷ ls) d h = all_tokens ls d (omega (arith, h, length-append (lexeme_bytes (Word s ss)) (flat_map lexeme_bytes ls), token_weight (lexeme_bytes (Word s ss)) (entries d ls)))
all_tokens (Quote ss ∷ ls) d h = all_tokens ls d (omega (arith, h, length-append (lexeme_bytes (Quote ss)) (flat_map lexeme_bytes ls), token_weight (lexeme_bytes (Quote ss)) (entries d ls)))

entries_all : (ls : List Lexeme) (d : ℕ) → list_all is_token_lexeme ls ≡ true → entries d ls ≡ map lexeme_bytes ls ∷ []
entries_all [] d h = refl
entries_all (Word s ss ∷ ls) d h = ap (with_token (lexeme_bytes (Word s ss))) (entries_all ls d h)
entries_all (Quote ss ∷ ls) d h = ap (with_token (lexeme_bytes (Quote ss))) (entries_all ls d h)
entries_all (Blank _ ∷ ls) d h = cc
entries_all (Line _ ∷ ls) d h = cc
entries_all (Open ∷ ls) d h = cc
entries_all (Close ∷ ls) d h = cc
entries_all (Note _ ∷ ls) d h = cc

-- a text that splits into itself alone is a token
pub itself_token : (t : List ℕ) → Splits t ((t ∷ []) ∷ []) → IsToken t
itself_token t s = one_token (go s.lexemes s.spelled s.valid tokens (sym (entries_all s.lexemes 0 tokens) ∙ s.cut))
  where
    weighs : weight (entries 0 s.lexemes) ≡ length t
    weighs = ap weight s.cut ∙ omega arith

    tokens : list_all is_token_lexeme s.lexemes ≡ true
    tokens = all_tokens s.lexemes 0 (omega (arith, weighs, ap length s.spelled))

    go : (ls : List Lexeme) → flat_map lexeme_bytes ls ≡ t → are_lexemes ls ≡ true → list_all is_token_lexeme ls ≡ true → map lexeme_bytes ls ∷ [] ≡ (t ∷ []) ∷ [] → IsOne t
    go [] e v k h = cc
    go (l ∷ []) e v k h = record { lexeme = l; is_one = (and_parts _ _ k).0; valid = (and_parts _ _ (and_parts _ _ v).0).0; spelled = sym (append-nil (lexeme_bytes l)) ∙ e }
    go (l ∷ m ∷ ls) e v k h = cc

-- and a token splits into itself alone
pub token_itself : (t : List ℕ) → IsToken t → Splits t ((t ∷ []) ∷ [])
token_itself t i = go (token_one i).lexeme (token_one i).is_one (token_one i).valid (token_one i).spelled
  where
    go : (l : Lexeme) → is_token_lexeme l ≡ true → is_lexeme l ≡ true → lexeme_bytes l ≡ t → Splits t ((t ∷ []) ∷ [])
    go (Word s ss) o v e = record {
      lexemes = Word s ss ∷ [];
      spelled = append-nil (lexeme_bytes (Word s ss)) ∙ e;
      valid = and_from _ _ (and_from _ _ v refl) refl;
      nested = refl;
      cut = ap (λ x. (x ∷ []) ∷ []) e;
    }
    go (Quote ss) o v e = record {
      lexemes = Quote ss ∷ [];
      spelled = append-nil (lexeme_bytes (Quote ss)) ∙ e;
      valid = and_from _ _ (and_from _ _ v refl) refl;
      nested = refl;
      cut = ap (λ x. (x ∷ []) ∷ []) e;
    }
    go (Blank _) o v e = cc
    go (Line _) o v e = cc
    go Open o v e = cc
    go Close o v e = cc
    go (Note _) o v e = cc

abbrev first : {A : Type 0} → List A → Option A
first [] = None
first (x ∷ xs) = Some x

-- a token's pieces: itself, and the end
lexeme_pieces : (l : Lexeme) → is_token_lexeme l ≡ true → is_lexeme l ≡ true → (t : List ℕ) → lexeme_bytes l ≡ t
    → (found : List Piece) × IsPieces t found × (spans_all (first (map Ok found)) (length t) ≡ true)
lexeme_pieces (Word s ss) o v t e = (
  pieces 0 0 false (Word s ss ∷ []),
  record {
    lexemes = Word s ss ∷ [];
    spelled = append-nil (lexeme_bytes (Word s ss)) ∙ e;
    valid = and_from _ _ (and_from _ _ v refl) refl;
    nested = refl;
    placed = refl;
  },
  eq-eqb (0 + length (lexeme_bytes (Word s ss))) (length t) (omega (arith, ap length e)),
)
lexeme_pieces (Quote ss) o v t e = (
  pieces 0 0 false (Quote ss ∷ []),
  record {
    lexemes = Quote ss ∷ [];
    spelled = append-nil (lexeme_bytes (Quote ss)) ∙ e;
    valid = and_from _ _ (and_from _ _ v refl) refl;
    nested = refl;
    placed = refl;
  },
  eq-eqb (0 + length (lexeme_bytes (Quote ss))) (length t) (omega (arith, ap length e)),
)
lexeme_pieces (Blank _) o v t e = cc
lexeme_pieces (Line _) o v t e = cc
lexeme_pieces Open o v t e = cc
lexeme_pieces Close o v t e = cc
lexeme_pieces (Note _) o v t e = cc

between_all : (text : List ℕ) (s e : ℕ) → (s == 0 && e == length text) ≡ true → between text s e ≡ text
between_all text s e h =
    let p = and_parts (s == 0) (e == length text) h in
    let start : s ≡ 0 = eqb-true s 0 p.0 in
    let end : e - s ≡ length text = omega (arith, start, eqb-true e (length text) p.1) in
    ap (λ i. take (e - s) (drop i text)) start ∙ ap (λ n. take n text) end ∙ take-length text

-- a text is a token exactly if its first piece is a word or a quoted string that is all of it
all_token : (text : List ℕ) (given : List (Result Piece Fault)) → Reads text given → spans_all (first given) (length text) ≡ true → IsToken text
all_token text given r a = go given (given_spelled text given r) a
  where
    go : (xs : List (Result Piece Fault)) → AllByRecursion (IsSpelled text) xs → spans_all (first xs) (length text) ≡ true → IsToken text
    go (Ok (WordAt p) ∷ more) h a = inl (subst IsWord (between_all text p.start p.end a) h.0)
    go (Ok (QuoteAt p) ∷ more) h a = inr (subst IsQuote (between_all text p.start p.end a) h.0)
    go (Ok (CommentAt p) ∷ more) h a = cc
    go (Ok (EndAt p) ∷ more) h a = cc
    go (Err f ∷ more) h a = cc
    go [] h a = cc

token_all : (text : List ℕ) (given : List (Result Piece Fault)) → Reads text given → IsToken text → spans_all (first given) (length text) ≡ true
token_all text given r t =
    let one = token_one t in
    let alone = lexeme_pieces one.lexeme one.is_one one.valid text one.spelled in
    ap (λ l. spans_all (first l) (length text)) (read_once text given (map Ok alone.0) r (inl (record { found = alone.0; is = refl; placed = alone.1 }))) ∙ alone.2

first_is : {A : Type 0} (given more : List A) (o : Option A) → YieldsFirst (λ s. s) given o more → o ≡ first given
first_is given more None h = ap first (sym h.0)
first_is given more (Some x) h = ap first (sym h)

-- the same of what the iterator yields first
pub first_token : (text : List ℕ) (given more : List (Result Piece Fault)) (o : Option (Result Piece Fault)) (b : Bool) → Reads text given → YieldsFirst (λ s. s) given o more
    → b ≡ spans_all o (length text) → IsTrue b ↔ IsToken text
first_token text given more o b r y e =
    let is : b ≡ spans_all (first given) (length text) = e ∙ ap (λ x. spans_all x (length text)) (first_is given more o y) in (
      λ h. all_token text given r (sym is ∙ h),
      λ t. is ∙ token_all text given r t,
    )

-- a text whose first word extends to its end
pub word_reaches : (text : List ℕ) → IsUtf8 text → 0 < length text → SameRun Outside text 0 (length text) → IsToken text
word_reaches text u some same =
    let given = same 0 0 b ∙ ap (run Outside 0 0 n b) (drop_all n text (omega arith)) ∙ word in
    all_token text (run Outside 0 0 0 b text) (reads text u) (ap (λ l. spans_all (first l) n) given ∙ eq-eqb n n refl)
  where
    n : ℕ
    n = length text

    b : Bool
    b = first_blank text

    word : run Outside 0 0 n b [] ≡ Ok (word_at 0 n) ∷ Ok (end_at n b) ∷ []
    word = ap (λ o. before o (Ok (end_at n b) ∷ [])) (cond-false _ _ _ (ne_eqb 0 n (λ e. omega (arith, e, some))))

-- a text whose last octet is the double quote that ends the quoted string that begins it
pub quote_reaches : (text : List ℕ) → IsUtf8 text → (last : ℕ) → last + 1 ≡ length text → 1 ≤ last → get_or text 0 0 ≡ 34 → SameRun Quoted text 1 last → get_or text last 0 ≡ 34 → IsToken text
quote_reaches text u last e o is same ends =
    let g = quote_given text (record { depth = 0; at = 0 }) (first_blank text) last (omega (arith, e)) is o (omega (arith, e)) same ends in
    all_token text (run Outside 0 0 0 (first_blank text) text) (reads text u) (ap (λ l. spans_all (first l) (length text)) g.same ∙ eq-eqb (last + 1) (length text) e)
