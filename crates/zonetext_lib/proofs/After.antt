-- Errors and openers of octets that follow the end of an entry.
use Rattle.std.proofs.Common.{◌≡◌, ℕ, ◌+◌, ◌<◌, ◌≤◌, Bool, false, List, [], ◌∷◌, ◌++◌, length, take, drop, refl, sym, ap, ◌∙◌, subst, arith, inl, inr}
use Rattle.std.proofs.Common.{append-nil, append_assoc, length-append, length-drop, take_all}
use Rattle.std.specs.Prelude.{Option, map, Ok, IsSomeAnd, encode_utf8_all}
use Rattle.std.proofs.lemmas.List.{map-append, take-append-le}
use Rattle.std.proofs.lemmas.Bool.{cases_lt}
use Rattle.std.proofs.lemmas.Str.{encodes-append}
use Rattle.std.proofs.Math.Seq.{take-append-add}
use Rattle.dns_lexer.specs.declared.pieces.Piece.{Piece}
use Rattle.dns_lexer.specs.declared.pieces.Piece.TheVariants.{Word as WordAt, Quote as QuoteAt, Comment as CommentAt, End as EndAt}
use Rattle.dns_lexer.specs.declared.pieces.Fault.{Fault}
use Rattle.dns_lexer.specs.declared.pieces.Wrong.{Wrong}
use Rattle.dns_lexer.specs.declared.pieces.Wrong.TheVariants.{Closing, OpenParenthesis, OpenQuote, LoneReturn, BadEscape}
use Rattle.dns_lexer.specs.declared.position.Position.{Position}
use Rattle.dns_lexer.specs.Lexeme.{Line, lexeme_bytes}
use Rattle.dns_lexer.specs.Unclosed.{IsOpener}
use Rattle.dns_lexer.specs.Splitting.{Entries, Splits, with_token}
use Rattle.dns_lexer.specs.Pieces.{AreItemsOf, IsPieces, IsWrong, tokens_by_entry, between, end_at, moved_piece, moved_fault, moved_wrong, place_of}
use Rattle.dns_lexer.proofs.FaultJoins.{opener_joined}
use Rattle.dns_lexer.proofs.Joins.{split_cut}
use Rattle.dns_lexer.proofs.PieceJoins.{pieces_joined}
use Rattle.dns_lexer.proofs.PieceMoved.{mono}
use Rattle.dns_lexer.proofs.PieceSplit.{pieces_split, split_pieces, pieces_one_way}
use Rattle.zonetext_lib.specs.Blocks.{EndsEntry}
use Rattle.zonetext_lib.specs.Found.{IsFound, IsOctetFault, IsOpenedAfter}
use Rattle.zone_format.specs.Place.{IsAt}
use Rattle.zonetext_lib.specs.declared.check.Found.{Found}
use Rattle.zonetext_lib.proofs.Cuts.{fault_after}
use Rattle.zone_format.proofs.Givens.{whole_of, pieces_after, pieces_in}

-- the end of the entry before the last
abbrev last_but_one : ℕ → ℕ → List Piece → ℕ
last_but_one a b [] = a
last_but_one a b (WordAt p ∷ ps) = last_but_one a b ps
last_but_one a b (QuoteAt p ∷ ps) = last_but_one a b ps
last_but_one a b (CommentAt p ∷ ps) = last_but_one a b ps
last_but_one a b (EndAt p ∷ ps) = last_but_one b p.at ps

two_ends : (xs : List Piece) (a b i j : ℕ) (s t : Bool) → last_but_one a b (xs ++ end_at i s ∷ end_at j t ∷ []) ≡ i
two_ends [] a b i j s t = refl
two_ends (WordAt p ∷ xs) a b i j s t = two_ends xs a b i j s t
two_ends (QuoteAt p ∷ xs) a b i j s t = two_ends xs a b i j s t
two_ends (CommentAt p ∷ xs) a b i j s t = two_ends xs a b i j s t
two_ends (EndAt p ∷ xs) a b i j s t = two_ends xs b p.at i j s t

token_some : (t : List ℕ) (e : Entries) → with_token t e ≡ [] → ⊥
token_some t [] h = cc
token_some t (x ∷ e) h = cc

token_not_none : (t : List ℕ) (e : Entries) → with_token t e ≡ [] ∷ [] → ⊥
token_not_none t [] h = cc
token_not_none t (x ∷ e) h = cc

abbrev rest_of : Entries → Entries
rest_of [] = []
rest_of (x ∷ xs) = xs

-- pieces of no entry, and of one without tokens
no_entry : (text : List ℕ) (f : ℕ → ℕ) (ps : List Piece) (a b : ℕ) → tokens_by_entry text ps ≡ [] → last_but_one a b (map (moved_piece f) ps) ≡ a
no_entry text f [] a b h = refl
no_entry text f (WordAt p ∷ ps) a b h = absurd (token_some _ _ h)
no_entry text f (QuoteAt p ∷ ps) a b h = absurd (token_some _ _ h)
no_entry text f (CommentAt p ∷ ps) a b h = no_entry text f ps a b h
no_entry text f (EndAt p ∷ ps) a b h = cc

one_entry : (text : List ℕ) (f : ℕ → ℕ) (ps : List Piece) (a b : ℕ) → tokens_by_entry text ps ≡ [] ∷ [] → last_but_one a b (map (moved_piece f) ps) ≡ b
one_entry text f [] a b h = cc
one_entry text f (WordAt p ∷ ps) a b h = absurd (token_not_none _ _ h)
one_entry text f (QuoteAt p ∷ ps) a b h = absurd (token_not_none _ _ h)
one_entry text f (CommentAt p ∷ ps) a b h = one_entry text f ps a b h
one_entry text f (EndAt p ∷ ps) a b h = no_entry text f ps b (f p.at) (ap rest_of h)

after_one : (text : List ℕ) (f : ℕ → ℕ) (xs ps : List Piece) (a b i : ℕ) (s : Bool) → tokens_by_entry text ps ≡ [] ∷ [] → last_but_one a b (xs ++ end_at i s ∷ map (moved_piece f) ps) ≡ i
after_one text f [] ps a b i s h = one_entry text f ps b i h
after_one text f (WordAt p ∷ xs) ps a b i s h = after_one text f xs ps a b i s h
after_one text f (QuoteAt p ∷ xs) ps a b i s h = after_one text f xs ps a b i s h
after_one text f (CommentAt p ∷ xs) ps a b i s h = after_one text f xs ps a b i s h
after_one text f (EndAt p ∷ xs) ps a b i s h = after_one text f xs ps b p.at i s h

-- the last entry has no tokens, and others come before it
record LastNone (e : Entries) : Type 0 where
  pub front : Entries
  pub some : 0 < length front
  pub is : e ≡ front ++ [] ∷ []

token_before : (t : List ℕ) (e : Entries) → LastNone e → LastNone (with_token t e)
token_before t e l = go l.front l.some l.is
  where
    go : (f : Entries) → 0 < length f → e ≡ f ++ [] ∷ [] → LastNone (with_token t e)
    go [] s h = absurd (omega (arith, s))
    go (x ∷ f) s h = record { front = (t ∷ x) ∷ f; some = omega arith; is = ap (with_token t) h }

last_none : (text : List ℕ) (xs : List Piece) (i j : ℕ) (s t : Bool) → LastNone (tokens_by_entry text (xs ++ end_at i s ∷ end_at j t ∷ []))
last_none text [] i j s t = record { front = [] ∷ []; some = omega arith; is = refl }
last_none text (WordAt p ∷ xs) i j s t = token_before (between text p.start p.end) _ (last_none text xs i j s t)
last_none text (QuoteAt p ∷ xs) i j s t = token_before (between text p.start p.end) _ (last_none text xs i j s t)
last_none text (CommentAt p ∷ xs) i j s t = last_none text xs i j s t
last_none text (EndAt p ∷ xs) i j s t =
    let l = last_none text xs i j s t in
    record { front = [] ∷ l.front; some = omega arith; is = ap (λ e. [] ∷ e) l.is }

-- a text that ends in a line's end
pub record EndsLine (text : List ℕ) : Type 0 where
  pub front : List ℕ
  pub has_cr : Bool
  pub is : text ≡ front ++ lexeme_bytes (Line has_cr)
  pub found : Entries
  pub splits : Splits front found

nothing : (l : List ℕ) → length l ≡ 0 → l ≡ []
nothing [] h = refl
nothing (x ∷ l) h = absurd (omega (arith, h))

ends_line : (text : List ℕ) (xs : List Piece) (j : ℕ) (s t : Bool) → IsPieces text (xs ++ end_at (length text) s ∷ end_at j t ∷ []) → EndsLine text
ends_line text xs j s t p =
    let all : List Piece = xs ++ end_at (length text) s ∷ end_at j t ∷ [] in
    let l = last_none text xs (length text) j s t in
    let c = split_cut text l.front ([] ∷ []) (subst (Splits text) l.is (pieces_split text all p)) l.some (omega arith) in
    let x : List ℕ = c.0 in
    let y : List ℕ = c.1 in
    let r : Bool = c.2 in
    let one = split_pieces x l.front c.4 in
    let two = split_pieces y ([] ∷ []) c.5 in
    let g = pieces_joined x y r one.0 two.0 one.1 two.1 in
    let n : ℕ = length x + length (lexeme_bytes (Line r)) in
    let other : List Piece = g.0 ++ end_at n g.1 ∷ map (moved_piece (λ i. n + i)) two.0 in
    let same = pieces_one_way text all other p (subst (λ k. IsPieces k other) (sym c.3) g.3) in
    let at : length text ≡ n = sym (two_ends xs 0 0 (length text) j s t) ∙ ap (last_but_one 0 0) same ∙ after_one y (λ i. n + i) g.0 two.0 0 0 n g.1 two.2 in
    let none : y ≡ [] = nothing y (omega (arith, at, ap length c.3, length-append x (lexeme_bytes (Line r) ++ y), length-append (lexeme_bytes (Line r)) y)) in
    record {
      front = x;
      has_cr = r;
      is = c.3 ∙ ap (λ l. x ++ (lexeme_bytes (Line r) ++ l)) none ∙ ap (λ l. x ++ l) (append-nil (lexeme_bytes (Line r)));
      found = l.front;
      splits = c.4;
    }

-- an entry's end is a line's end
pub entry_line : (octets : List ℕ) (found : List Piece) (blank : Bool) → AreItemsOf octets (map Ok found ++ Ok (end_at (length octets) blank) ∷ Ok (end_at (length octets) false) ∷ [])
    → EndsLine (encode_utf8_all octets)
entry_line octets found blank given =
    let n : ℕ = length octets in
    let g : ℕ → ℕ = place_of octets in
    let ends : List Piece = end_at n blank ∷ end_at n false ∷ [] in
    let whole = whole_of octets (map Ok found ++ map Ok ends) given.0 (fault_after found (map Ok ends)) in
    let pieces : map (moved_piece g) (pieces_in (map Ok found ++ map Ok ends)) ≡ map (moved_piece g) found ++ end_at (g n) blank ∷ end_at (g n) false ∷ [] =
    ap (map (moved_piece g)) (pieces_after found (map Ok ends)) ∙ map-append (moved_piece g) found ends in
    let all : g n ≡ length (encode_utf8_all octets) = ap (λ l. length (encode_utf8_all l)) (take_all n octets (omega arith)) in
    let here : IsPieces (encode_utf8_all octets) (map (moved_piece g) found ++ end_at (length (encode_utf8_all octets)) blank ∷ end_at (g n) false ∷ []) =
    subst (λ k. IsPieces (encode_utf8_all octets) (map (moved_piece g) found ++ end_at k blank ∷ end_at (g n) false ∷ [])) all (subst (IsPieces (encode_utf8_all octets)) pieces whole) in
    ends_line (encode_utf8_all octets) (map (moved_piece g) found) (g n) blank false here

-- the outermost parenthesis that is open after it
opener_on : (before octets : List ℕ) (i : ℕ) → EndsEntry before → IsOpener (encode_utf8_all octets) (place_of octets i)
    → IsOpener (encode_utf8_all (before ++ octets)) (place_of (before ++ octets) (length before + i))
opener_on before octets i (inl none) o =
    let here : i ≡ 0 + i = omega arith in
    subst (λ l. IsOpener (encode_utf8_all (l ++ octets)) (place_of (l ++ octets) (length l + i))) (sym none) (subst (λ k. IsOpener (encode_utf8_all octets) (place_of octets k)) here o)
opener_on before octets i (inr e) o =
    let line = entry_line before e.0 e.1 e.2 in
    let x : List ℕ = line.front in
    let l : List ℕ = lexeme_bytes (Line line.has_cr) in
    let text : List ℕ = encode_utf8_all octets in
    let all : x ++ (l ++ text) ≡ encode_utf8_all (before ++ octets) = sym (append_assoc x l text) ∙ ap (λ k. k ++ text) (sym line.is) ∙ sym (encodes-append before octets) in
    let front : encode_utf8_all (take (length before + i) (before ++ octets)) ≡ encode_utf8_all before ++ encode_utf8_all (take i octets) =
    ap encode_utf8_all (take-append-add before octets i) ∙ encodes-append before (take i octets) in
    let at : length x + length l + place_of octets i ≡ place_of (before ++ octets) (length before + i) =
    omega (arith, ap length front, length-append (encode_utf8_all before) (encode_utf8_all (take i octets)), ap length line.is, length-append x l) in
    subst (IsOpener (encode_utf8_all (before ++ octets))) at
    (subst (λ k. IsOpener k (length x + length l + place_of octets i)) all (opener_joined x text line.has_cr line.found (place_of octets i) line.splits o))

-- a parenthesis is open only at the end
open_last : (octets : List ℕ) (f : Fault) → IsOctetFault octets f → f.wrong ≡ OpenParenthesis → length octets ≤ f.at
open_last octets f h e =
    let text : List ℕ = encode_utf8_all octets in
    let at : ℕ = place_of octets f.at in
    let wrong = subst (λ w. IsWrong (take at text) (drop at text) (moved_wrong (place_of octets) w)) e h.is.wrong in
    elim (cases_lt f.at (length octets)) [
      | inl less ↦
          let all : place_of octets (length octets) ≡ length text = ap (λ l. length (encode_utf8_all l)) (take_all (length octets) octets (omega arith)) in
          absurd (omega (arith, all, mono octets f.at (length octets) less (omega arith), ap length wrong.0, length-drop at text))
      | inr most ↦ most
    ]

-- what is found in octets that follow
pub found_on : (before octets more : List ℕ) (f : Fault) (r : Found) → EndsEntry before → f.at ≤ length octets → IsOctetFault (before ++ (octets ++ more)) (moved_fault (λ i. length before + i) f)
    → r.fault ≡ moved_fault (λ i. length before + i) f → IsAt 0 (before ++ take f.at octets) r.position → IsOpenedAfter 0 before octets f.wrong r.opened
    → IsFound (before ++ (octets ++ more)) 0 r
found_on before octets more f r e within fault is position opened = record {
  fault = subst (IsOctetFault (before ++ (octets ++ more))) (sym is) fault;
  position = subst (λ l. IsAt 0 l r.position) (sym (ap (λ (k : Fault). take k.at (before ++ (octets ++ more))) is ∙ place f.at within)) position;
  opened = subst (λ (k : Fault). IsOpenedAfter 0 [] (before ++ (octets ++ more)) k.wrong r.opened) (sym is) (go f.wrong refl opened);
}
  where
    place : (i : ℕ) → i ≤ length octets → take (length before + i) (before ++ (octets ++ more)) ≡ before ++ take i octets
    place i h = take-append-add before (octets ++ more) i ∙ ap (λ l. before ++ l) (take-append-le i octets more h)

    among : (i : ℕ) → i ≤ length octets → length before + i ≤ length (before ++ (octets ++ more))
    among i h = omega (arith, h, length-append before (octets ++ more), length-append octets more)

    at_place : (i : ℕ) (o : Option Position) → i ≤ length octets → IsSomeAnd o (λ p. IsAt 0 (before ++ take i octets) p)
        → IsSomeAnd o (λ p. IsAt 0 (take (length before + i) (before ++ (octets ++ more))) p)
    at_place i o h s = subst (λ l. IsSomeAnd o (λ p. IsAt 0 l p)) (sym (place i h)) s

    left_open : f.wrong ≡ OpenParenthesis → (i : ℕ) → IsOpener (encode_utf8_all octets) (place_of octets i)
        → IsOpener (encode_utf8_all (before ++ (octets ++ more))) (place_of (before ++ (octets ++ more)) (length before + i))
    left_open w i o =
        let last = open_last (before ++ (octets ++ more)) (moved_fault (λ i. length before + i) f) fault (ap (moved_wrong (λ i. length before + i)) w) in
        let none : more ≡ [] = nothing more (omega (arith, last, within, length-append before (octets ++ more), length-append octets more)) in
        let whole : before ++ octets ≡ (before ++ (octets ++ more)) = ap (λ l. before ++ l) (sym (append-nil octets) ∙ ap (λ l. octets ++ l) (sym none)) in
        subst (λ l. IsOpener (encode_utf8_all l) (place_of l (length before + i))) whole (opener_on before octets i e o)

    go : (w : Wrong) → f.wrong ≡ w → IsOpenedAfter 0 before octets w r.opened
        → IsOpenedAfter 0 [] (before ++ (octets ++ more)) (moved_wrong (λ i. length before + i) w) r.opened
    go (OpenQuote i) w h = (among i h.0, at_place i r.opened h.0 h.1)
    go OpenParenthesis w h = (length before + h.0, among h.0 h.1, left_open w h.0 h.2, at_place h.0 r.opened h.1 h.3)
    go Closing w h = h
    go LoneReturn w h = h
    go BadEscape w h = h
