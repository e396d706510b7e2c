-- The items before an error are all that is settled.
use Rattle.std.proofs.Common.{◌≡◌, ℕ, zero, suc, ◌+◌, ◌*◌, ◌<◌, ◌≤◌, Bool, true, false, cond, ◌==◌, List, [], ◌∷◌, ◌++◌, length, replicate, refl, sym, ap, ◌∙◌, subst, arith}
use Rattle.std.proofs.Common.{append-nil, inl, inr, ◌⊎◌}
use Rattle.std.specs.Prelude.{Some, None, map, Result, Ok, encode_utf8_all}
use lib.Utf8.{scalars}
use Rattle.std.proofs.Math.Nat.{zero-add}
use Rattle.std.proofs.lemmas.Bool.{cases_Bool, ne_eqb}
use Rattle.std.proofs.lemmas.Str.{encodes-append}
use Rattle.dns_lexer.specs.declared.reader.Mode.{Mode}
use Rattle.dns_lexer.specs.declared.reader.Mode.TheVariants.{Outside, Quoted, Comment, Return, Escape, OneDigit, TwoDigits}
use Rattle.dns_lexer.specs.declared.reader.Act.TheVariants.{Add, BeginToken, EndToken, EndEntry, FinishToken}
use Rattle.dns_lexer.specs.declared.reader.Within.{Within}
use Rattle.dns_lexer.specs.declared.reader.Within.TheVariants.{InWord, InQuote}
use Rattle.dns_lexer.specs.declared.pieces.Piece.{Piece}
use Rattle.dns_lexer.specs.declared.pieces.Piece.TheVariants.{Word as WordAt, Quote as QuoteAt, Comment as CommentAt, End as EndAt}
use Rattle.dns_lexer.specs.declared.pieces.Fault.{Fault}
use Rattle.dns_lexer.specs.Splitting.{Splits}
use Rattle.dns_lexer.specs.Reader.{home, move_to, step, line_end}
use Rattle.dns_lexer.specs.Pieces.{word_at, quote_at, comment_at, end_at, IsPieces, EachWithin, Begins, BeginsPieces}
use Rattle.dns_lexer.specs.Run.{before, closed_piece, first_blank, run}
use Rattle.dns_lexer.proofs.Complete.{Some_same, first_step, second_step, third_step}
use Rattle.dns_lexer.proofs.Sound.{read_splits}
use Rattle.dns_lexer.proofs.Viable.{walk, walk_completes, Completes, Fine, step_completes, close_completes, line_completes, low, low_encodes, low_scalars, low_close, scalars_both}
use Rattle.dns_lexer.proofs.PieceSteps.{run_step}
use Rattle.dns_lexer.proofs.PieceLexemes.{self}
use Rattle.dns_lexer.proofs.PieceWhole.{pieces_run}
use Rattle.dns_lexer.proofs.PieceSplit.{split_pieces}
use Rattle.dns_lexer.proofs.PieceParts.{each_within}
use Rattle.dns_lexer.proofs.PieceGiven.{Gives, Stands, same_first, first_of, tail_of}

abbrev pub end_of : Piece → ℕ
end_of (WordAt p) = p.end
end_of (QuoteAt p) = p.end
end_of (CommentAt p) = p.end
end_of (EndAt p) = p.at

-- what comes first isn't the same
abbrev Differ : List (Result Piece Fault) → List (Result Piece Fault) → Type 0
Differ l k = (p : Piece) (xs ys : List (Result Piece Fault)) → l ≡ Ok p ∷ xs → k ≡ Ok p ∷ ys → ⊥

by_ends : (p q : Piece) (xs ys l k : List (Result Piece Fault)) → l ≡ Ok p ∷ xs → k ≡ Ok q ∷ ys → (end_of p ≡ end_of q → ⊥) → Differ l k
by_ends p q xs ys l k h g apart r us vs e f = apart (ap end_of (ap (first_of p) (sym h ∙ e) ∙ sym (ap (first_of q) (sym g ∙ f))))

-- two continuations, each to a text of the grammar, whose pieces differ at once
record Apart (m : Mode) (d s n : ℕ) : Type 0 where
  pub one : List ℕ
  pub two : List ℕ
  pub low_one : low one ≡ true
  pub low_two : low two ≡ true
  pub one_completes : Completes m d one
  pub two_completes : Completes m d two
  pub differ : (x y : Bool) → Differ (run m d s n x one) (run m d s n y two)

abbrev quoted_one : ℕ → List ℕ
quoted_one d = 34 ∷ replicate d 41

quoted_completes : (d : ℕ) → Completes Quoted d (quoted_one d)
quoted_completes d = step_completes Quoted d 34 (replicate d 41) (record { mode = Outside; depth = d; act = FinishToken }) refl (close_completes d)

quoted_apart : (d s n : ℕ) → Apart Quoted d s n
quoted_apart d s n = record {
  one = quoted_one d;
  two = 97 ∷ quoted_one d;
  low_one = low_close d;
  low_two = low_close d;
  one_completes = quoted_completes d;
  two_completes = step_completes Quoted d 97 (quoted_one d) (record { mode = Quoted; depth = d; act = Add }) refl (quoted_completes d);
  differ = λ x y. by_ends (quote_at s (n + 1)) (quote_at s (n + 1 + 1)) _ _ _ _ refl refl (λ e. omega (arith, e));
}

abbrev outside_one : ℕ → List ℕ
outside_one d = 34 ∷ quoted_one d

outside_completes : (d : ℕ) → Completes Outside d (outside_one d)
outside_completes d = step_completes Outside d 34 (quoted_one d) (record { mode = Quoted; depth = d; act = BeginToken }) refl (quoted_completes d)

-- where a quoted string begins, an open word ends
quote_next : (d s n : ℕ) (x t : Bool) → (s == n) ≡ t
    → run Outside d s n x (outside_one d) ≡ before (cond t None (Some (word_at s n))) (Ok (quote_at n (n + 1 + 1)) ∷ run Outside d (n + 1 + 1) (n + 1 + 1) x (replicate d 41))
quote_next d s n x t e = ap (λ o. before (cond o None (Some (word_at s n))) (Ok (quote_at n (n + 1 + 1)) ∷ run Outside d (n + 1 + 1) (n + 1 + 1) x (replicate d 41))) e

outside_differ : (d s n : ℕ) → s ≤ n → (x y : Bool) → Differ (run Outside d s n x (outside_one d)) (run Outside d s n y (97 ∷ outside_one d))
outside_differ d s n h x y = go (cases_Bool (s == n))
  where
    longer : run Outside d s (n + 1) y (outside_one d) ≡ Ok (word_at s (n + 1)) ∷ Ok (quote_at (n + 1) (n + 1 + 1 + 1)) ∷ run Outside d (n + 1 + 1 + 1) (n + 1 + 1 + 1) y (replicate d 41)
    longer = quote_next d s (n + 1) y false (ne_eqb s (n + 1) (λ e. omega (arith, e, h)))

    go : ((s == n) ≡ true) ⊎ ((s == n) ≡ false) → Differ (run Outside d s n x (outside_one d)) (run Outside d s n y (97 ∷ outside_one d))
    go (inl e) = by_ends (quote_at n (n + 1 + 1)) (word_at s (n + 1)) _ _ _ _ (quote_next d s n x true e) longer (λ k. omega (arith, k))
    go (inr e) = by_ends (word_at s n) (word_at s (n + 1)) _ _ _ _ (quote_next d s n x false e) longer (λ k. omega (arith, k))

outside_apart : (d s n : ℕ) → s ≤ n → Apart Outside d s n
outside_apart d s n h = record {
  one = outside_one d;
  two = 97 ∷ outside_one d;
  low_one = low_close d;
  low_two = low_close d;
  one_completes = outside_completes d;
  two_completes = step_completes Outside d 97 (outside_one d) (record { mode = Outside; depth = d; act = Add }) refl (outside_completes d);
  differ = outside_differ d s n h;
}

abbrev comment_one : ℕ → List ℕ
comment_one d = 10 ∷ replicate d 41

comment_completes : (d : ℕ) → Completes Comment d (comment_one d)
comment_completes d = line_completes Comment d (line_end d) refl

comment_apart : (d s n : ℕ) → Apart Comment d s n
comment_apart d s n = record {
  one = comment_one d;
  two = 97 ∷ comment_one d;
  low_one = low_close d;
  low_two = low_close d;
  one_completes = comment_completes d;
  two_completes = step_completes Comment d 97 (comment_one d) (record { mode = Comment; depth = d; act = EndToken }) refl (comment_completes d);
  differ = λ x y. by_ends (comment_at s n) (comment_at s (n + 1)) _ _ _ _ refl refl (λ e. omega (arith, e));
}

home_apart : (q : Within) (d s n : ℕ) → s ≤ n → Apart (home q) d s n
home_apart InWord d s n h = outside_apart d s n h
home_apart InQuote d s n h = quoted_apart d s n

-- one digit more
digit_apart : (m m' : Mode) (d s n : ℕ) → step m d 48 ≡ move_to m' d Add → closed_piece m m' Add s n ≡ None → Apart m' d s (n + 1) → Apart m d s n
digit_apart m m' d s n h c a = record {
  one = 48 ∷ a.one;
  two = 48 ∷ a.two;
  low_one = a.low_one;
  low_two = a.low_two;
  one_completes = step_completes m d 48 a.one (record { mode = m'; depth = d; act = Add }) h a.one_completes;
  two_completes = step_completes m d 48 a.two (record { mode = m'; depth = d; act = Add }) h a.two_completes;
  differ = λ x y p xs ys e f. a.differ x y p xs ys (sym (on x a.one) ∙ e) (sym (on y a.two) ∙ f);
}
  where
    on : (x : Bool) (l : List ℕ) → run m d s n x (48 ∷ l) ≡ run m' d s (n + 1) x l
    on x l = run_step m d s n x 48 l _ h ∙ ap (λ o. before o (run m' d s (n + 1) x l)) c

two_apart : (q : Within) (v d s n : ℕ) → v ≤ 25 → s ≤ n → Apart (TwoDigits q v) d s n
two_apart q v d s n few h = digit_apart (TwoDigits q v) (home q) d s n (third_step q d v 0 (omega arith) (omega arith)) refl (home_apart q d s (n + 1) (omega arith))

one_apart : (q : Within) (v d s n : ℕ) → v ≤ 2 → s ≤ n → Apart (OneDigit q v) d s n
one_apart q v d s n few h = digit_apart (OneDigit q v) (TwoDigits q (10 * v + 0)) d s n (second_step q d v 0 (omega arith) (omega arith)) refl
    (two_apart q (10 * v + 0) d s (n + 1) (omega arith) (omega arith))

escape_apart : (q : Within) (d s n : ℕ) → s ≤ n → Apart (Escape q) d s n
escape_apart q d s n h = digit_apart (Escape q) (OneDigit q 0) d s n (first_step q d 0 (omega arith)) refl (one_apart q 0 d s (n + 1) (omega arith) (omega arith))

-- after a CR in parentheses
return_apart : (d n : ℕ) → Apart Return (suc d) n n
return_apart d n =
    let a = outside_apart (suc d) (n + 1) (n + 1) (omega arith) in
    let on : (x : Bool) (l : List ℕ) → run Return (suc d) n n x (10 ∷ l) ≡ run Outside (suc d) (n + 1) (n + 1) x l =
    λ x l. ap (λ t. before (cond t None (Some (word_at n n))) (run Outside (suc d) (n + 1) (n + 1) x l)) (self n) in
    record {
      one = 10 ∷ a.one;
      two = 10 ∷ a.two;
      low_one = a.low_one;
      low_two = a.low_two;
      one_completes = step_completes Return (suc d) 10 a.one (record { mode = Outside; depth = suc d; act = EndToken }) refl a.one_completes;
      two_completes = step_completes Return (suc d) 10 a.two (record { mode = Outside; depth = suc d; act = EndToken }) refl a.two_completes;
      differ = λ x y p xs ys e f. a.differ x y p xs ys (sym (on x a.one) ∙ e) (sym (on y a.two) ∙ f);
    }

-- pieces that are first of both lists
abbrev Common : List Piece → List Piece → List (Result Piece Fault) → List (Result Piece Fault) → List Piece → List Piece → Type 0
Common other found l k m n = Begins other found ⊎ ((p : Piece) × (os : List Piece) × (other ≡ found ++ p ∷ os) × (l ≡ Ok p ∷ map Ok (os ++ m)) × (k ≡ Ok p ∷ map Ok (os ++ n)))

common : (other found m n : List Piece) (l k : List (Result Piece Fault)) → map Ok (other ++ m) ≡ map Ok found ++ l → map Ok (other ++ n) ≡ map Ok found ++ k → Common other found l k m n
common [] found m n l k e f = inl (found, refl)
common (o ∷ os) [] m n l k e f = inr (o, os, refl, sym e, sym f)
common (o ∷ os) (p ∷ ps) m n l k e f = go (common os ps m n l k (ap tail_of e) (ap tail_of f))
  where
    same : o ≡ p
    same = ap (first_of o) e

    go : Common os ps l k m n → Common (o ∷ os) (p ∷ ps) l k m n
    go (inl b) = inl (b.0, ap (λ z. z ∷ ps) (sym same) ∙ ap (λ t. o ∷ t) b.1)
    go (inr b) = inr (b.0, b.1, ap (λ z. z ∷ os) same ∙ ap (λ t. p ∷ t) b.2, b.3, b.4)

-- what was walked, with what completes it
completed : (ys w : List ℕ) (p : Mode × ℕ) → scalars ys ≡ true → walk Outside 0 ys ≡ Some p → low w ≡ true → Completes p.0 p.1 w → (all : List Piece) × IsPieces (encode_utf8_all ys ++ w) all
completed ys w p ok h small c =
    let k = walk_completes ys w Outside 0 p h c [] in
    let is : encode_utf8_all (ys ++ w) ≡ encode_utf8_all ys ++ w = encodes-append ys w ∙ ap (λ l. encode_utf8_all ys ++ l) (low_encodes w small) in
    let r = split_pieces (encode_utf8_all ys ++ w) k.0 (subst (λ l. Splits l k.0) is (read_splits (ys ++ w) k.0 (scalars_both ys w ok (low_scalars w small)) k.1)) in
    (r.0, r.1)

-- what the machine yields for every text that begins with what was walked
abbrev pub GivesAll : List ℕ → Mode → ℕ → List Piece → ℕ → Type 0
GivesAll ys m d found s = (w : List ℕ) → (x : Bool) × (run Outside 0 0 0 (first_blank (encode_utf8_all ys ++ w)) (encode_utf8_all ys ++ w) ≡ map Ok found ++ run m d s
    (0 + length (encode_utf8_all ys)) x w)

pub gives_all : (ys r : List ℕ) (p : Mode × ℕ) → (g : Gives Outside 0 0 0 (first_blank (encode_utf8_all ys ++ r)) ys p) → walk Outside 0 ys ≡ Some p → (g.found ≡ []) ⊎ (0 < length ys)
    → GivesAll ys p.0 p.1 g.found g.start
gives_all [] r p g h (inl e) w =
    let b : Bool = first_blank w in
    let start : 0 ≡ g.start = omega (arith, (g.stands (omega arith, λ k. refl)).0) in (
      b,
      ap (λ (q : Mode × ℕ). run q.0 q.1 0 0 b w) (Some_same h) ∙ ap (λ i. run p.0 p.1 i 0 b w) start ∙ ap (λ l. map Ok l ++ run p.0 p.1 g.start 0 b w) (sym e),
    )
gives_all [] r p g h (inr e) w = absurd (omega arith)
gives_all (c ∷ ys) r p g h e w =
    let k = g.gives w in
    (k.0, ap (λ b. run Outside 0 0 0 b (encode_utf8_all (c ∷ ys) ++ w)) (same_first c ys w r) ∙ k.1)

-- where two texts differ, nothing more is settled
apart_longest : (ys : List ℕ) (m : Mode) (d s : ℕ) (found other : List Piece) → Apart m d s (0 + length (encode_utf8_all ys)) → GivesAll ys m d found s → scalars ys ≡ true
    → walk Outside 0 ys ≡ Some (m, d)
    → BeginsPieces (encode_utf8_all ys) other → Begins other found
apart_longest ys m d s found other a gives ok h begins =
    let u = completed ys a.one (m, d) ok h a.low_one a.one_completes in
    let v = completed ys a.two (m, d) ok h a.low_two a.two_completes in
    let x = gives a.one in
    let y = gives a.two in
    let i = begins a.one u.0 u.1 in
    let j = begins a.two v.0 v.1 in
    go i.0 j.0 x.0 y.0
    (common other found i.0 j.0 _ _ (ap (map Ok) (sym i.1) ∙ sym (pieces_run _ u.0 u.1) ∙ x.1) (ap (map Ok) (sym j.1) ∙ sym (pieces_run _ v.0 v.1) ∙ y.1))
  where
    n : ℕ
    n = 0 + length (encode_utf8_all ys)

    go : (i j : List Piece) (x y : Bool) → Common other found (run m d s n x a.one) (run m d s n y a.two) i j → Begins other found
    go i j x y (inl b) = b
    go i j x y (inr b) = elim (a.differ x y b.0 _ _ b.3 b.4) [ ]

-- after a CR outside parentheses, the end of the entry is settled
abbrev pub Ended : List Piece → List Piece → ℕ → Type 0
Ended other found n = (b : Bool) × (other ≡ found ++ end_at (n + 1) b ∷ [])

return_longest : (ys : List ℕ) (s : ℕ) (found other : List Piece) → s ≡ 0 + length (encode_utf8_all ys) → GivesAll ys Return 0 found s → scalars ys ≡ true → walk Outside 0 ys ≡ Some (Return, 0)
    → BeginsPieces (encode_utf8_all ys) other → Begins other found ⊎ Ended other found (length (encode_utf8_all ys))
return_longest ys s found other is gives ok h begins =
    let u = completed ys (10 ∷ a.one) (Return, 0) ok h a.low_one (on a.one a.one_completes) in
    let v = completed ys (10 ∷ a.two) (Return, 0) ok h a.low_two (on a.two a.two_completes) in
    let x = gives (10 ∷ a.one) in
    let y = gives (10 ∷ a.two) in
    let i = begins (10 ∷ a.one) u.0 u.1 in
    let j = begins (10 ∷ a.two) v.0 v.1 in
    go i.0 j.0 x.0 y.0
    (common other found i.0 j.0 _ _ (ap (map Ok) (sym i.1) ∙ sym (pieces_run _ u.0 u.1) ∙ x.1 ∙ ap (λ l. map Ok found ++ l) (line x.0 a.one))
    (ap (map Ok) (sym j.1) ∙ sym (pieces_run _ v.0 v.1) ∙ y.1 ∙ ap (λ l. map Ok found ++ l) (line y.0 a.two)))
  where
    n : ℕ
    n = 0 + length (encode_utf8_all ys)

    a : Apart Outside 0 (n + 1) (n + 1)
    a = outside_apart 0 (n + 1) (n + 1) (omega arith)

    on : (l : List ℕ) → Completes Outside 0 l → Completes Return 0 (10 ∷ l)
    on l c = step_completes Return 0 10 l (record { mode = Outside; depth = 0; act = EndEntry }) refl c

    rest : List ℕ → List (Result Piece Fault)
    rest l = run Outside 0 (n + 1) (n + 1) (first_blank l) l

    line : (x : Bool) (l : List ℕ) → run Return 0 s n x (10 ∷ l) ≡ Ok (end_at (n + 1) x) ∷ rest l
    line x l = ap (λ i. run Return 0 i n x (10 ∷ l)) is ∙ ap (λ t. before (cond t None (Some (word_at n n))) (Ok (end_at (n + 1) x) ∷ rest l)) (self n)

    go : (i j : List Piece) (x y : Bool) → Common other found (Ok (end_at (n + 1) x) ∷ rest a.one) (Ok (end_at (n + 1) y) ∷ rest a.two) i j
        → Begins other found ⊎ Ended other found (length (encode_utf8_all ys))
    go i j x y (inl b) = inl b
    go i j x y (inr b) = inr (x, last b.1 b.2 b.3 b.4)
      where
        p : Piece
        p = b.0

        same : end_at (n + 1) x ≡ p
        same = ap (first_of p) b.3

        last : (os : List Piece) → other ≡ found ++ p ∷ os → Ok (end_at (n + 1) x) ∷ rest a.one ≡ Ok p ∷ map Ok (os ++ i) → Ok (end_at (n + 1) y) ∷ rest a.two ≡ Ok p ∷ map Ok (os ++ j)
            → other ≡ found ++ end_at (length (encode_utf8_all ys) + 1) x ∷ []
        last [] e f g = e ∙ ap (λ q. found ++ q ∷ []) (sym same) ∙ ap (λ i. found ++ end_at (i + 1) x ∷ []) (zero-add (length (encode_utf8_all ys)))
        last (o ∷ os) e f g = elim (a.differ (first_blank a.one) (first_blank a.two) o _ _ (ap tail_of f) (ap tail_of g)) [ ]

-- nothing more is settled than what was yielded
pub longest : (ys : List ℕ) (m : Mode) (d s : ℕ) (found other : List Piece) → GivesAll ys m d found s → scalars ys ≡ true → walk Outside 0 ys ≡ Some (m, d)
    → Stands m s (0 + length (encode_utf8_all ys)) → Fine m
    → BeginsPieces (encode_utf8_all ys) other → Begins other found ⊎ ((m ≡ Return) × Ended other found (length (encode_utf8_all ys)))
longest ys Outside d s found other gives ok h w f begins = inl (apart_longest ys Outside d s found other (outside_apart d s _ w.0) gives ok h begins)
longest ys Quoted d s found other gives ok h w f begins = inl (apart_longest ys Quoted d s found other (quoted_apart d s _) gives ok h begins)
longest ys Comment d s found other gives ok h w f begins = inl (apart_longest ys Comment d s found other (comment_apart d s _) gives ok h begins)
longest ys (Escape q) d s found other gives ok h w f begins = inl (apart_longest ys (Escape q) d s found other (escape_apart q d s _ w.0) gives ok h begins)
longest ys (OneDigit q v) d s found other gives ok h w f begins = inl (apart_longest ys (OneDigit q v) d s found other (one_apart q v d s _ f w.0) gives ok h begins)
longest ys (TwoDigits q v) d s found other gives ok h w f begins = inl (apart_longest ys (TwoDigits q v) d s found other (two_apart q v d s _ f w.0) gives ok h begins)
longest ys Return zero s found other gives ok h w f begins = go (return_longest ys s found other (w.1 refl) gives ok h begins)
  where
    go : Begins other found ⊎ Ended other found (length (encode_utf8_all ys)) → Begins other found ⊎ ((Return ≡ Return) × Ended other found (length (encode_utf8_all ys)))
    go (inl b) = inl b
    go (inr b) = inr (refl, b)
longest ys Return (suc d) s found other gives ok h w f begins =
    inl (apart_longest ys Return (suc d) s found other (subst (λ i. Apart Return (suc d) i (0 + length (encode_utf8_all ys))) (sym (w.1 refl))
    (return_apart d (0 + length (encode_utf8_all ys)))) gives ok h begins)

within_front : (n : ℕ) (found : List Piece) (k : List (Result Piece Fault)) → EachWithin n (map Ok found ++ k) → EachWithin n (map Ok found)
within_front n [] k h = tt
within_front n (p ∷ found) k h = (h.0, within_front n found k h.1)

-- and each piece has ended
pub ended : (ys : List ℕ) (m : Mode) (d s : ℕ) (found : List Piece) → GivesAll ys m d found s → EachWithin (length (encode_utf8_all ys)) (map Ok found)
ended ys m d s found gives =
    let k = gives [] in
    let is : encode_utf8_all ys ++ [] ≡ encode_utf8_all ys = append-nil (encode_utf8_all ys) in
    within_front (length (encode_utf8_all ys)) found _
    (subst (EachWithin (length (encode_utf8_all ys))) k.1 (subst (λ l. EachWithin (length l) (run Outside 0 0 0 (first_blank (encode_utf8_all ys ++ [])) (encode_utf8_all ys ++ []))) is
    (each_within (encode_utf8_all ys ++ []) (first_blank (encode_utf8_all ys ++ [])))))
