-- What the machine yields for any text.
use Rattle.std.proofs.Common.{◌≡◌, ℕ, zero, suc, ◌+◌, ◌<◌, Bool, true, false, List, [], ◌∷◌, ◌++◌, length, take, drop, replicate, refl, sym, ap, ◌∙◌, subst, arith, append_assoc, append-nil}
use Rattle.std.proofs.Common.{inl, inr, ◌⊎◌, IsUtf8}
use Rattle.std.specs.Prelude.{Some, None, map, Result, Ok, encode_utf8, encode_utf8_all, option_and_then}
use lib.Utf8.{scalar, scalars}
use Rattle.std.proofs.Math.Nat.{zero-add}
use Rattle.std.proofs.lemmas.List.{map-append, drop_at}
use Rattle.std.proofs.lemmas.Bool.{cond-true, cond-false, and_from}
use Rattle.std.proofs.lemmas.Str.{encodes-append, encode_ascii}
use Rattle.std.proofs.Math.Seq.{take-append_seam}
use Rattle.dns_lexer.specs.declared.reader.Mode.{Mode}
use Rattle.dns_lexer.specs.declared.reader.Mode.TheVariants.{Outside, Quoted, Comment, Return, Escape, OneDigit, TwoDigits}
use Rattle.dns_lexer.specs.declared.reader.Kind.{Kind}
use Rattle.dns_lexer.specs.declared.reader.Kind.TheVariants.{White, LineFeed, CarriageReturn, Opening, Closing, Semicolon, DoubleQuote, Backslash, Plain}
use Rattle.dns_lexer.specs.declared.reader.Act.TheVariants.{EndToken}
use Rattle.dns_lexer.specs.declared.reader.Move.{Move}
use Rattle.dns_lexer.specs.declared.pieces.Piece.{Piece}
use Rattle.dns_lexer.specs.declared.pieces.Fault.{Fault}
use Rattle.dns_lexer.specs.declared.pieces.Wrong.{Wrong}
use Rattle.dns_lexer.specs.declared.pieces.Wrong.TheVariants.{Closing as Late, LoneReturn}
use Rattle.dns_lexer.specs.Splitting.{Splits, Entries}
use Rattle.dns_lexer.specs.Reader.{kind, step, outside_step, comment_step, return_step, read, may_end, with_open}
use Rattle.dns_lexer.specs.Viable.{IsBad, IsViable}
use Rattle.dns_lexer.specs.Unclosed.{LacksClosing}
use Rattle.dns_lexer.specs.Pieces.{quote_at, end_at, begins_blank, pieces, IsPieces, Begins, Settles, EndsQuote, IsWrong, Whole, Faulty, Reads}
use Rattle.dns_lexer.specs.Run.{first_blank, fault, wrong_at, wrong_at_end, run}
use Rattle.dns_lexer.proofs.Complete.{Some_same, View, view, v_space, v_tab, v_lf, v_cr, v_open, v_close, v_note, v_quote, v_escape, v_plain}
use Rattle.dns_lexer.proofs.Sound.{read_splits}
use Rattle.dns_lexer.proofs.Viable.{walk, walk_append, walk_fine, walk_completes, walked_viable, Completes, line_completes, low_encodes, low_scalars, low_close, scalars_both, scalars_left}
use Rattle.dns_lexer.proofs.Viable.{begin_same, cant_follow}
use Rattle.dns_lexer.proofs.Steps.{bad_step, early, whole, boundary}
use Rattle.dns_lexer.proofs.PieceLexemes.{run_none}
use Rattle.dns_lexer.proofs.PieceGiven.{Stop, stop, Gives, front_of, same_first, settled, some_walked}
use Rattle.dns_lexer.proofs.PieceSettled.{gives_all, longest, Ended, ended}
use Rattle.dns_lexer.proofs.PieceWhole.{pieces_run}

-- with a double quote after it, the quoted string that is open is a piece
quoted_piece : (c : ℕ) (ys r : List ℕ) (d : ℕ) → (g : Gives Outside 0 0 0 (first_blank (encode_utf8_all (c ∷ ys) ++ r)) (c ∷ ys) (Quoted, d))
    → EndsQuote (encode_utf8_all (c ∷ ys)) g.start
quoted_piece c ys r d g more all is =
    let front : List ℕ = encode_utf8_all (c ∷ ys) in
    let n : ℕ = length front in
    let k = g.gives (34 ∷ more) in
    let text : List ℕ = front ++ (34 ∷ more) in
    let left : List (Result Piece Fault) = run Outside d (n + 1) (n + 1) k.0 more in
    let q : Piece = quote_at g.start (n + 1) in
    let e : map Ok all ≡ map Ok g.found ++ (Ok q ∷ left) =
    sym (pieces_run text all is) ∙ ap (λ b. run Outside 0 0 0 b text) (same_first c ys (34 ∷ more) r) ∙ k.1 ∙ ap (λ i. map Ok g.found ++ run Quoted d g.start i k.0 (34 ∷ more)) (zero-add n) in
    let m = front_of (g.found ++ q ∷ []) all left (e ∙ sym (ap (λ l. l ++ left) (map-append Ok g.found (q ∷ [])) ∙ append_assoc (map Ok g.found) (Ok q ∷ []) left)) in
    (g.found, m.0, m.1 ∙ append_assoc g.found (q ∷ []) m.0)

quote_viable : (ys : List ℕ) (d : ℕ) → scalars ys ≡ true → walk Outside 0 ys ≡ Some (Quoted, d) → IsViable (encode_utf8_all ys ++ 34 ∷ [])
quote_viable ys d ok h =
    let there : walk Outside 0 (ys ++ 34 ∷ []) ≡ Some (Outside, d) = walk_append ys (34 ∷ []) Outside 0 ∙ ap (option_and_then (λ (q : Mode × ℕ). walk q.0 q.1 (34 ∷ []))) h in
    subst IsViable (encodes-append ys (34 ∷ []) ∙ ap (λ l. encode_utf8_all ys ++ l) (low_encodes (34 ∷ []) refl)) (walked_viable (ys ++ 34 ∷ []) (Outside, d) (scalars_both ys (34 ∷ []) ok refl) there)

-- after CR
no_feed : (ys : List ℕ) (d c : ℕ) (k : Kind) → scalars ys ≡ true → walk Outside 0 ys ≡ Some (Return, d) → kind c ≡ k → return_step d k ≡ None → scalar c ≡ true
    → IsViable (encode_utf8_all ys ++ encode_utf8 c) → c ≡ 10
no_feed ys d c k ok h e f fine v = absurd (cant_follow ys c (Return, d) ok fine h (ap (return_step d) e ∙ f) v)

feed : (ys : List ℕ) (d c : ℕ) → View c → scalars ys ≡ true → walk Outside 0 ys ≡ Some (Return, d) → scalar c ≡ true → IsViable (encode_utf8_all ys ++ encode_utf8 c) → c ≡ 10
feed ys d _ v_lf ok h fine v = refl
feed ys d c (v_plain p) ok h fine v = no_feed ys d c Plain ok h p.kind_is refl fine v
feed ys d _ v_space ok h fine v = no_feed ys d 32 White ok h refl refl fine v
feed ys d _ v_tab ok h fine v = no_feed ys d 9 White ok h refl refl fine v
feed ys d _ v_cr ok h fine v = no_feed ys d 13 CarriageReturn ok h refl refl fine v
feed ys d _ v_open ok h fine v = no_feed ys d 40 Opening ok h refl refl fine v
feed ys d _ v_close ok h fine v = no_feed ys d 41 Closing ok h refl refl fine v
feed ys d _ v_note ok h fine v = no_feed ys d 59 Semicolon ok h refl refl fine v
feed ys d _ v_quote ok h fine v = no_feed ys d 34 DoubleQuote ok h refl refl fine v
feed ys d _ v_escape ok h fine v = no_feed ys d 92 Backslash ok h refl refl fine v

only_feed : (ys rest : List ℕ) (d : ℕ) → scalars ys ≡ true → walk Outside 0 ys ≡ Some (Return, d) → IsWrong (encode_utf8_all ys) rest LoneReturn
only_feed ys rest d ok h c fine v = feed ys d c (view c) ok h fine v

-- in an escape
bad_escape : (ys : List ℕ) (m : Mode) (d : ℕ) → scalars ys ≡ true → walk Outside 0 ys ≡ Some (m, d) → step m d 9 ≡ None → step m d 10 ≡ None
    → (¬ IsViable (encode_utf8_all ys ++ 9 ∷ [])) × (¬ IsViable (encode_utf8_all ys ++ 10 ∷ []))
bad_escape ys m d ok h e f = (
  λ v. cant_follow ys 9 (m, d) ok refl h e (subst (λ l. IsViable (encode_utf8_all ys ++ l)) (sym (encode_ascii 9 (omega arith))) v),
  λ v. cant_follow ys 10 (m, d) ok refl h f (subst (λ l. IsViable (encode_utf8_all ys ++ l)) (sym (encode_ascii 10 (omega arith))) v),
)

-- after what splits
closing : (ys r : List ℕ) (c d : ℕ) → scalars ys ≡ true → walk Outside 0 ys ≡ Some (Outside, d) → step Outside d c ≡ None → View c → IsWrong (encode_utf8_all ys) (encode_utf8 c ++ r) Late
closing ys r _ zero ok h f v_close =
    let k = walk_completes ys [] Outside 0 (Outside, 0) h (λ t. (with_open t ([] ∷ []), refl)) [] in
    (r, k.0, ap (λ l. l ++ r) (encode_ascii 41 (omega arith)), read_splits ys k.0 ok (ap (read Outside 0 []) (sym (append-nil ys)) ∙ k.1))
closing ys r _ (suc d) ok h f v_close = cc
closing ys r c d ok h f (v_plain p) = let e : outside_step d Plain ≡ None = ap (outside_step d) (sym p.kind_is) ∙ f in cc
closing ys r _ d ok h f v_space = cc
closing ys r _ d ok h f v_tab = cc
closing ys r _ d ok h f v_lf = cc
closing ys r _ d ok h f v_cr = cc
closing ys r _ d ok h f v_open = cc
closing ys r _ d ok h f v_note = cc
closing ys r _ d ok h f v_quote = cc
closing ys r _ d ok h f v_escape = cc

comment_goes : (k : Kind) (d : ℕ) → comment_step d k ≡ None → ⊥
comment_goes White d h = cc
comment_goes LineFeed d h = cc
comment_goes CarriageReturn d h = cc
comment_goes Opening d h = cc
comment_goes Closing d h = cc
comment_goes Semicolon d h = cc
comment_goes DoubleQuote d h = cc
comment_goes Backslash d h = cc
comment_goes Plain d h = cc

-- a character that the machine accepts extends a viable text
pub next_viable : (ys : List ℕ) (c : ℕ) (m : Mode) (d : ℕ) (v : Move) → scalars ys ≡ true → scalar c ≡ true → walk Outside 0 ys ≡ Some (m, d) → step m d c ≡ Some v
    → IsViable (encode_utf8_all ys ++ encode_utf8 c)
next_viable ys c m d v ok fine h e =
    let there : walk Outside 0 (ys ++ c ∷ []) ≡ Some (v.mode, v.depth) = walk_append ys (c ∷ []) Outside 0 ∙ ap (option_and_then (λ (p : Mode × ℕ). walk p.0 p.1 (c ∷ []))) h
    ∙ ap (option_and_then (λ (w : Move). walk w.mode w.depth [])) e in
    subst IsViable (encodes-append ys (c ∷ []) ∙ ap (λ l. encode_utf8_all ys ++ l) (append-nil (encode_utf8 c)))
    (walked_viable (ys ++ c ∷ []) (v.mode, v.depth) (scalars_both ys (c ∷ []) ok (and_from _ _ fine refl)) there)

pub tab_viable : (ys : List ℕ) (m : Mode) (d : ℕ) (v : Move) → scalars ys ≡ true → walk Outside 0 ys ≡ Some (m, d) → step m d 9 ≡ Some v → IsViable (encode_utf8_all ys ++ 9 ∷ [])
tab_viable ys m d v ok h e = subst (λ l. IsViable (encode_utf8_all ys ++ l)) (encode_ascii 9 (omega arith)) (next_viable ys 9 m d v ok refl h e)

-- inside parentheses
pub parenthesis : (ys : List ℕ) (m : Mode) (d : ℕ) → scalars ys ≡ true → walk Outside 0 ys ≡ Some (m, suc d) → Completes m (suc d) (10 ∷ replicate (suc d) 41) → LacksClosing (encode_utf8_all ys)
parenthesis ys m d ok h k =
    let tail : List ℕ = 10 ∷ replicate (suc d) 41 in
    let r = walk_completes ys tail Outside 0 (m, suc d) h k [] in
    let is : encode_utf8_all (ys ++ tail) ≡ encode_utf8_all ys ++ tail = encodes-append ys tail ∙ ap (λ l. encode_utf8_all ys ++ l) (low_encodes tail (low_close d)) in
    (d, r.0, subst (λ l. Splits l r.0) is (read_splits (ys ++ tail) r.0 (scalars_both ys tail ok (low_scalars tail (low_close d))) r.1))

-- in a quoted string, after CR or in an escape
abbrev is_inside : Mode → Bool
is_inside Outside = false
is_inside Comment = false
is_inside _ = true

inside_wrong : (ys r rest : List ℕ) (m : Mode) (d : ℕ) → (g : Gives Outside 0 0 0 (first_blank (encode_utf8_all ys ++ r)) ys (m, d)) → scalars ys ≡ true → walk Outside 0 ys ≡ Some (m, d)
    → is_inside m ≡ true → IsWrong (encode_utf8_all ys) rest (wrong_at m g.start)
inside_wrong [] r rest m d g ok h i = let e : Outside ≡ m = ap (λ (q : Mode × ℕ). q.0) (Some_same h) in let k : is_inside Outside ≡ true = subst (λ n. is_inside n ≡ true) (sym e) i in cc
inside_wrong (c ∷ ys) r rest Quoted d g ok h i = (quote_viable (c ∷ ys) d ok h, quoted_piece c ys r d g)
inside_wrong (c ∷ ys) r rest Return d g ok h i = only_feed (c ∷ ys) rest d ok h
inside_wrong (c ∷ ys) r rest (Escape q) d g ok h i = bad_escape (c ∷ ys) (Escape q) d ok h refl refl
inside_wrong (c ∷ ys) r rest (OneDigit q n) d g ok h i = bad_escape (c ∷ ys) (OneDigit q n) d ok h refl refl
inside_wrong (c ∷ ys) r rest (TwoDigits q n) d g ok h i = bad_escape (c ∷ ys) (TwoDigits q n) d ok h refl refl
inside_wrong (c ∷ ys) r rest Outside d g ok h i = cc
inside_wrong (c ∷ ys) r rest Comment d g ok h i = cc

-- before a character that is rejected
step_wrong : (ys r : List ℕ) (c : ℕ) (m : Mode) (d : ℕ) → (g : Gives Outside 0 0 0 (first_blank (encode_utf8_all ys ++ (encode_utf8 c ++ r))) ys (m, d)) → scalars ys ≡ true
    → walk Outside 0 ys ≡ Some (m, d) → step m d c ≡ None
    → IsWrong (encode_utf8_all ys) (encode_utf8 c ++ r) (wrong_at m g.start)
step_wrong ys r c Outside d g ok h f = closing ys r c d ok h f (view c)
step_wrong ys r c Comment d g ok h f = elim (comment_goes (kind c) d f) [ ]
step_wrong ys r c Quoted d g ok h f = inside_wrong ys (encode_utf8 c ++ r) (encode_utf8 c ++ r) Quoted d g ok h refl
step_wrong ys r c Return d g ok h f = inside_wrong ys (encode_utf8 c ++ r) (encode_utf8 c ++ r) Return d g ok h refl
step_wrong ys r c (Escape q) d g ok h f = inside_wrong ys (encode_utf8 c ++ r) (encode_utf8 c ++ r) (Escape q) d g ok h refl
step_wrong ys r c (OneDigit q n) d g ok h f = inside_wrong ys (encode_utf8 c ++ r) (encode_utf8 c ++ r) (OneDigit q n) d g ok h refl
step_wrong ys r c (TwoDigits q n) d g ok h f = inside_wrong ys (encode_utf8 c ++ r) (encode_utf8 c ++ r) (TwoDigits q n) d g ok h refl

-- where the text may not end
end_wrong : (ys : List ℕ) (m : Mode) (d : ℕ) → (g : Gives Outside 0 0 0 (first_blank (encode_utf8_all ys ++ [])) ys (m, d)) → scalars ys ≡ true → walk Outside 0 ys ≡ Some (m, d)
    → may_end m d ≡ false → IsWrong (encode_utf8_all ys) [] (wrong_at_end m g.start)
end_wrong ys Outside zero g ok h f = cc
end_wrong ys Outside (suc d) g ok h f = (refl, parenthesis ys Outside d ok h (line_completes Outside (suc d) EndToken refl), tab_viable ys Outside (suc d) _ ok h refl)
end_wrong ys Comment zero g ok h f = cc
end_wrong ys Comment (suc d) g ok h f = (refl, parenthesis ys Comment d ok h (line_completes Comment (suc d) EndToken refl), tab_viable ys Comment (suc d) _ ok h refl)
end_wrong ys Quoted d g ok h f = inside_wrong ys [] [] Quoted d g ok h refl
end_wrong ys Return d g ok h f = inside_wrong ys [] [] Return d g ok h refl
end_wrong ys (Escape q) d g ok h f = inside_wrong ys [] [] (Escape q) d g ok h refl
end_wrong ys (OneDigit q n) d g ok h f = inside_wrong ys [] [] (OneDigit q n) d g ok h refl
end_wrong ys (TwoDigits q n) d g ok h f = inside_wrong ys [] [] (TwoDigits q n) d g ok h refl

-- what was walked settles its pieces and no more
all_settled : (ys r : List ℕ) (p : Mode × ℕ) → (g : Gives Outside 0 0 0 (first_blank (encode_utf8_all ys ++ r)) ys p) → walk Outside 0 ys ≡ Some p → (g.found ≡ []) ⊎ (0 < length ys)
    → scalars ys ≡ true → (w : Wrong)
    → (p.0 ≡ Return → w ≡ LoneReturn) → Settles (encode_utf8_all ys) w g.found
all_settled ys r p g h e ok w lone =
    let gives = gives_all ys r p g h e in
    record {
      first = settled ys r p g h e;
      ended = ended ys p.0 p.1 g.start g.found gives;
      longest = λ other begins. go other (longest ys p.0 p.1 g.start g.found other gives ok h (g.stands (omega arith, λ k. refl)) (walk_fine ys Outside 0 p tt h) begins);
    }
  where
    go : (other : List Piece) → Begins other g.found ⊎ ((p.0 ≡ Return) × Ended other g.found (length (encode_utf8_all ys)))
        → Begins other g.found ⊎ ((w ≡ LoneReturn) × (b : Bool) × (other ≡ g.found ++ end_at (length (encode_utf8_all ys) + 1) b ∷ []))
    go other (inl b) = inl b
    go other (inr b) = inr (lone b.0, b.1.0, b.1.1)

-- the pieces that were settled, and the error
faulty : (text ys r : List ℕ) (p : Mode × ℕ) → IsUtf8 text → encode_utf8_all ys ++ r ≡ text → walk Outside 0 ys ≡ Some p → (w : ℕ → Wrong)
    → ((t n : ℕ) (x : Bool) → run p.0 p.1 t n x r ≡ fault n (w t)) → IsBad text (length (encode_utf8_all ys))
    → ((g : Gives Outside 0 0 0 (first_blank (encode_utf8_all ys ++ r)) ys p) → scalars ys ≡ true → IsWrong (encode_utf8_all ys) r (w g.start)) → ((i : ℕ) → p.0 ≡ Return → w i ≡ LoneReturn)
    → Faulty text (run Outside 0 0 0 (first_blank text) text)
faulty text ys r p u is h w stops bad wrong lone =
    let front : List ℕ = encode_utf8_all ys in
    let s = some_walked ys (first_blank (front ++ r)) p h in
    let g = s.0 in
    let k = g.gives r in
    let q = begin_same ys u.0 r (u.1.1 ∙ sym is) in
    let ok : scalars ys ≡ true = scalars_left ys q.0 (ap scalars (sym q.1) ∙ u.1.0) in
    let behind : take (length front) text ≡ front = ap (take (length front)) (sym is) ∙ take-append_seam front r in
    let left : drop (length front) text ≡ r = ap (drop (length front)) (sym is) ∙ drop_at front r (length front) refl in
    record {
      found = g.found;
      fault = record { at = length front; wrong = w g.start };
      is = ap (λ l. run Outside 0 0 0 (first_blank l) l) (sym is) ∙ k.1 ∙ ap (λ l. map Ok g.found ++ l) (stops g.start (0 + length front) k.0)
          ∙ ap (λ n. map Ok g.found ++ fault n (w g.start)) (zero-add (length front));
      is_fault = record {
        bad = bad;
        wrong = subst (λ l. IsWrong l (drop (length front) text) (w g.start)) (sym behind) (subst (λ l. IsWrong front l (w g.start)) (sym left) (wrong g ok));
        boundary = boundary text ys r (length front) u is refl;
      };
      settled = subst (λ l. Settles l (w g.start) g.found) (sym behind) (all_settled ys r p g h s.1 ok (w g.start) (lone g.start));
    }

good : (text : List ℕ) (e : Entries) → Splits text e → Whole text (run Outside 0 0 0 (first_blank text) text)
good text e s =
    let is : IsPieces text (pieces 0 0 (begins_blank s.lexemes) s.lexemes) = record { lexemes = s.lexemes; spelled = s.spelled; valid = s.valid; nested = s.nested; placed = refl } in
    record { found = pieces 0 0 (begins_blank s.lexemes) s.lexemes; is = pieces_run text _ is; placed = is }

-- the reader of pieces is right of every text
pub reads : (text : List ℕ) → IsUtf8 text → Reads text (run Outside 0 0 0 (first_blank text) text)
reads text u = go q.end
  where
    q : Stop Outside 0 u.0
    q = stop u.0 Outside 0

    is : encode_utf8_all q.ys ++ encode_utf8_all q.zs ≡ text
    is = sym (encodes-append q.ys q.zs) ∙ ap encode_utf8_all (sym q.is) ∙ u.1.1

    at_end : encode_utf8_all q.ys ≡ text → (b : Bool) → may_end q.place.0 q.place.1 ≡ b → Reads text (run Outside 0 0 0 (first_blank text) text)
    at_end e true h =
        let k = walk_completes q.ys [] Outside 0 q.place q.walked (λ t. (with_open t ([] ∷ []), cond-true _ _ _ h)) [] in
        inl (good text k.0 (whole text q.ys k.0 u e (ap (read Outside 0 []) (sym (append-nil q.ys)) ∙ k.1)))
    at_end e false h = inr (faulty text q.ys [] q.place u (append-nil _ ∙ e) q.walked (wrong_at_end q.place.0) (λ t n x. cond-false _ _ _ h) (early text q.ys q.place.0 q.place.1 u e q.walked h)
        (λ g ok. end_wrong q.ys q.place.0 q.place.1 g ok q.walked h) (λ i k. ap (λ m. wrong_at_end m i) k))

    go : (q.zs ≡ []) ⊎ ((c : ℕ) × (ws : List ℕ) × (q.zs ≡ c ∷ ws) × (step q.place.0 q.place.1 c ≡ None)) → Reads text (run Outside 0 0 0 (first_blank text) text)
    go (inl e) = at_end (sym (append-nil _) ∙ ap (λ l. encode_utf8_all q.ys ++ encode_utf8_all l) (sym e) ∙ is) (may_end q.place.0 q.place.1) refl
    go (inr k) =
        let rest : List ℕ = encode_utf8_all k.1 in
        let all : encode_utf8_all q.ys ++ (encode_utf8 k.0 ++ rest) ≡ text = ap (λ l. encode_utf8_all q.ys ++ encode_utf8_all l) (sym k.2) ∙ is in
        inr (faulty text q.ys (encode_utf8 k.0 ++ rest) q.place u all q.walked (wrong_at q.place.0) (λ t n x. run_none q.place.0 q.place.1 t n x k.0 rest k.3)
        (bad_step text q.ys rest k.0 q.place.0 q.place.1 u all q.walked k.3)
        (λ g ok. step_wrong q.ys rest k.0 q.place.0 q.place.1 g ok q.walked k.3) (λ i e. ap (λ m. wrong_at m i) e))
