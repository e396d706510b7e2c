-- An error has one cause, which the state determines.
use Rattle.std.proofs.Common.{◌≡◌, ℕ, zero, suc, ◌+◌, ◌<◌, ◌≤◌, Bool, true, false, cond, ◌==◌, if◌then◌else◌, nat_lt, List, [], ◌∷◌, ◌++◌, length, take, drop, replicate, refl, sym, ap, ◌∙◌}
use Rattle.std.proofs.Common.{subst, arith, append_assoc, IsUtf8, inl, inr}
use Rattle.std.specs.Prelude.{⊤, Option, Some, None, map, Result, Ok, Err, encode_utf8, encode_utf8_all}
use Rattle.std.specs.List.{flat_map}
use Rattle.std.proofs.Math.Nat.{zero-add}
use Rattle.std.proofs.Math.Seq.{take-append_seam}
use Rattle.std.proofs.lemmas.Bool.{and_parts, and_from, cases_Bool}
use Rattle.std.proofs.lemmas.List.{map-append}
use Rattle.std.proofs.lemmas.Str.{encode_ascii, IsUtf8-take, IsCharBoundary-at_seam}
use lib.Utf8.{scalar, scalars}
use Rattle.dns_lexer.specs.declared.reader.Mode.{Mode}
use Rattle.dns_lexer.specs.declared.reader.Mode.TheVariants.{Outside, Quoted, Comment, Return, Escape, OneDigit, TwoDigits}
use Rattle.dns_lexer.specs.declared.reader.Act.{Act}
use Rattle.dns_lexer.specs.declared.reader.Act.TheVariants.{Add, BeginToken, EndToken, EndEntry, FinishToken}
use Rattle.dns_lexer.specs.declared.reader.Move.{Move}
use Rattle.dns_lexer.specs.declared.pieces.Piece.{Piece}
use Rattle.dns_lexer.specs.declared.pieces.Piece.TheVariants.{Word as WordAt, Quote as QuoteAt, Comment as CommentAt, End as EndAt}
use Rattle.dns_lexer.specs.declared.pieces.Fault.{Fault}
use Rattle.dns_lexer.specs.declared.pieces.Wrong.{Wrong}
use Rattle.dns_lexer.specs.declared.pieces.Wrong.TheVariants.{Closing as Late, OpenParenthesis, OpenQuote, LoneReturn, BadEscape}
use Rattle.dns_lexer.specs.Lexeme.{characters}
use Rattle.dns_lexer.specs.Splitting.{Splits, Entries}
use Rattle.dns_lexer.specs.Viable.{IsTail, IsViable}
use Rattle.dns_lexer.specs.Unclosed.{LacksClosing}
use Rattle.dns_lexer.specs.Reader.{home, step, read, may_end}
use Rattle.dns_lexer.specs.Pieces.{word_at, quote_at, end_at, EachWithin, EndsQuote, IsWrong, IsFault}
use Rattle.dns_lexer.specs.Run.{open_piece, continues_piece, before, finished, start_after, first_blank, blank_after, fault, wrong_at_end, run}
use Rattle.dns_lexer.proofs.Complete.{splits_read, bytes_all, second_step, third_step}
use Rattle.dns_lexer.proofs.Viable.{walk, walked, walk_fine, low, low_encodes, low_scalars, low_close, begin_same, cant_follow, not_ended}
use Rattle.dns_lexer.proofs.PieceSteps.{run_step, run_stop}
use Rattle.dns_lexer.proofs.PieceSplit.{split_pieces}
use Rattle.dns_lexer.proofs.PieceWhole.{pieces_run}
use Rattle.dns_lexer.proofs.PieceGiven.{some_walked, tail_of, first_of}
use Rattle.dns_lexer.proofs.PieceSettled.{GivesAll, gives_all, ended}
use Rattle.dns_lexer.proofs.PieceFaults.{next_viable, tab_viable}
use Rattle.dns_lexer.proofs.Openers.{not_open}
use Rattle.dns_lexer.proofs.FaultJoins.{lexemes_scalars}
use Rattle.dns_lexer.proofs.Agree.{bad_once}

-- what completes a beginning is ASCII
low_both : (xs ys : List ℕ) → low xs ≡ true → low ys ≡ true → low (xs ++ ys) ≡ true
low_both [] ys h k = k
low_both (x ∷ xs) ys h k = let p = and_parts (nat_lt x 128) (low xs) h in and_from _ _ p.0 (low_both xs ys p.1 k)

low_zeros : (n : ℕ) → low (replicate n 48) ≡ true
low_zeros zero = refl
low_zeros (suc n) = low_zeros n

low_if : (b : Bool) (c : ℕ) → nat_lt c 128 ≡ true → low (if b then c ∷ [] else []) ≡ true
low_if true c h = and_from _ _ h refl
low_if false c h = refl

low_tail : (tail : List ℕ) → IsTail tail → low tail ≡ true
low_tail tail t =
    let quote : List ℕ = if t.quoted then 34 ∷ [] else [] in
    let line : List ℕ = if t.lined then 10 ∷ [] else [] in
    let close : List ℕ = replicate t.open_blocks 41 in
    subst (λ l. low l ≡ true) (sym t.is)
    (low_both (replicate t.zeros 48) (quote ++ (line ++ close)) (low_zeros t.zeros) (low_both quote (line ++ close) (low_if t.quoted 34 refl)
    (low_both line close (low_if t.lined 10 refl) (low_close t.open_blocks))))

viable_utf8 : (front : List ℕ) → IsViable front → IsUtf8 front
viable_utf8 front v =
    let ls = v.splits.lexemes in
    let all : IsUtf8 (front ++ v.tail) = (flat_map characters ls, (lexemes_scalars ls v.splits.valid, sym (bytes_all ls) ∙ v.splits.spelled)) in
    let small : low v.tail ≡ true = low_tail v.tail v.is_tail in
    let rest : IsUtf8 v.tail = (v.tail, (low_scalars v.tail small, low_encodes v.tail small)) in
    subst IsUtf8 (take-append_seam front v.tail) (IsUtf8-take (front ++ v.tail) (length front) all (IsCharBoundary-at_seam (front ++ v.tail) front v.tail refl rest))

-- what is viable is walked
pub record Reached (front : List ℕ) : Type 0 where
  pub ys : List ℕ
  pub is : encode_utf8_all ys ≡ front
  pub fine : scalars ys ≡ true
  pub place : Mode × ℕ
  pub walked : walk Outside 0 ys ≡ Some place

pub reached : (front : List ℕ) → IsViable front → Reached front
reached front v =
    let u = viable_utf8 front v in
    let cs : List ℕ = flat_map characters v.splits.lexemes in
    let is : encode_utf8_all cs ≡ front ++ v.tail = sym (bytes_all v.splits.lexemes) ∙ v.splits.spelled in
    let q = begin_same u.0 cs v.tail (is ∙ ap (λ l. l ++ v.tail) (sym u.1.1)) in
    let w = walked u.0 q.0 Outside 0 [] v.found (ap (read Outside 0 []) (sym q.1) ∙ splits_read cs (front ++ v.tail) v.found is v.splits) in
    record { ys = u.0; is = u.1.1; fine = u.1.0; place = w.0; walked = w.1 }

-- each quoted string ends beyond
abbrev Past : ℕ → List (Result Piece Fault) → Type 0
Past n [] = ⊤
Past n (Ok (WordAt p) ∷ k) = Past n k
Past n (Ok (QuoteAt p) ∷ k) = (n < p.end) × Past n k
Past n (Ok (CommentAt p) ∷ k) = Past n k
Past n (Ok (EndAt p) ∷ k) = Past n k
Past n (Err f ∷ k) = Past n k

word_past : (t : Bool) (s at n : ℕ) (k : List (Result Piece Fault)) → Past n k → Past n (before (cond t None (Some (word_at s at))) k)
word_past true s at n k h = h
word_past false s at n k h = h

open_past : (m : Mode) (s at n : ℕ) (k : List (Result Piece Fault)) → Past n k → Past n (before (open_piece m s at) k)
open_past Comment s at n k h = h
open_past Outside s at n k h = word_past (s == at) s at n k h
open_past Quoted s at n k h = word_past (s == at) s at n k h
open_past Return s at n k h = word_past (s == at) s at n k h
open_past (Escape q) s at n k h = word_past (s == at) s at n k h
open_past (OneDigit q v) s at n k h = word_past (s == at) s at n k h
open_past (TwoDigits q v) s at n k h = word_past (s == at) s at n k h

closed_past : (t : Bool) (m : Mode) (s at n : ℕ) (k : List (Result Piece Fault)) → Past n k → Past n (before (cond t None (open_piece m s at)) k)
closed_past true m s at n k h = h
closed_past false m s at n k h = open_past m s at n k h

finished_past : (a : Act) (s e n : ℕ) (b : Bool) (k : List (Result Piece Fault)) → n < e → Past n k → Past n (before (finished a s e b) k)
finished_past FinishToken s e n b k l h = (l, h)
finished_past EndEntry s e n b k l h = h
finished_past EndToken s e n b k l h = h
finished_past BeginToken s e n b k l h = h
finished_past Add s e n b k l h = h

run_past : (bs : List ℕ) (m : Mode) (d s at : ℕ) (b : Bool) (n : ℕ) → n ≤ at → Past n (run m d s at b bs)
run_past [] m d s at b n h = go (may_end m d)
  where
    go : (t : Bool) → Past n (cond t (before (open_piece m s at) (Ok (end_at at b) ∷ [])) (fault at (wrong_at_end m s)))
    go true = open_past m s at n (Ok (end_at at b) ∷ []) tt
    go false = tt
run_past (c ∷ bs) m d s at b n h = go (step m d c) refl (λ (v : Move). run_past bs v.mode v.depth (start_after m v.mode v.act s at) (at + 1) (blank_after v.act b bs) n (omega arith))
  where
    go : (o : Option Move) → step m d c ≡ o → ((v : Move) → Past n (run v.mode v.depth (start_after m v.mode v.act s at) (at + 1) (blank_after v.act b bs) bs)) → Past n (run m d s at b (c ∷ bs))
    go None e ih = subst (Past n) (sym (run_stop m d s at b c bs e)) tt
    go (Some v) e ih =
        let left : List (Result Piece Fault) = run v.mode v.depth (start_after m v.mode v.act s at) (at + 1) (blank_after v.act b bs) bs in
        subst (Past n) (sym (run_step m d s at b c bs v e))
        (closed_past (continues_piece m v.mode v.act) m s at n (before (finished v.act s (at + 1) b) left) (finished_past v.act s (at + 1) n b left (omega arith) (ih v)))

one_past : (p : Piece) (n : ℕ) (k : List (Result Piece Fault)) → Past n (Ok p ∷ k) → Past n k
one_past (WordAt p) n k h = h
one_past (QuoteAt p) n k h = h.1
one_past (CommentAt p) n k h = h
one_past (EndAt p) n k h = h

-- so none of them ends here
none_here : (n i : ℕ) (first : List Piece) (k l : List (Result Piece Fault)) → Past n k → k ≡ map Ok first ++ Ok (quote_at i n) ∷ l → ⊥
none_here n i first k l h e = go first (subst (Past n) e h)
  where
    go : (first : List Piece) → Past n (map Ok first ++ Ok (quote_at i n) ∷ l) → ⊥
    go [] h = absurd (omega (arith, h.0))
    go (p ∷ first) h = go first (one_past p n (map Ok first ++ Ok (quote_at i n) ∷ l) h)

-- pieces that have ended don't hold one that ends later
skipped : (n i : ℕ) (found first : List Piece) (k l : List (Result Piece Fault)) → EachWithin n (map Ok found) → map Ok found ++ k ≡ map Ok first ++ Ok (quote_at i (n + 1)) ∷ l
    → (more : List Piece) × (k ≡ map Ok more ++ Ok (quote_at i (n + 1)) ∷ l)
skipped n i [] first k l w e = (first, e)
skipped n i (p ∷ found) [] k l w e = absurd (beyond p (ap (first_of p) e) (w.0, tt))
  where
    beyond : (p : Piece) → p ≡ quote_at i (n + 1) → EachWithin n (Ok p ∷ []) → ⊥
    beyond p is h = let far = subst (λ q. EachWithin n (Ok q ∷ [])) is h in absurd (omega (arith, far.0))
skipped n i (p ∷ found) (q ∷ first) k l w e = skipped n i found first k l w.1 (ap tail_of e)

abbrev start_of : ℕ → Piece → ℕ
start_of n (QuoteAt p) = p.start
start_of n _ = n

-- the state, and the cause of an error there
abbrev sort : Mode → ℕ
sort Outside = 0
sort Comment = 0
sort Quoted = 1
sort Return = 2
sort (Escape q) = 3
sort (OneDigit q n) = 3
sort (TwoDigits q n) = 3

abbrev sort_of : Wrong → ℕ
sort_of Late = 0
sort_of OpenParenthesis = 0
sort_of (OpenQuote i) = 1
sort_of LoneReturn = 2
sort_of BadEscape = 3

-- in a quoted string alone a double quote ends one, and that is the one that is open
abbrev Ends : Mode → ℕ → ℕ → Type 0
Ends m s i = (sort m ≡ 1) × (i ≡ s)

no_start : (s at n i : ℕ) (w : Wrong) (first : List Piece) (l : List (Result Piece Fault)) → fault at w ≡ map Ok first ++ Ok (quote_at i n) ∷ l → ⊥
no_start s at n i w [] l e = cc
no_start s at n i w (p ∷ first) l e = cc

ends_open : (m : Mode) (d s n i : ℕ) (x : Bool) (w : List ℕ) (first : List Piece) (l : List (Result Piece Fault)) → run m d s n x (34 ∷ w) ≡ map Ok first ++ Ok (quote_at i (n + 1)) ∷ l → Ends m s i
ends_open Outside d s n i x w first l e =
    elim (none_here (n + 1) i first _ l
    (subst (Past (n + 1)) (sym (run_step Outside d s n x 34 w _ refl)) (open_past Outside s n (n + 1) _ (run_past w Quoted d n (n + 1) x (n + 1) (omega arith)))) e) [ ]
ends_open Comment d s n i x w first l e =
    elim (none_here (n + 1) i first _ l (subst (Past (n + 1)) (sym (run_step Comment d s n x 34 w _ refl)) (run_past w Comment d s (n + 1) x (n + 1) (omega arith))) e) [ ]
ends_open Return d s n i x w first l e = elim (no_start s n (n + 1) i LoneReturn first l e) [ ]
ends_open (Escape q) d s n i x w first l e =
    elim (none_here (n + 1) i first _ l (subst (Past (n + 1)) (sym (run_step (Escape q) d s n x 34 w _ refl)) (run_past w (home q) d s (n + 1) x (n + 1) (omega arith))) e) [ ]
ends_open (OneDigit q v) d s n i x w first l e = elim (no_start s n (n + 1) i BadEscape first l e) [ ]
ends_open (TwoDigits q v) d s n i x w first l e = elim (no_start s n (n + 1) i BadEscape first l e) [ ]
ends_open Quoted d s n i x w [] l e = (refl, ap (start_of i) (ap (first_of (quote_at i (n + 1))) (sym e)))
ends_open Quoted d s n i x w (p ∷ first) l e = elim (none_here (n + 1) i first _ l (run_past w Outside d (n + 1) (n + 1) x (n + 1) (omega arith)) (ap tail_of e)) [ ]

-- the quoted string that a double quote would end
pub quote_open : (ys : List ℕ) (m : Mode) (d s i : ℕ) (found : List Piece) → GivesAll ys m d found s → IsViable (encode_utf8_all ys ++ 34 ∷ []) → EndsQuote (encode_utf8_all ys) i → Ends m s i
quote_open ys m d s i found gives v q =
    let front : List ℕ = encode_utf8_all ys in
    let n : ℕ = length front in
    let text : List ℕ = front ++ (34 ∷ v.tail) in
    let all = split_pieces text v.found (subst (λ l. Splits l v.found) (append_assoc front (34 ∷ []) v.tail) v.splits) in
    let e = q v.tail all.0 all.1 in
    let g = gives (34 ∷ v.tail) in
    let there : map Ok found ++ run m d s (0 + n) g.0 (34 ∷ v.tail) ≡ map Ok e.0 ++ Ok (quote_at i (n + 1)) ∷ map Ok e.1 =
    sym g.1 ∙ pieces_run text all.0 all.1 ∙ ap (map Ok) e.2 ∙ map-append Ok e.0 (quote_at i (n + 1) ∷ e.1) in
    let k = skipped n i found e.0 _ (map Ok e.1) (ended ys m d s found gives) there in
    ends_open m d s n i g.0 v.tail k.0 (map Ok e.1) (ap (λ j. run m d s j g.0 (34 ∷ v.tail)) (sym (zero-add n)) ∙ k.1)

-- a state in which a text may end
end_sort : (m : Mode) (d : ℕ) → may_end m d ≡ true → sort m ≡ 0
end_sort Outside d h = refl
end_sort Comment d h = refl
end_sort Quoted d h = cc
end_sort Return d h = cc
end_sort (Escape q) d h = cc
end_sort (OneDigit q n) d h = cc
end_sort (TwoDigits q n) d h = cc

late_sort : (ys : List ℕ) (m : Mode) (d : ℕ) (e : Entries) → walk Outside 0 ys ≡ Some (m, d) → Splits (encode_utf8_all ys) e → sort m ≡ 0
late_sort ys m d e h s = elim (cases_Bool (may_end m d)) [
  | inl k ↦ end_sort m d k
  | inr k ↦ absurd (not_ended ys Outside 0 (m, d) h k [] e (splits_read ys (encode_utf8_all ys) e refl s))
]

-- a state in which a tab can't follow
no_tab : (ys : List ℕ) (m : Mode) (d : ℕ) → scalars ys ≡ true → walk Outside 0 ys ≡ Some (m, d) → step m d 9 ≡ None → ¬ IsViable (encode_utf8_all ys ++ 9 ∷ [])
no_tab ys m d ok h e v = cant_follow ys 9 (m, d) ok refl h e (subst (λ l. IsViable (encode_utf8_all ys ++ l)) (sym (encode_ascii 9 (omega arith))) v)

open_sort : (ys : List ℕ) (m : Mode) (d : ℕ) → scalars ys ≡ true → walk Outside 0 ys ≡ Some (m, d) → LacksClosing (encode_utf8_all ys) → IsViable (encode_utf8_all ys ++ 9 ∷ []) → sort m ≡ 0
open_sort ys Outside d ok h o v = refl
open_sort ys Comment d ok h o v = refl
open_sort ys Quoted d ok h o v = elim (not_open ys Quoted d h (λ p f. cc) o) [ ]
open_sort ys Return d ok h o v = elim (no_tab ys Return d ok h refl v) [ ]
open_sort ys (Escape q) d ok h o v = elim (not_open ys (Escape q) d h (λ p f. cc) o) [ ]
open_sort ys (OneDigit q n) d ok h o v = elim (not_open ys (OneDigit q n) d h (λ p f. cc) o) [ ]
open_sort ys (TwoDigits q n) d ok h o v = elim (not_open ys (TwoDigits q n) d h (λ p f. cc) o) [ ]

-- after a CR alone nothing but LF follows
abbrev Feeds : List ℕ → Type 0
Feeds front = (c : ℕ) → scalar c ≡ true → IsViable (front ++ encode_utf8 c) → c ≡ 10

other : (ys : List ℕ) (c : ℕ) (m : Mode) (d : ℕ) (v : Move) → scalars ys ≡ true → scalar c ≡ true → walk Outside 0 ys ≡ Some (m, d) → step m d c ≡ Some v → Feeds (encode_utf8_all ys)
    → (c ≡ 10 → ⊥) → sort m ≡ 2
other ys c m d v ok fine h e w differs = absurd (differs (w c fine (next_viable ys c m d v ok fine h e)))

lone_sort : (ys : List ℕ) (m : Mode) (d : ℕ) → scalars ys ≡ true → walk Outside 0 ys ≡ Some (m, d) → Feeds (encode_utf8_all ys) → sort m ≡ 2
lone_sort ys Return d ok h w = refl
lone_sort ys Outside d ok h w = other ys 9 Outside d _ ok refl h refl w (λ e. omega (arith, e))
lone_sort ys Comment d ok h w = other ys 9 Comment d _ ok refl h refl w (λ e. omega (arith, e))
lone_sort ys Quoted d ok h w = other ys 9 Quoted d _ ok refl h refl w (λ e. omega (arith, e))
lone_sort ys (Escape q) d ok h w = other ys 97 (Escape q) d _ ok refl h refl w (λ e. omega (arith, e))
lone_sort ys (OneDigit q n) d ok h w =
    let few : n ≤ 2 = walk_fine ys Outside 0 (OneDigit q n, d) tt h in
    other ys 48 (OneDigit q n) d _ ok refl h (second_step q d n 0 (omega arith) (omega arith)) w (λ e. omega (arith, e))
lone_sort ys (TwoDigits q n) d ok h w =
    let few : n ≤ 25 = walk_fine ys Outside 0 (TwoDigits q n, d) tt h in
    other ys 48 (TwoDigits q n) d _ ok refl h (third_step q d n 0 (omega arith) (omega arith)) w (λ e. omega (arith, e))

-- in an escape alone neither a tab nor LF follows
feed_viable : (ys : List ℕ) (m : Mode) (d : ℕ) (v : Move) → scalars ys ≡ true → walk Outside 0 ys ≡ Some (m, d) → step m d 10 ≡ Some v → IsViable (encode_utf8_all ys ++ 10 ∷ [])
feed_viable ys m d v ok h e = subst (λ l. IsViable (encode_utf8_all ys ++ l)) (encode_ascii 10 (omega arith)) (next_viable ys 10 m d v ok refl h e)

escape_sort : (ys : List ℕ) (m : Mode) (d : ℕ) → scalars ys ≡ true → walk Outside 0 ys ≡ Some (m, d) → ¬ IsViable (encode_utf8_all ys ++ 9 ∷ []) → ¬ IsViable (encode_utf8_all ys ++ 10 ∷ [])
    → sort m ≡ 3
escape_sort ys Outside d ok h t f = absurd (t (tab_viable ys Outside d _ ok h refl))
escape_sort ys Comment d ok h t f = absurd (t (tab_viable ys Comment d _ ok h refl))
escape_sort ys Quoted d ok h t f = absurd (t (tab_viable ys Quoted d _ ok h refl))
escape_sort ys Return d ok h t f = absurd (f (feed_viable ys Return d _ ok h refl))
escape_sort ys (Escape q) d ok h t f = refl
escape_sort ys (OneDigit q n) d ok h t f = refl
escape_sort ys (TwoDigits q n) d ok h t f = refl

-- the cause determines the state, and the opening double quote of a quoted string
abbrev Tells : Mode → ℕ → Wrong → Type 0
Tells m s (OpenQuote i) = Ends m s i
Tells m s w = sort m ≡ sort_of w

tells : (ys rest : List ℕ) (m : Mode) (d s : ℕ) (found : List Piece) (w : Wrong) → scalars ys ≡ true → walk Outside 0 ys ≡ Some (m, d) → GivesAll ys m d found s
    → IsWrong (encode_utf8_all ys) rest w → Tells m s w
tells ys rest m d s found Late ok h g w = late_sort ys m d w.1 h w.3
tells ys rest m d s found OpenParenthesis ok h g w = open_sort ys m d ok h w.1 w.2
tells ys rest m d s found (OpenQuote i) ok h g w = quote_open ys m d s i found g w.0 w.1
tells ys rest m d s found LoneReturn ok h g w = lone_sort ys m d ok h w
tells ys rest m d s found BadEscape ok h g w = escape_sort ys m d ok h w.0 w.1

told : (front rest : List ℕ) (m : Mode) (s : ℕ) (v w : Wrong) → IsWrong front rest v → IsWrong front rest w → Tells m s v → Tells m s w → v ≡ w
told front rest m s Late Late a b e f = refl
told front rest m s Late OpenParenthesis a b e f = let no : 41 ∷ a.0 ≡ [] = sym a.2 ∙ b.0 in cc
told front rest m s Late (OpenQuote j) a b e f = absurd (omega (arith, e, f.0))
told front rest m s Late LoneReturn a b e f = absurd (omega (arith, e, f))
told front rest m s Late BadEscape a b e f = absurd (omega (arith, e, f))
told front rest m s OpenParenthesis Late a b e f = let no : 41 ∷ b.0 ≡ [] = sym b.2 ∙ a.0 in cc
told front rest m s OpenParenthesis OpenParenthesis a b e f = refl
told front rest m s OpenParenthesis (OpenQuote j) a b e f = absurd (omega (arith, e, f.0))
told front rest m s OpenParenthesis LoneReturn a b e f = absurd (omega (arith, e, f))
told front rest m s OpenParenthesis BadEscape a b e f = absurd (omega (arith, e, f))
told front rest m s (OpenQuote i) Late a b e f = absurd (omega (arith, e.0, f))
told front rest m s (OpenQuote i) OpenParenthesis a b e f = absurd (omega (arith, e.0, f))
told front rest m s (OpenQuote i) (OpenQuote j) a b e f = ap OpenQuote (e.1 ∙ sym f.1)
told front rest m s (OpenQuote i) LoneReturn a b e f = absurd (omega (arith, e.0, f))
told front rest m s (OpenQuote i) BadEscape a b e f = absurd (omega (arith, e.0, f))
told front rest m s LoneReturn Late a b e f = absurd (omega (arith, e, f))
told front rest m s LoneReturn OpenParenthesis a b e f = absurd (omega (arith, e, f))
told front rest m s LoneReturn (OpenQuote j) a b e f = absurd (omega (arith, e, f.0))
told front rest m s LoneReturn LoneReturn a b e f = refl
told front rest m s LoneReturn BadEscape a b e f = absurd (omega (arith, e, f))
told front rest m s BadEscape Late a b e f = absurd (omega (arith, e, f))
told front rest m s BadEscape OpenParenthesis a b e f = absurd (omega (arith, e, f))
told front rest m s BadEscape (OpenQuote j) a b e f = absurd (omega (arith, e, f.0))
told front rest m s BadEscape LoneReturn a b e f = absurd (omega (arith, e, f))
told front rest m s BadEscape BadEscape a b e f = refl

-- one thing is wrong before the rest
pub one_wrong : (front rest : List ℕ) (v w : Wrong) → IsViable front → IsWrong front rest v → IsWrong front rest w → v ≡ w
one_wrong front rest v w viable a b =
    let r = reached front viable in
    let front_is : front ≡ encode_utf8_all r.ys = sym r.is in
    let g = some_walked r.ys (first_blank (encode_utf8_all r.ys ++ [])) r.place r.walked in
    let gives = gives_all r.ys [] r.place g.0 r.walked g.1 in
    told front rest r.place.0 g.0.start v w a b
    (tells r.ys rest r.place.0 r.place.1 g.0.start g.0.found v r.fine r.walked gives (subst (λ l. IsWrong l rest v) front_is a))
    (tells r.ys rest r.place.0 r.place.1 g.0.start g.0.found w r.fine r.walked gives (subst (λ l. IsWrong l rest w) front_is b))

abbrev fault_at : ℕ → Wrong → Fault
fault_at i w = record { at = i; wrong = w }

-- a text has one error
pub one_fault : (text : List ℕ) (f g : Fault) → IsFault text f → IsFault text g → f ≡ g
one_fault text f g a b =
    let same : f.at ≡ g.at = bad_once text f.at g.at a.bad b.bad in
    let wrong : IsWrong (take g.at text) (drop g.at text) f.wrong = subst (λ i. IsWrong (take i text) (drop i text) f.wrong) same a.wrong in
    ap (λ i. fault_at i f.wrong) same ∙ ap (fault_at g.at) (one_wrong (take g.at text) (drop g.at text) f.wrong g.wrong b.bad.at.viable wrong b.wrong)
