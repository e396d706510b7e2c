-- The items of octets that more octets follow.
use Rattle.std.proofs.Common.{◌≡◌, ℕ, suc, ◌+◌, ◌<◌, Bool, true, false, cond, ◌==◌, nat_lt, List, [], ◌∷◌, ◌++◌, length, take, drop, refl, sym, ap, ◌∙◌, subst, arith, append-nil, append_assoc}
use Rattle.std.proofs.Common.{length-append}
use Rattle.std.specs.Prelude.{⊤, Option, Some, None, map, Result, Ok, Err}
use Rattle.std.proofs.lemmas.Bool.{and_parts, and_from}
use Rattle.std.proofs.lemmas.List.{take-append-drop, map-append}
use Rattle.std.proofs.Math.Nat.{zero-add}
use Rattle.std.proofs.Math.Seq.{take-append_seam}
use Rattle.dns_lexer.specs.declared.reader.Mode.{Mode}
use Rattle.dns_lexer.specs.declared.reader.Mode.TheVariants.{Outside, Quoted, Comment, Return, Escape, OneDigit, TwoDigits}
use Rattle.dns_lexer.specs.declared.reader.Act.{Act}
use Rattle.dns_lexer.specs.declared.reader.Act.TheVariants.{Add, BeginToken, EndToken, EndEntry, FinishToken}
use Rattle.dns_lexer.specs.declared.reader.Move.{Move}
use Rattle.dns_lexer.specs.declared.pieces.Piece.{Piece}
use Rattle.dns_lexer.specs.declared.pieces.Piece.TheVariants.{Word as WordAt, Quote as QuoteAt, Comment as CommentAt, End as EndAt}
use Rattle.dns_lexer.specs.declared.pieces.Fault.{Fault}
use Rattle.dns_lexer.specs.declared.pieces.Wrong.{Wrong}
use Rattle.dns_lexer.specs.declared.pieces.Wrong.TheVariants.{Closing as Late, OpenParenthesis, OpenQuote, LoneReturn, BadEscape}
use Rattle.dns_lexer.specs.Reader.{step, may_end}
use Rattle.dns_lexer.specs.Pieces.{word_at, quote_at, comment_at, end_at, moved_piece, moved_wrong, moved_fault, moved, later, AreItemsOf, AreOctets}
use Rattle.dns_lexer.specs.Run.{open_piece, continues_piece, before, closed_piece, finished, start_after, first_blank, blank_after, fault, wrong_at, wrong_at_end, run}
use Rattle.dns_lexer.proofs.Complete.{Some_same}
use Rattle.dns_lexer.proofs.PieceSteps.{run_step, run_stop, entry_home}
use Rattle.dns_lexer.proofs.PieceGiven.{tail_of, first_of}
use Rattle.dns_lexer.proofs.PieceMoved.{from_place}
use Rattle.dns_lexer.proofs.OctetsOnce.{run_given, given_run}

-- the blank flag is known if an octet follows
blank_front : (a : Act) (b : Bool) (front y z : List ℕ) → 0 < length front → blank_after a b (front ++ y) ≡ blank_after a b (front ++ z)
blank_front a b [] y z h = absurd (omega arith)
blank_front EndEntry b (c ∷ front) y z h = refl
blank_front Add b (c ∷ front) y z h = refl
blank_front BeginToken b (c ∷ front) y z h = refl
blank_front EndToken b (c ∷ front) y z h = refl
blank_front FinishToken b (c ∷ front) y z h = refl

-- an error before the end
abbrev pub first_fault : List (Result Piece Fault) → Option Fault
first_fault [] = None
first_fault (Ok p ∷ given) = first_fault given
first_fault (Err f ∷ given) = Some f

fault_before : (o : Option Piece) (given : List (Result Piece Fault)) → first_fault (before o given) ≡ first_fault given
fault_before None given = refl
fault_before (Some p) given = refl

at_end : (m : Mode) (d s at : ℕ) (b : Bool) (f : Fault) → first_fault (run m d s at b []) ≡ Some f → f.at ≡ at
at_end m d s at b f h = go (may_end m d) h
  where
    go : (t : Bool) → first_fault (cond t (before (open_piece m s at) (Ok (end_at at b) ∷ [])) (fault at (wrong_at_end m s))) ≡ Some f → f.at ≡ at
    go true k = let none : None ≡ Some f = sym (fault_before (open_piece m s at) (Ok (end_at at b) ∷ [])) ∙ k in cc
    go false k = ap (λ (x : Fault). x.at) (sym (Some_same k))

abbrev Stays : List ℕ → List ℕ → Type 0
Stays bs y = (m : Mode) (d s at : ℕ) (b : Bool) (f : Fault) → first_fault (run m d s at b bs) ≡ Some f → f.at < at + length bs → run m d s at b (bs ++ y) ≡ run m d s at b bs

stays_on : (bs y : List ℕ) (m : Mode) (d s at : ℕ) (b : Bool) (c : ℕ) (f : Fault) (v : Move) → step m d c ≡ Some v → Stays bs y → first_fault (run m d s at b (c ∷ bs)) ≡ Some f
    → f.at < at + suc (length bs) → (w : List ℕ) → w ≡ bs → run m d s at b (c ∷ (bs ++ y)) ≡ run m d s at b (c ∷ bs)
stays_on bs y m d s at b c f v e ih h l w k =
    let o : Option Piece = closed_piece m v.mode v.act s at in
    let q : Option Piece = finished v.act s (at + 1) b in
    let t : ℕ = start_after m v.mode v.act s at in
    let left : List (Result Piece Fault) = run v.mode v.depth t (at + 1) (blank_after v.act b bs) bs in
    let here : first_fault left ≡ Some f = sym (fault_before q left) ∙ sym (fault_before o (before q left)) ∙ ap first_fault (sym (run_step m d s at b c bs v e)) ∙ h in
    on w k here
  where
    on : (w : List ℕ) → w ≡ bs → first_fault (run v.mode v.depth (start_after m v.mode v.act s at) (at + 1) (blank_after v.act b bs) bs) ≡ Some f
        → run m d s at b (c ∷ (bs ++ y)) ≡ run m d s at b (c ∷ bs)
    on [] k here =
        let t : ℕ = start_after m v.mode v.act s at in
        absurd (omega (arith, l, ap length k, at_end v.mode v.depth t (at + 1) (blank_after v.act b []) f (ap (λ w. first_fault (run v.mode v.depth t (at + 1) (blank_after v.act b w) w)) k ∙ here)))
    on (x ∷ w) k here =
        let o : Option Piece = closed_piece m v.mode v.act s at in
        let q : Option Piece = finished v.act s (at + 1) b in
        let t : ℕ = start_after m v.mode v.act s at in
        let some : 0 < length bs = omega (arith, ap length k) in
        let same : blank_after v.act b (bs ++ y) ≡ blank_after v.act b bs = blank_front v.act b bs y [] some ∙ ap (blank_after v.act b) (append-nil bs) in
        run_step m d s at b c (bs ++ y) v e
        ∙ ap (λ z. before o (before q (run v.mode v.depth t (at + 1) z (bs ++ y)))) same
        ∙ ap (λ g. before o (before q g)) (ih v.mode v.depth t (at + 1) (blank_after v.act b bs) f here (omega (arith, l)))
        ∙ sym (run_step m d s at b c bs v e)

stays : (bs y : List ℕ) → Stays bs y
stays [] y m d s at b f h l = absurd (omega (arith, at_end m d s at b f h, l))
stays (c ∷ bs) y m d s at b f h l = go (step m d c) refl (stays bs y)
  where
    go : (o : Option Move) → step m d c ≡ o → Stays bs y → run m d s at b (c ∷ (bs ++ y)) ≡ run m d s at b (c ∷ bs)
    go None e ih = run_stop m d s at b c (bs ++ y) e ∙ sym (run_stop m d s at b c bs e)
    go (Some v) e ih = stays_on bs y m d s at b c f v e ih h l bs refl

-- a piece other than the end of an entry
abbrev NoEnd : Option Piece → Type 0
NoEnd None = ⊤
NoEnd (Some (EndAt p)) = ⊥
NoEnd (Some _) = ⊤

word_no_end : (t : Bool) (s at : ℕ) → NoEnd (cond t None (Some (word_at s at)))
word_no_end true s at = tt
word_no_end false s at = tt

open_no_end : (m : Mode) (s at : ℕ) → NoEnd (open_piece m s at)
open_no_end Comment s at = tt
open_no_end Outside s at = word_no_end (s == at) s at
open_no_end Quoted s at = word_no_end (s == at) s at
open_no_end Return s at = word_no_end (s == at) s at
open_no_end (Escape q) s at = word_no_end (s == at) s at
open_no_end (OneDigit q n) s at = word_no_end (s == at) s at
open_no_end (TwoDigits q n) s at = word_no_end (s == at) s at

closed_no_end : (t : Bool) (m : Mode) (s at : ℕ) → NoEnd (cond t None (open_piece m s at))
closed_no_end true m s at = tt
closed_no_end false m s at = open_no_end m s at

-- the end comes after such a piece
record Skipped (o : Option Piece) (given : List (Result Piece Fault)) (found : List Piece) (i : ℕ) (x : Bool) (left : List (Result Piece Fault)) : Type 0 where
  pub more : List Piece
  pub is : given ≡ map Ok more ++ Ok (end_at i x) ∷ left
  pub back : (k : List (Result Piece Fault)) → before o (map Ok more ++ k) ≡ map Ok found ++ k

skip : (o : Option Piece) (given : List (Result Piece Fault)) (found : List Piece) (i : ℕ) (x : Bool) (left : List (Result Piece Fault)) → NoEnd o
    → before o given ≡ map Ok found ++ Ok (end_at i x) ∷ left → Skipped o given found i x left
skip None given found i x left n e = record { more = found; is = e; back = λ k. refl }
skip (Some p) given [] i x left n e = elim (subst (λ q. NoEnd (Some q)) (ap (first_of p) e) n) [ ]
skip (Some p) given (q ∷ found) i x left n e = record { more = found; is = ap tail_of e; back = λ k. ap (λ z. Ok z ∷ (map Ok found ++ k)) (ap (first_of p) e) }

-- octets up to the end of an entry, after which the state is that of the beginning
record Passed (m : Mode) (d s at : ℕ) (b : Bool) (bs : List ℕ) (found : List Piece) (i : ℕ) (x : Bool) : Type 0 where
  pub front : List ℕ
  pub rest : List ℕ
  pub is : bs ≡ front ++ rest
  pub some : 0 < length front
  pub place : i ≡ at + length front
  pub goes : (y : List ℕ) → run m d s at b (front ++ y) ≡ map Ok found ++ Ok (end_at i x) ∷ run Outside 0 i i (first_blank y) y

abbrev Passes : List ℕ → Type 0
Passes bs = (m : Mode) (d s at : ℕ) (b : Bool) (found : List Piece) (i : ℕ) (x : Bool) (left : List (Result Piece Fault))
    → run m d s at b bs ≡ map Ok found ++ Ok (end_at i x) ∷ left → 0 < length left → Passed m d s at b bs found i x

-- one item is yielded, or two
one_given : (g : Result Piece Fault) (found : List Piece) (p : Piece) (left : List (Result Piece Fault)) → g ∷ [] ≡ map Ok found ++ Ok p ∷ left → 0 < length left → ⊥
one_given g found p left e h = absurd (omega (arith, ap length e, length-append (map Ok found) (Ok p ∷ left), h))

last_given : (o : Option Piece) (g : Result Piece Fault) (found : List Piece) (i : ℕ) (x : Bool) (left : List (Result Piece Fault)) → NoEnd o
    → before o (g ∷ []) ≡ map Ok found ++ Ok (end_at i x) ∷ left → 0 < length left → ⊥
last_given o g found i x left n e h = let k = skip o (g ∷ []) found i x left n e in one_given g k.more (end_at i x) left k.is h

none_passed : Passes []
none_passed m d s at b found i x left e h = elim (go (may_end m d) e) [ ]
  where
    go : (t : Bool) → cond t (before (open_piece m s at) (Ok (end_at at b) ∷ [])) (fault at (wrong_at_end m s)) ≡ map Ok found ++ Ok (end_at i x) ∷ left → ⊥
    go true k = last_given (open_piece m s at) (Ok (end_at at b)) found i x left (open_no_end m s at) k h
    go false k = one_given (Err (record { at = at; wrong = wrong_at_end m s })) found (end_at i x) left k h

abbrev blank_of : Bool → Piece → Bool
blank_of b (EndAt p) = p.begins_blank
blank_of b _ = b

abbrev place_in : ℕ → Piece → ℕ
place_in n (EndAt p) = p.at
place_in n _ = n

module _ (m : Mode) (d s at : ℕ) (b : Bool) (c : ℕ) (bs : List ℕ) (v : Move) (e : step m d c ≡ Some v) where
  -- the octet ends the entry
  ends_here : (found : List Piece) (i : ℕ) (x : Bool) → v.act ≡ EndEntry → i ≡ at + 1 → x ≡ b
      → ((k : List (Result Piece Fault)) → before (closed_piece m v.mode v.act s at) (map Ok [] ++ k) ≡ map Ok found ++ k) → Passed m d s at b (c ∷ bs) found i x
  ends_here found i x a i_is x_is back = record {
    front = c ∷ [];
    rest = bs;
    is = refl;
    some = omega arith;
    place = i_is;
    goes = λ y.
        let home = entry_home m d c v e a in
        run_step m d s at b c y v e ∙ ap
        (λ w. before (closed_piece m v.mode v.act s at) (before (finished w s (at + 1) b) (run v.mode v.depth (start_after m v.mode w s at) (at + 1) (blank_after w b y) y))) a
        ∙ back (Ok (end_at (at + 1) b) ∷ run v.mode v.depth (at + 1) (at + 1) (first_blank y) y)
        ∙ ap (λ z. map Ok found ++ Ok (end_at (at + 1) b) ∷ run z v.depth (at + 1) (at + 1) (first_blank y) y) home.0
        ∙ ap (λ z. map Ok found ++ Ok (end_at (at + 1) b) ∷ run Outside z (at + 1) (at + 1) (first_blank y) y) home.1
        ∙ ap (λ z. map Ok found ++ Ok (end_at (at + 1) z) ∷ run Outside 0 (at + 1) (at + 1) (first_blank y) y) (sym x_is)
        ∙ ap (λ z. map Ok found ++ Ok (end_at z x) ∷ run Outside 0 z z (first_blank y) y) (sym i_is);
  }

  -- the entry ends later
  ends_later : (found more : List Piece) (i : ℕ) (x : Bool) → Passed v.mode v.depth (start_after m v.mode v.act s at) (at + 1) (blank_after v.act b bs) bs more i x
      → ((k : List (Result Piece Fault)) → before (closed_piece m v.mode v.act s at) (before (finished v.act s (at + 1) b) (map Ok more ++ k)) ≡ map Ok found ++ k) → Passed m d s at b (c ∷ bs) found i x
  ends_later found more i x p back = record {
    front = c ∷ p.front;
    rest = p.rest;
    is = ap (λ l. c ∷ l) p.is;
    some = omega arith;
    place = omega (arith, p.place);
    goes = λ y.
        let same : blank_after v.act b (p.front ++ y) ≡ blank_after v.act b bs = blank_front v.act b p.front y p.rest p.some ∙ ap (blank_after v.act b) (sym p.is) in
        run_step m d s at b c (p.front ++ y) v e
        ∙ ap (λ z. before (closed_piece m v.mode v.act s at) (before (finished v.act s (at + 1) b) (run v.mode v.depth (start_after m v.mode v.act s at) (at + 1) z (p.front ++ y)))) same
        ∙ ap (λ l. before (closed_piece m v.mode v.act s at) (before (finished v.act s (at + 1) b) l)) (p.goes y)
        ∙ back (Ok (end_at i x) ∷ run Outside 0 i i (first_blank y) y);
  }

  abbrev Back : List Piece → List Piece → Type 0
  Back more found = (k : List (Result Piece Fault)) → before (closed_piece m v.mode v.act s at) (map Ok more ++ k) ≡ map Ok found ++ k

  abbrev tail : List (Result Piece Fault)
  tail = run v.mode v.depth (start_after m v.mode v.act s at) (at + 1) (blank_after v.act b bs) bs

  no_end : (found more : List Piece) (i : ℕ) (x : Bool) (left : List (Result Piece Fault)) → Passes bs → 0 < length left → NoEnd (finished v.act s (at + 1) b)
      → before (finished v.act s (at + 1) b) tail ≡ map Ok more ++ Ok (end_at i x) ∷ left → Back more found → Passed m d s at b (c ∷ bs) found i x
  no_end found more i x left ih h n e back =
      let k = skip (finished v.act s (at + 1) b) tail more i x left n e in
      ends_later found k.more i x (ih v.mode v.depth _ (at + 1) _ k.more i x left k.is h) (λ l. ap (before (closed_piece m v.mode v.act s at)) (k.back l) ∙ back l)

  an_end : (found more : List Piece) (i : ℕ) (x : Bool) (left : List (Result Piece Fault)) → Passes bs → 0 < length left → v.act ≡ EndEntry
      → Ok (end_at (at + 1) b) ∷ tail ≡ map Ok more ++ Ok (end_at i x) ∷ left → Back more found → Passed m d s at b (c ∷ bs) found i x
  an_end found [] i x left ih h a e back =
      let same : end_at i x ≡ end_at (at + 1) b = ap (first_of (end_at i x)) (sym e) in
      ends_here found i x a (ap (place_in 0) same) (ap (blank_of b) same) back
  an_end found (q ∷ more) i x left ih h a e back =
      let same : end_at (at + 1) b ≡ q = ap (first_of q) e in
      let o : Option Piece = closed_piece m v.mode v.act s at in
      ends_later found more i x (ih v.mode v.depth _ (at + 1) _ more i x left (ap tail_of e) h)
      (λ k. ap (λ w. before o (before (finished w s (at + 1) b) (map Ok more ++ k))) a ∙ ap (λ z. before o (Ok z ∷ (map Ok more ++ k))) same ∙ back k)

  by_act : (a : Act) → v.act ≡ a → (found more : List Piece) (i : ℕ) (x : Bool) (left : List (Result Piece Fault)) → Passes bs → 0 < length left
      → before (finished v.act s (at + 1) b) tail ≡ map Ok more ++ Ok (end_at i x) ∷ left → Back more found → Passed m d s at b (c ∷ bs) found i x
  by_act EndEntry a found more i x left ih h e back = an_end found more i x left ih h a (ap (λ w. before (finished w s (at + 1) b) tail) (sym a) ∙ e) back
  by_act FinishToken a found more i x left ih h e back = no_end found more i x left ih h (subst (λ w. NoEnd (finished w s (at + 1) b)) (sym a) tt) e back
  by_act EndToken a found more i x left ih h e back = no_end found more i x left ih h (subst (λ w. NoEnd (finished w s (at + 1) b)) (sym a) tt) e back
  by_act BeginToken a found more i x left ih h e back = no_end found more i x left ih h (subst (λ w. NoEnd (finished w s (at + 1) b)) (sym a) tt) e back
  by_act Add a found more i x left ih h e back = no_end found more i x left ih h (subst (λ w. NoEnd (finished w s (at + 1) b)) (sym a) tt) e back

passed : (bs : List ℕ) → Passes bs
passed [] m d s at b found i x left e h = none_passed m d s at b found i x left e h
passed (c ∷ bs) m d s at b found i x left e h = go (step m d c) refl (passed bs)
  where
    go : (o : Option Move) → step m d c ≡ o → Passes bs → Passed m d s at b (c ∷ bs) found i x
    go None g ih = elim (one_given (Err (record { at = at; wrong = wrong_at m s })) found (end_at i x) left (sym (run_stop m d s at b c bs g) ∙ e) h) [ ]
    go (Some v) g ih =
        let k = skip (closed_piece m v.mode v.act s at) _ found i x left (closed_no_end (continues_piece m v.mode v.act) m s at) (sym (run_step m d s at b c bs v g) ∙ e) in
        by_act m d s at b c bs v g v.act refl found k.more i x left ih h k.is k.back

abbrev Read : List ℕ → List (Result Piece Fault)
Read octets = run Outside 0 0 0 (first_blank octets) octets

first_front : (front y z : List ℕ) → 0 < length front → first_blank (front ++ y) ≡ first_blank (front ++ z)
first_front front y z h = blank_front EndEntry false front y z h

-- what precedes the end of an entry is read alike, whatever follows
front_read : (octets y : List ℕ) (found : List Piece) (i : ℕ) (x : Bool) (left : List (Result Piece Fault)) → Read octets ≡ map Ok found ++ Ok (end_at i x) ∷ left → 0 < length left
    → Read (take i octets ++ y) ≡ map Ok found ++ Ok (end_at i x) ∷ later i (Read y)
front_read octets y found i x left e h =
    let p = passed octets Outside 0 0 0 (first_blank octets) found i x left e h in
    let place : i ≡ length p.front = p.place ∙ zero-add (length p.front) in
    let front : take i octets ≡ p.front = ap (take i) p.is ∙ ap (λ n. take n (p.front ++ p.rest)) place ∙ take-append_seam p.front p.rest in
    let blank : first_blank (p.front ++ y) ≡ first_blank octets = first_front p.front y p.rest p.some ∙ ap first_blank (sym p.is) in
    ap (λ l. Read (l ++ y)) front ∙ ap (λ t. run Outside 0 0 0 t (p.front ++ y)) blank ∙ p.goes y
    ∙ ap (λ l. map Ok found ++ Ok (end_at i x) ∷ l) (from_place y i)

pub both_octets : (xs ys : List ℕ) → AreOctets xs → AreOctets ys → AreOctets (xs ++ ys)
both_octets [] ys h k = k
both_octets (x ∷ xs) ys h k = let p = and_parts (nat_lt x 256) _ h in and_from _ _ p.0 (both_octets xs ys p.1 k)

front_octets : (xs ys : List ℕ) → AreOctets (xs ++ ys) → AreOctets xs
front_octets [] ys h = refl
front_octets (x ∷ xs) ys h = let p = and_parts (nat_lt x 256) _ h in and_from _ _ p.0 (front_octets xs ys p.1)

pub back_octets : (xs ys : List ℕ) → AreOctets (xs ++ ys) → AreOctets ys
back_octets [] ys h = h
back_octets (x ∷ xs) ys h = back_octets xs ys (and_parts (nat_lt x 256) _ h).1

pub entries_stay : (octets rest : List ℕ) (found : List Piece) (at : ℕ) (blank : Bool) (left alone : List (Result Piece Fault)) → AreOctets octets → AreOctets rest
    → AreItemsOf octets (map Ok found ++ Ok (end_at at blank) ∷ left) → 0 < length left → AreItemsOf rest alone
    → AreItemsOf (take at octets ++ rest) (map Ok found ++ Ok (end_at at blank) ∷ later at alone)
entries_stay octets rest found at blank left alone o r given some then =
    let is = given_run octets (map Ok found ++ Ok (end_at at blank) ∷ left) o given in
    let all : AreOctets (take at octets ++ rest) = both_octets (take at octets) rest (front_octets (take at octets) (drop at octets) (subst AreOctets (sym (take-append-drop at octets)) o)) r in
    subst (AreItemsOf (take at octets ++ rest)) (front_read octets rest found at blank left (sym is) some
    ∙ ap (λ l. map Ok found ++ Ok (end_at at blank) ∷ later at l) (sym (given_run rest alone r then)))
    (run_given (take at octets ++ rest) all)

-- and so is an error before the end
last_fault : (found : List Piece) (f : Fault) → first_fault (map Ok found ++ Err f ∷ []) ≡ Some f
last_fault [] f = refl
last_fault (p ∷ found) f = last_fault found f

pub faults_stay : (octets more : List ℕ) (found : List Piece) (f : Fault) → AreOctets octets → AreOctets more → AreItemsOf octets (map Ok found ++ Err f ∷ []) → f.at < length octets
    → AreItemsOf (octets ++ more) (map Ok found ++ Err f ∷ [])
faults_stay octets more found f o r given before =
    let is = given_run octets (map Ok found ++ Err f ∷ []) o given in
    let here : first_fault (Read octets) ≡ Some f = ap first_fault (sym is) ∙ last_fault found f in
    let same : first_blank (octets ++ more) ≡ first_blank octets = first_front octets more [] (omega (arith, before)) ∙ ap first_blank (append-nil octets) in
    subst (AreItemsOf (octets ++ more))
    (ap (λ t. run Outside 0 0 0 t (octets ++ more)) same ∙ stays octets more Outside 0 0 0 (first_blank octets) f here (omega (arith, before)) ∙ sym is)
    (run_given (octets ++ more) (both_octets octets more o r))

-- an offset increased, twice
twice : (a b i : ℕ) → a + (b + i) ≡ a + b + i
twice a b i = omega arith

piece_later : (a b : ℕ) (p : Piece) → moved_piece (λ i. a + i) (moved_piece (λ i. b + i) p) ≡ moved_piece (λ i. a + b + i) p
piece_later a b (WordAt p) = ap (λ s. word_at s (a + (b + p.end))) (twice a b p.start) ∙ ap (word_at (a + b + p.start)) (twice a b p.end)
piece_later a b (QuoteAt p) = ap (λ s. quote_at s (a + (b + p.end))) (twice a b p.start) ∙ ap (quote_at (a + b + p.start)) (twice a b p.end)
piece_later a b (CommentAt p) = ap (λ s. comment_at s (a + (b + p.end))) (twice a b p.start) ∙ ap (comment_at (a + b + p.start)) (twice a b p.end)
piece_later a b (EndAt p) = ap (λ s. end_at s p.begins_blank) (twice a b p.at)

wrong_later : (a b : ℕ) (w : Wrong) → moved_wrong (λ i. a + i) (moved_wrong (λ i. b + i) w) ≡ moved_wrong (λ i. a + b + i) w
wrong_later a b (OpenQuote i) = ap OpenQuote (twice a b i)
wrong_later a b Late = refl
wrong_later a b OpenParenthesis = refl
wrong_later a b LoneReturn = refl
wrong_later a b BadEscape = refl

abbrev fault_at : ℕ → Wrong → Fault
fault_at i w = record { at = i; wrong = w }

pub later_later : (a b : ℕ) (given : List (Result Piece Fault)) → later a (later b given) ≡ later (a + b) given
later_later a b [] = refl
later_later a b (Ok p ∷ given) = ap (λ q. Ok q ∷ later a (later b given)) (piece_later a b p) ∙ ap (λ g. Ok (moved_piece (λ i. a + b + i) p) ∷ g) (later_later a b given)
later_later a b (Err f ∷ given) =
    ap (λ i. Err (fault_at i (moved_wrong (λ i. a + i) (moved_wrong (λ i. b + i) f.wrong))) ∷ later a (later b given)) (twice a b f.at)
    ∙ ap (λ w. Err (fault_at (a + b + f.at) w) ∷ later a (later b given)) (wrong_later a b f.wrong)
    ∙ ap (λ g. Err (moved_fault (λ i. a + b + i) f) ∷ g) (later_later a b given)

-- what was yielded of all octets, if these remain, whatever follows them
abbrev pub GivenSoFar : List ℕ → List ℕ → List (Result Piece Fault) → ℕ → Type 0
GivenSoFar all left front base = (y : List ℕ) (alone : List (Result Piece Fault)) → AreOctets y → AreItemsOf (left ++ y) alone → AreItemsOf (all ++ y) (front ++ later base alone)

-- another block remains
pub block_read : (all left block : List ℕ) (front : List (Result Piece Fault)) (base : ℕ) → AreOctets block → GivenSoFar all left front base → GivenSoFar (all ++ block) (left ++ block) front base
block_read all left block front base o g y alone r given =
    subst (λ l. AreItemsOf l (front ++ later base alone)) (sym (append_assoc all block y))
    (g (block ++ y) alone (both_octets block y o r) (subst (λ l. AreItemsOf l alone) (append_assoc left block y) given))

-- entries that have ended are yielded
pub entries_given : (all left : List ℕ) (front : List (Result Piece Fault)) (base : ℕ) (found : List Piece) (at : ℕ) (blank : Bool) (more : List (Result Piece Fault)) → AreOctets left
    → GivenSoFar all left front base → AreItemsOf left (map Ok found ++ Ok (end_at at blank) ∷ more) → 0 < length more
    → GivenSoFar all (drop at left) (front ++ later base (map Ok found ++ Ok (end_at at blank) ∷ [])) (base + at)
entries_given all left front base found at blank more o g given some y alone r then =
    let rest : List ℕ = drop at left ++ y in
    let both : AreOctets rest = both_octets (drop at left) y (back_octets (take at left) (drop at left) (subst AreOctets (sym (take-append-drop at left)) o)) r in
    let stay = entries_stay left rest found at blank more alone o both given some then in
    let shape : take at left ++ rest ≡ left ++ y = sym (append_assoc (take at left) (drop at left) y) ∙ ap (λ l. l ++ y) (take-append-drop at left) in
    let ends : List (Result Piece Fault) = map Ok found ++ Ok (end_at at blank) ∷ [] in
    let list : map Ok found ++ Ok (end_at at blank) ∷ later at alone ≡ ends ++ later at alone = sym (append_assoc (map Ok found) (Ok (end_at at blank) ∷ []) (later at alone)) in
    subst (AreItemsOf (all ++ y))
    (ap (λ l. front ++ later base l) list ∙ ap (λ l. front ++ l) (map-append (moved (λ i. base + i)) ends (later at alone) ∙ ap (λ l. later base ends ++ l) (later_later base at alone))
    ∙ sym (append_assoc front (later base ends) (later (base + at) alone)))
    (g y (map Ok found ++ Ok (end_at at blank) ∷ later at alone) r (subst (λ l. AreItemsOf l (map Ok found ++ Ok (end_at at blank) ∷ later at alone)) shape stay))

piece_still : (p : Piece) → moved_piece (λ i. i) p ≡ p
piece_still (WordAt p) = refl
piece_still (QuoteAt p) = refl
piece_still (CommentAt p) = refl
piece_still (EndAt p) = refl

wrong_still : (w : Wrong) → moved_wrong (λ i. i) w ≡ w
wrong_still (OpenQuote i) = refl
wrong_still Late = refl
wrong_still OpenParenthesis = refl
wrong_still LoneReturn = refl
wrong_still BadEscape = refl

all_still : (given : List (Result Piece Fault)) → map (moved (λ i. i)) given ≡ given
all_still [] = refl
all_still (Ok p ∷ given) = ap (λ q. Ok q ∷ map (moved (λ i. i)) given) (piece_still p) ∙ ap (λ g. Ok p ∷ g) (all_still given)
all_still (Err f ∷ given) = ap (λ w. Err (fault_at f.at w) ∷ map (moved (λ i. i)) given) (wrong_still f.wrong) ∙ ap (λ g. Err f ∷ g) (all_still given)

later_zero : (given : List (Result Piece Fault)) → later 0 given ≡ given
later_zero given =
    let same : (λ (i : ℕ). 0 + i) ≡ (λ (i : ℕ). i) = λ k. λ i. zero-add i k in
    ap (λ (f : ℕ → ℕ). map (moved f) given) same ∙ all_still given

-- before the first block
pub nothing_given : GivenSoFar [] [] [] 0
nothing_given y alone r given = subst (AreItemsOf y) (sym (later_zero alone)) given

-- an error that no more octets resolve
pub fault_given : (all left : List ℕ) (front : List (Result Piece Fault)) (base : ℕ) (found : List Piece) (f : Fault) (y : List ℕ) → AreOctets left → AreOctets y → GivenSoFar all left front base
    → AreItemsOf left (map Ok found ++ Err f ∷ []) → f.at < length left → AreItemsOf (all ++ y) (front ++ later base (map Ok found ++ Err f ∷ []))
fault_given all left front base found f y o r g given before = g y (map Ok found ++ Err f ∷ []) r (faults_stay left y found f o r given before)
