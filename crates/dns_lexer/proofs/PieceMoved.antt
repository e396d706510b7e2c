-- The machine at other offsets of a text, and on octets that are characters.
use Rattle.std.proofs.Common.{◌≡◌, ℕ, zero, suc, ◌+◌, ◌<◌, ◌≤◌, Bool, true, false, cond, ◌==◌, List, [], ◌∷◌, ◌++◌, length, take, drop, refl, sym, ap, ◌∙◌, subst, arith, append_assoc, append-nil}
use Rattle.std.proofs.Common.{length-append, inl, inr, IsUtf8}
use Rattle.std.specs.Prelude.{Option, Some, None, option_map, map, Result, Ok, IfSome, encode_utf8, encode_utf8_all}
use lib.Utf8.{scalars}
use Rattle.std.proofs.lemmas.Bool.{eq-eqb, ne_eqb, eqb-true, cases_Bool, cases_lt}
use Rattle.std.proofs.lemmas.Str.{encodes-append, encode_ascii, length-encode, len_utf8_bounds}
use Rattle.std.proofs.Math.Seq.{take-append_seam}
use Rattle.dns_lexer.specs.declared.reader.Mode.{Mode}
use Rattle.dns_lexer.specs.declared.reader.Mode.TheVariants.{Outside, Quoted, Comment, Return, Escape, OneDigit, TwoDigits}
use Rattle.dns_lexer.specs.declared.reader.Act.{Act}
use Rattle.dns_lexer.specs.declared.reader.Act.TheVariants.{Add, BeginToken, EndToken, EndEntry, FinishToken}
use Rattle.dns_lexer.specs.declared.reader.Move.{Move}
use Rattle.dns_lexer.specs.declared.pieces.Piece.{Piece}
use Rattle.dns_lexer.specs.declared.pieces.Fault.{Fault}
use Rattle.dns_lexer.specs.Reader.{step, may_end}
use Rattle.dns_lexer.specs.Pieces.{word_at, end_at, moved_piece, moved_wrong, moved, later, next_blank, place_of, Reads, ReadsFrom, ReadsOctets, ReadsOctetsFrom}
use Rattle.dns_lexer.specs.Run.{open_piece, continues_piece, before, closed_piece, finished, start_after, opens, in_comment, next_open, first_blank, blank_after, fault, wrong_at, wrong_at_end, run}
use Rattle.dns_lexer.proofs.Complete.{Some_same}
use Rattle.dns_lexer.proofs.Viable.{high_is}
use Rattle.dns_lexer.proofs.PieceSteps.{run_step, run_stop}
use Rattle.dns_lexer.proofs.PieceLexemes.{run_none, first_blank_char, high_bytes, stays, high_run}
use Rattle.dns_lexer.proofs.PieceGiven.{start_within}
use Rattle.dns_lexer.proofs.PieceFaults.{reads}

-- the flag is that of the entry that ends next
word_blank : (t : Bool) (s at : ℕ) (k : List (Result Piece Fault)) → next_blank (before (cond t None (Some (word_at s at))) k) ≡ next_blank k
word_blank true s at k = refl
word_blank false s at k = refl

open_blank : (m : Mode) (s at : ℕ) (k : List (Result Piece Fault)) → next_blank (before (open_piece m s at) k) ≡ next_blank k
open_blank Comment s at k = refl
open_blank Outside s at k = word_blank (s == at) s at k
open_blank Quoted s at k = word_blank (s == at) s at k
open_blank Return s at k = word_blank (s == at) s at k
open_blank (Escape q) s at k = word_blank (s == at) s at k
open_blank (OneDigit q n) s at k = word_blank (s == at) s at k
open_blank (TwoDigits q n) s at k = word_blank (s == at) s at k

closed_blank : (t : Bool) (m : Mode) (s at : ℕ) (k : List (Result Piece Fault)) → next_blank (before (cond t None (open_piece m s at)) k) ≡ next_blank k
closed_blank true m s at k = refl
closed_blank false m s at k = open_blank m s at k

abbrev Blank : List ℕ → Type 0
Blank bs = (m : Mode) (d s at : ℕ) (b x : Bool) → next_blank (run m d s at b bs) ≡ Some x → b ≡ x

act_blank : (bs : List ℕ) → Blank bs → (a : Act) (m : Mode) (d s t at e : ℕ) (b x : Bool) → next_blank (before (finished a s e b) (run m d t at (blank_after a b bs) bs)) ≡ Some x → b ≡ x
act_blank bs ih EndEntry m d s t at e b x h = Some_same h
act_blank bs ih FinishToken m d s t at e b x h = ih m d t at b x h
act_blank bs ih EndToken m d s t at e b x h = ih m d t at b x h
act_blank bs ih BeginToken m d s t at e b x h = ih m d t at b x h
act_blank bs ih Add m d s t at e b x h = ih m d t at b x h

pub blank_run : (bs : List ℕ) → Blank bs
blank_run [] m d s at b x h = go (may_end m d) h
  where
    go : (t : Bool) → next_blank (cond t (before (open_piece m s at) (Ok (end_at at b) ∷ [])) (fault at (wrong_at_end m s))) ≡ Some x → b ≡ x
    go true k = Some_same (sym (open_blank m s at (Ok (end_at at b) ∷ [])) ∙ k)
    go false k = cc
blank_run (c ∷ bs) m d s at b x h = go (step m d c) refl (blank_run bs)
  where
    go : (o : Option Move) → step m d c ≡ o → Blank bs → b ≡ x
    go None e ih = let k : None ≡ Some x = ap next_blank (sym (run_stop m d s at b c bs e)) ∙ h in cc
    go (Some v) e ih = act_blank bs ih v.act v.mode v.depth s (start_after m v.mode v.act s at) (at + 1) (at + 1) b x
        (sym (closed_blank (continues_piece m v.mode v.act) m s at _) ∙ ap next_blank (sym (run_step m d s at b c bs v e)) ∙ h)

-- offsets moved by f, which keeps neighbours if required
before_moved : (f : ℕ → ℕ) (o : Option Piece) (k : List (Result Piece Fault)) → map (moved f) (before o k) ≡ before (option_map (moved_piece f) o) (map (moved f) k)
before_moved f None k = refl
before_moved f (Some p) k = refl

word_moved : (f : ℕ → ℕ) (t : Bool) (s at : ℕ) → option_map (moved_piece f) (cond t None (Some (word_at s at))) ≡ cond t None (Some (word_at (f s) (f at)))
word_moved f true s at = refl
word_moved f false s at = refl

open_moved : (f : ℕ → ℕ) (m : Mode) (s at : ℕ) → (f s == f at) ≡ (s == at) → option_map (moved_piece f) (open_piece m s at) ≡ open_piece m (f s) (f at)
open_moved f Comment s at e = refl
open_moved f Outside s at e = word_moved f (s == at) s at ∙ ap (λ t. cond t None (Some (word_at (f s) (f at)))) (sym e)
open_moved f Quoted s at e = word_moved f (s == at) s at ∙ ap (λ t. cond t None (Some (word_at (f s) (f at)))) (sym e)
open_moved f Return s at e = word_moved f (s == at) s at ∙ ap (λ t. cond t None (Some (word_at (f s) (f at)))) (sym e)
open_moved f (Escape q) s at e = word_moved f (s == at) s at ∙ ap (λ t. cond t None (Some (word_at (f s) (f at)))) (sym e)
open_moved f (OneDigit q n) s at e = word_moved f (s == at) s at ∙ ap (λ t. cond t None (Some (word_at (f s) (f at)))) (sym e)
open_moved f (TwoDigits q n) s at e = word_moved f (s == at) s at ∙ ap (λ t. cond t None (Some (word_at (f s) (f at)))) (sym e)

closed_moved : (f : ℕ → ℕ) (t : Bool) (m : Mode) (s at : ℕ) → (f s == f at) ≡ (s == at) → option_map (moved_piece f) (cond t None (open_piece m s at)) ≡ cond t None (open_piece m (f s) (f at))
closed_moved f true m s at e = refl
closed_moved f false m s at e = open_moved f m s at e

finished_moved : (f : ℕ → ℕ) (a : Act) (s at : ℕ) (b : Bool) → f (at + 1) ≡ f at + 1 → option_map (moved_piece f) (finished a s (at + 1) b) ≡ finished a (f s) (f at + 1) b
finished_moved f FinishToken s at b e = ap (λ n. finished FinishToken (f s) n b) e
finished_moved f EndEntry s at b e = ap (λ n. finished EndEntry (f s) n b) e
finished_moved f EndToken s at b e = refl
finished_moved f BeginToken s at b e = refl
finished_moved f Add s at b e = refl

opens_moved : (f : ℕ → ℕ) (n : Mode) (at : ℕ) → f (at + 1) ≡ f at + 1 → f (opens n at) ≡ opens n (f at)
opens_moved f Comment at e = refl
opens_moved f Outside at e = e
opens_moved f Quoted at e = e
opens_moved f Return at e = e
opens_moved f (Escape q) at e = e
opens_moved f (OneDigit q n) at e = e
opens_moved f (TwoDigits q n) at e = e

in_comment_moved : (f : ℕ → ℕ) (n : Mode) (s at : ℕ) → f (at + 1) ≡ f at + 1 → f (in_comment n s at) ≡ in_comment n (f s) (f at)
in_comment_moved f Comment s at e = refl
in_comment_moved f Outside s at e = e
in_comment_moved f Quoted s at e = e
in_comment_moved f Return s at e = e
in_comment_moved f (Escape q) s at e = e
in_comment_moved f (OneDigit q n) s at e = e
in_comment_moved f (TwoDigits q n) s at e = e

next_moved : (f : ℕ → ℕ) (m n : Mode) (s at : ℕ) → f (at + 1) ≡ f at + 1 → f (next_open m n s at) ≡ next_open m n (f s) (f at)
next_moved f Comment n s at e = in_comment_moved f n s at e
next_moved f Outside n s at e = opens_moved f n at e
next_moved f Quoted n s at e = opens_moved f n at e
next_moved f Return n s at e = opens_moved f n at e
next_moved f (Escape q) n s at e = opens_moved f n at e
next_moved f (OneDigit q k) n s at e = opens_moved f n at e
next_moved f (TwoDigits q k) n s at e = opens_moved f n at e

start_moved : (f : ℕ → ℕ) (m n : Mode) (a : Act) (s at : ℕ) → f (at + 1) ≡ f at + 1 → f (start_after m n a s at) ≡ start_after m n a (f s) (f at)
start_moved f m n Add s at e = refl
start_moved f m n BeginToken s at e = refl
start_moved f m n EndToken s at e = next_moved f m n s at e
start_moved f m n EndEntry s at e = e
start_moved f m n FinishToken s at e = e

wrong_moved : (f : ℕ → ℕ) (m : Mode) (s : ℕ) → moved_wrong f (wrong_at m s) ≡ wrong_at m (f s)
wrong_moved f Outside s = refl
wrong_moved f Comment s = refl
wrong_moved f Quoted s = refl
wrong_moved f Return s = refl
wrong_moved f (Escape q) s = refl
wrong_moved f (OneDigit q n) s = refl
wrong_moved f (TwoDigits q n) s = refl

end_wrong_moved : (f : ℕ → ℕ) (m : Mode) (s : ℕ) → moved_wrong f (wrong_at_end m s) ≡ wrong_at_end m (f s)
end_wrong_moved f Outside s = refl
end_wrong_moved f Comment s = refl
end_wrong_moved f Quoted s = refl
end_wrong_moved f Return s = refl
end_wrong_moved f (Escape q) s = refl
end_wrong_moved f (OneDigit q n) s = refl
end_wrong_moved f (TwoDigits q n) s = refl

-- what remains after one octet, moved
turn_moved : (f : ℕ → ℕ) (m : Mode) (v : Move) (s at : ℕ) (b x : Bool) (bs cs : List ℕ) → f (at + 1) ≡ f at + 1 → (f s == f at) ≡ (s == at) → blank_after v.act b bs ≡ blank_after v.act b cs
    → ((t : ℕ) → t ≤ at + 1 → run v.mode v.depth (f t) (f (at + 1)) (blank_after v.act b bs) cs ≡ map (moved f) (run v.mode v.depth t (at + 1) (blank_after v.act b bs) bs)) → s ≤ at
    → before (closed_piece m v.mode v.act (f s) (f at)) (before (finished v.act (f s) (f at + 1) b) (run v.mode v.depth (start_after m v.mode v.act (f s) (f at)) (f at + 1) (blank_after v.act b cs) cs))
    ≡ map (moved f) (before (closed_piece m v.mode v.act s at) (before (finished v.act s (at + 1) b) (run v.mode v.depth (start_after m v.mode v.act s at) (at + 1) (blank_after v.act b bs) bs)))
turn_moved f m v s at b x bs cs e g k ih w =
    let t : ℕ = start_after m v.mode v.act s at in
    let left : List (Result Piece Fault) = run v.mode v.depth t (at + 1) (blank_after v.act b bs) bs in
    let same : run v.mode v.depth (start_after m v.mode v.act (f s) (f at)) (f at + 1) (blank_after v.act b cs) cs ≡ map (moved f) left =
    ap (λ n. run v.mode v.depth n (f at + 1) (blank_after v.act b cs) cs) (sym (start_moved f m v.mode v.act s at e)) ∙ ap (λ n. run v.mode v.depth (f t) n (blank_after v.act b cs) cs) (sym e)
    ∙ ap (λ y. run v.mode v.depth (f t) (f (at + 1)) y cs) (sym k) ∙ ih t (start_within m v.mode v.act s at w) in
    let o : Option Piece = closed_piece m v.mode v.act s at in
    let q : Option Piece = finished v.act s (at + 1) b in
    ap (λ l. before (closed_piece m v.mode v.act (f s) (f at)) (before (finished v.act (f s) (f at + 1) b) l)) same
    ∙ ap (λ p. before p (before (finished v.act (f s) (f at + 1) b) (map (moved f) left))) (sym (closed_moved f (continues_piece m v.mode v.act) m s at g))
    ∙ ap (λ p. before (option_map (moved_piece f) o) (before p (map (moved f) left))) (sym (finished_moved f v.act s at b e))
    ∙ ap (before (option_map (moved_piece f) o)) (sym (before_moved f q left))
    ∙ sym (before_moved f o (before q left))

end_moved : (f : ℕ → ℕ) (t : Bool) (m : Mode) (s at : ℕ) (b : Bool) → (f s == f at) ≡ (s == at)
    → cond t (before (open_piece m (f s) (f at)) (Ok (end_at (f at) b) ∷ [])) (fault (f at) (wrong_at_end m (f s))) ≡ map (moved f)
    (cond t (before (open_piece m s at) (Ok (end_at at b) ∷ [])) (fault at (wrong_at_end m s)))
end_moved f true m s at b g = ap (λ p. before p (Ok (end_at (f at) b) ∷ [])) (sym (open_moved f m s at g)) ∙ sym (before_moved f (open_piece m s at) (Ok (end_at at b) ∷ []))
end_moved f false m s at b g = ap (fault (f at)) (sym (end_wrong_moved f m s))

fault_moved : (f : ℕ → ℕ) (m : Mode) (s at : ℕ) → fault (f at) (wrong_at m (f s)) ≡ map (moved f) (fault at (wrong_at m s))
fault_moved f m s at = ap (fault (f at)) (sym (wrong_moved f m s))

-- further on
same_later : (n s at : ℕ) → (n + s == n + at) ≡ (s == at)
same_later n s at = elim (cases_Bool (s == at)) [
  | inl e ↦ eq-eqb (n + s) (n + at) (ap (λ i. n + i) (eqb-true s at e)) ∙ sym e
  | inr e ↦ ne_eqb (n + s) (n + at) (λ k. elim (no (eq-eqb s at (omega arith)) e) [ ]) ∙ sym e
]
  where
    no : (s == at) ≡ true → (s == at) ≡ false → ⊥
    no h k = cc

abbrev pub Later : ℕ → List ℕ → Type 0
Later n bs = (m : Mode) (d s at : ℕ) (b : Bool) → s ≤ at → run m d (n + s) (n + at) b bs ≡ later n (run m d s at b bs)

pub later_run : (n : ℕ) (bs : List ℕ) → Later n bs
later_run n [] m d s at b h = end_moved (λ i. n + i) (may_end m d) m s at b (same_later n s at)
later_run n (c ∷ bs) m d s at b h = go (step m d c) refl (later_run n bs)
  where
    go : (o : Option Move) → step m d c ≡ o → Later n bs → run m d (n + s) (n + at) b (c ∷ bs) ≡ later n (run m d s at b (c ∷ bs))
    go None e ih = run_stop m d (n + s) (n + at) b c bs e ∙ fault_moved (λ i. n + i) m s at ∙ ap (later n) (sym (run_stop m d s at b c bs e))
    go (Some v) e ih =
        run_step m d (n + s) (n + at) b c bs v e
        ∙ turn_moved (λ i. n + i) m v s at b b bs bs (omega arith) (same_later n s at) refl (λ t w. ih v.mode v.depth t (at + 1) (blank_after v.act b bs) w) h
        ∙ ap (later n) (sym (run_step m d s at b c bs v e))

-- from an offset on, the same moved
pub from_place : (rest : List ℕ) (at : ℕ) → run Outside 0 at at (first_blank rest) rest ≡ later at (run Outside 0 0 0 (first_blank rest) rest)
from_place rest at = ap (λ n. run Outside 0 n n (first_blank rest) rest) (omega arith) ∙ later_run at rest Outside 0 0 0 (first_blank rest) (omega arith)

-- a text from a boundary on
pub reads_from : (text : List ℕ) (at : ℕ) → IsUtf8 (drop at text) → ReadsFrom text at (run Outside 0 at at (first_blank (drop at text)) (drop at text))
reads_from text at u = (run Outside 0 0 0 (first_blank (drop at text)) (drop at text), reads (drop at text) u, from_place (drop at text) at)

-- the flag of what remains
pub blank_left : (done : Bool) (m : Mode) (d s at : ℕ) (b : Bool) (bs : List ℕ) (given : List (Result Piece Fault)) → cond done [] (run m d s at b bs) ≡ given → IfSome (next_blank given) (λ x. b ≡ x)
blank_left done m d s at b bs given e = go (next_blank given) refl
  where
    find : (t : Bool) (x : Bool) → next_blank (cond t [] (run m d s at b bs)) ≡ Some x → b ≡ x
    find true x h = cc
    find false x h = blank_run bs m d s at b x h

    go : (o : Option Bool) → next_blank given ≡ o → IfSome o (λ x. b ≡ x)
    go None h = tt
    go (Some x) h = find done x (ap next_blank e ∙ h)

-- octets as characters
pub mono : (l : List ℕ) (i j : ℕ) → i < j → j ≤ length l → place_of l i < place_of l j
mono [] i j h k = absurd (omega arith)
mono (x ∷ l) i zero h k = absurd (omega arith)
mono (x ∷ l) zero (suc j) h k = omega (arith, length-append (encode_utf8 x) (encode_utf8_all (take j l)), length-encode x, (len_utf8_bounds x).0)
mono (x ∷ l) (suc i) (suc j) h k = omega (
  arith,
  mono l i j (omega arith) (omega arith),
  length-append (encode_utf8 x) (encode_utf8_all (take j l)),
  length-append (encode_utf8 x)
      (encode_utf8_all (take i l)),
)

same_place : (l : List ℕ) (s at : ℕ) → s ≤ at → at ≤ length l → (place_of l s == place_of l at) ≡ (s == at)
same_place l s at h k = elim (cases_Bool (s == at)) [
  | inl e ↦ eq-eqb (place_of l s) (place_of l at) (ap (place_of l) (eqb-true s at e)) ∙ sym e
  | inr e ↦ ne_eqb (place_of l s) (place_of l at) (λ n. omega (arith, n, mono l s at (other e) k)) ∙ sym e
]
  where
    other : (s == at) ≡ false → s < at
    other e = elim (cases_lt s at) [ inl g ↦ g | inr g ↦ elim (no (eq-eqb s at (omega arith)) e) [ ] ]
      where
        no : (s == at) ≡ true → (s == at) ≡ false → ⊥
        no h k = cc

place_at : (all front rest : List ℕ) (at : ℕ) → front ++ rest ≡ all → at ≡ length front → place_of all at ≡ length (encode_utf8_all front)
place_at all front rest at e k = ap (λ n. length (encode_utf8_all (take n all))) k ∙ ap (λ l. length (encode_utf8_all (take (length front) l))) (sym e)
    ∙ ap (λ l. length (encode_utf8_all l)) (take-append_seam front rest)

-- the offset after one more
place_next : (all front os : List ℕ) (at c : ℕ) → front ++ (c ∷ os) ≡ all → at ≡ length front → place_of all (at + 1) ≡ place_of all at + length (encode_utf8 c)
place_next all front os at c e k =
    place_at all (front ++ c ∷ []) os (at + 1) (append_assoc front (c ∷ []) os ∙ e) (omega (arith, k, length-append front (c ∷ [])))
    ∙ ap length (encodes-append front (c ∷ []) ∙ ap (λ l. encode_utf8_all front ++ l) (append-nil (encode_utf8 c))) ∙ length-append (encode_utf8_all front) (encode_utf8 c)
    ∙ ap (λ n. n + length (encode_utf8 c)) (sym (place_at all front (c ∷ os) at e k))

first_same : (os : List ℕ) → first_blank os ≡ first_blank (encode_utf8_all os)
first_same [] = refl
first_same (c ∷ os) = sym (first_blank_char c (encode_utf8_all os))

blank_same : (a : Act) (b : Bool) (os : List ℕ) → blank_after a b os ≡ blank_after a b (encode_utf8_all os)
blank_same EndEntry b os = first_same os
blank_same EndToken b os = refl
blank_same Add b os = refl
blank_same BeginToken b os = refl
blank_same FinishToken b os = refl

abbrev Octets : List ℕ → ℕ → List ℕ → Type 0
Octets all at os = (m : Mode) (d s : ℕ) (b : Bool) → s ≤ at → run m d (place_of all s) (place_of all at) b (encode_utf8_all os) ≡ map (moved (place_of all)) (run m d s at b os)

low_octet : (all os : List ℕ) (at c : ℕ) → c < 128 → at ≤ length all → place_of all (at + 1) ≡ place_of all at + 1 → Octets all (at + 1) os → Octets all at (c ∷ os)
low_octet all os at c small within e ih m d s b h = go (step m d c) refl
  where
    is : encode_utf8_all (c ∷ os) ≡ c ∷ encode_utf8_all os
    is = ap (λ l. l ++ encode_utf8_all os) (encode_ascii c small)

    go : (o : Option Move) → step m d c ≡ o → run m d (place_of all s) (place_of all at) b (encode_utf8_all (c ∷ os)) ≡ map (moved (place_of all)) (run m d s at b (c ∷ os))
    go None k = ap (run m d (place_of all s) (place_of all at) b) is ∙ run_stop m d (place_of all s) (place_of all at) b c (encode_utf8_all os) k ∙ fault_moved (place_of all) m s at
        ∙ ap (map (moved (place_of all))) (sym (run_stop m d s at b c os k))
    go (Some v) k =
        ap (run m d (place_of all s) (place_of all at) b) is ∙ run_step m d (place_of all s) (place_of all at) b c (encode_utf8_all os) v k
        ∙ turn_moved (place_of all) m v s at b b os (encode_utf8_all os) e (same_place all s at h within) (blank_same v.act b os) (λ t w. ih v.mode v.depth t (blank_after v.act b os) w) h
        ∙ ap (map (moved (place_of all))) (sym (run_step m d s at b c os v k))

abbrev SameOctet : List ℕ → List ℕ → ℕ → ℕ → ℕ → ℕ → Bool → Mode → Type 0
SameOctet all os at c d s b m = run m d (place_of all s) (place_of all at) b (encode_utf8_all (c ∷ os)) ≡ map (moved (place_of all)) (run m d s at b (c ∷ os))

high_octet : (all os : List ℕ) (at c : ℕ) → 128 ≤ c → place_of all (at + 1) ≡ place_of all at + length (encode_utf8 c) → Octets all (at + 1) os → Octets all at (c ∷ os)
high_octet all os at c big e ih m d s b h = go m
  where
    on : (m : Mode) → stays m ≡ true → run m d s (at + 1) b os ≡ run m d s at b (c ∷ os) → SameOctet all os at c d s b m
    on m k same =
        high_run (encode_utf8 c) (encode_utf8_all os) m d (place_of all s) (place_of all at) b (high_bytes c big) k ∙ ap (λ n. run m d (place_of all s) n b (encode_utf8_all os)) (sym e)
        ∙ ih m d s b (omega arith)
        ∙ ap (map (moved (place_of all))) same

    off : (m : Mode) → step m d c ≡ None → SameOctet all os at c d s b m
    off m k = run_none m d (place_of all s) (place_of all at) b c (encode_utf8_all os) k ∙ fault_moved (place_of all) m s at ∙ ap (map (moved (place_of all))) (sym (run_stop m d s at b c os k))

    go : (m : Mode) → SameOctet all os at c d s b m
    go Outside = on Outside refl (sym (run_step Outside d s at b c os _ (high_is Outside d c big)))
    go Quoted = on Quoted refl (sym (run_step Quoted d s at b c os _ (high_is Quoted d c big)))
    go Comment = on Comment refl (sym (run_step Comment d s at b c os _ (high_is Comment d c big)))
    go Return = off Return (high_is Return d c big)
    go (Escape q) = off (Escape q) (high_is (Escape q) d c big)
    go (OneDigit q n) = off (OneDigit q n) (high_is (OneDigit q n) d c big)
    go (TwoDigits q n) = off (TwoDigits q n) (high_is (TwoDigits q n) d c big)

octet_run : (all os front : List ℕ) (at : ℕ) → front ++ os ≡ all → at ≡ length front → Octets all at os
octet_run all [] front at e k = λ m d s b h. end_moved (place_of all) (may_end m d) m s at b (same_place all s at h (omega (arith, k, ap length (sym e), length-append front [])))
octet_run all (c ∷ os) front at e k =
    let ih = octet_run all os (front ++ c ∷ []) (at + 1) (append_assoc front (c ∷ []) os ∙ e) (omega (arith, k, length-append front (c ∷ []))) in
    let next = place_next all front os at c e k in
    elim (cases_lt c 128) [
      | inl small ↦ low_octet all os at c small (omega (arith, k, ap length (sym e), length-append front (c ∷ os))) (next ∙ ap (λ l. place_of all at + length l) (encode_ascii c small)) ih
      | inr big ↦ high_octet all os at c big next ih
    ]

-- octets are read as their text
pub octets_run : (octets : List ℕ) → run Outside 0 0 0 (first_blank (encode_utf8_all octets)) (encode_utf8_all octets) ≡ map (moved (place_of octets)) (run Outside 0 0 0 (first_blank octets) octets)
octets_run octets = ap (λ b. run Outside 0 0 0 b (encode_utf8_all octets)) (sym (first_same octets)) ∙ octet_run octets octets [] 0 refl refl Outside 0 0 (first_blank octets) (omega arith)

pub reads_octets : (octets : List ℕ) → scalars octets ≡ true → ReadsOctets octets (run Outside 0 0 0 (first_blank octets) octets)
reads_octets octets ok = subst (Reads (encode_utf8_all octets)) (octets_run octets) (reads (encode_utf8_all octets) (octets, (ok, refl)))

-- octets from an offset on
pub reads_octets_from : (octets : List ℕ) (at : ℕ) → scalars (drop at octets) ≡ true → ReadsOctetsFrom octets at (run Outside 0 at at (first_blank (drop at octets)) (drop at octets))
reads_octets_from octets at ok = (run Outside 0 0 0 (first_blank (drop at octets)) (drop at octets), reads_octets (drop at octets) ok, from_place (drop at octets) at)
