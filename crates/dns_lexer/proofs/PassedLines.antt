-- The rest of an entry on its line, skipped at once.
use Rattle.std.proofs.Common.{◌≡◌, ℕ, zero, suc, ◌+◌, ◌-◌, ◌<◌, ◌≤◌, arith, rules, Bool, true, false, ◌==◌, List, [], ◌∷◌, ◌++◌, length, drop, refl, sym, ap, ◌∙◌, subst, inl, inr, ◌⊎◌}
use Rattle.std.specs.Prelude.{◌≢◌, if◌then◌else◌, map, Option, Some, None, option_map, unwrap_or, Result, Ok}
use Rattle.std.proofs.Common.{get_or}
use Rattle.std.proofs.lemmas.List.{drop_more}
use Rattle.std.proofs.lemmas.Bool.{cases_lt}
use Rattle.dns_lexer.specs.declared.reader.Mode.{Mode}
use Rattle.dns_lexer.specs.declared.reader.Mode.TheVariants.{Outside}
use Rattle.dns_lexer.specs.declared.reader.Act.TheVariants.{EndToken}
use Rattle.dns_lexer.specs.declared.reader.Move.{Move}
use Rattle.dns_lexer.specs.declared.runs.OctetClass.TheVariants.{Blank, Line}
use Rattle.dns_lexer.specs.declared.pieces.Fault.{Fault}
use Rattle.dns_lexer.specs.declared.pieces.Piece.{Piece}
use Rattle.dns_lexer.specs.Pieces.{end_at, word_at}
use Rattle.dns_lexer.specs.PassedLine.{HasNoEnd, HasNoLine, LacksLine, PassesEntry}
use Rattle.dns_lexer.specs.Reader.{may_end, move_to, step}
use Rattle.dns_lexer.specs.Run.{Still, before, closed_piece, fault, finished, first_blank, open_piece, run, wrong_at, wrong_at_end}
use Rattle.dns_lexer.specs.Skip.{EachIn, StopsAt, is_in}
use Rattle.dns_lexer.proofs.PieceSteps.{run_step, stepped}

-- ---- something remains
before_some : (o : Option Piece) (k : List (Result Piece Fault)) → k ≢ [] → before o k ≢ []
before_some None k h = h
before_some (Some p) k h = λ e. cc

ends_some : (t : Bool) (m : Mode) (s at : ℕ) (b : Bool) → (if t then before (open_piece m s at) (Ok (end_at at b) ∷ []) else fault at (wrong_at_end m s)) ≢ []
ends_some true m s at b = before_some (open_piece m s at) (Ok (end_at at b) ∷ []) (λ e. cc)
ends_some false m s at b = λ e. cc

goes_some : (m : Mode) (s at : ℕ) (b : Bool) (bs : List ℕ) (o : Option Move) → ((n : Mode) (d t i : ℕ) (k : Bool) → run n d t i k bs ≢ [])
    → unwrap_or (option_map (stepped m s at b bs) o) (fault at (wrong_at m s)) ≢ []
goes_some m s at b bs None more = λ e. cc
goes_some m s at b bs (Some v) more = before_some (closed_piece m v.mode v.act s at) _ (before_some (finished v.act s (at + 1) b) _ (more v.mode v.depth _ (at + 1) _))

pub run_some : (m : Mode) (d s at : ℕ) (b : Bool) (bs : List ℕ) → run m d s at b bs ≢ []
run_some m d s at b [] = ends_some (may_end m d) m s at b
run_some m d s at b (c ∷ bs) = goes_some m s at b bs (step m d c) (λ n e t i k. run_some n e t i k bs)

-- ---- words and blanks, and a line feed
plain_still : (c : ℕ) → is_in Line c ≡ true → is_in Blank c ≡ false → Still Outside c
plain_still c h k d s at b bs = search rules

blank_ends : (c d : ℕ) → is_in Blank c ≡ true → step Outside d c ≡ move_to Outside d EndToken
blank_ends c d h = search rules

-- up to a line feed the machine yields words, and then the end of the entry
abbrev EndsAt : List ℕ → ℕ → ℕ → Bool → ℕ → Type 0
EndsAt text s i b e = (found : List Piece) × HasNoEnd found
    × (run Outside 0 s i b (drop i text) ≡ map Ok found ++ Ok (end_at (e + 1) b) ∷ run Outside 0 (e + 1) (e + 1) (first_blank (drop (e + 1) text)) (drop (e + 1) text))

-- a word that is open comes first
word_first : (t : Bool) (s i : ℕ) (found : List Piece) → HasNoEnd found → (left : List (Result Piece Fault))
    → (more : List Piece) × HasNoEnd more × (before (if t then None else Some (word_at s i)) (map Ok found ++ left) ≡ map Ok more ++ left)
word_first true s i found h left = (found, h, refl)
word_first false s i found h left = (word_at s i ∷ found, h, refl)

feed_here : (text : List ℕ) (s i : ℕ) (b : Bool) → i < length text → get_or text i 0 ≡ 10 → EndsAt text s i b i
feed_here text s i b w feed =
    let bs : List ℕ = drop (i + 1) text in
    let left : List (Result Piece Fault) = Ok (end_at (i + 1) b) ∷ run Outside 0 (i + 1) (i + 1) (first_blank bs) bs in
    let x = word_first (s == i) s i [] tt left in (
      x.0,
      x.1,
      ap (run Outside 0 s i b) (drop_more text i 0 w ∙ ap (λ c. c ∷ bs) feed) ∙ run_step Outside 0 s i b 10 bs _ refl ∙ x.2,
    )

blank_here : (text : List ℕ) (s i e : ℕ) (b : Bool) → i < length text → is_in Blank (get_or text i 0) ≡ true → EndsAt text (i + 1) (i + 1) b e → EndsAt text s i b e
blank_here text s i e b w h more =
    let bs : List ℕ = drop (i + 1) text in
    let left : List (Result Piece Fault) = Ok (end_at (e + 1) b) ∷ run Outside 0 (e + 1) (e + 1) (first_blank (drop (e + 1) text)) (drop (e + 1) text) in
    let x = word_first (s == i) s i more.0 more.1 left in (
      x.0,
      x.1,
      ap (run Outside 0 s i b) (drop_more text i 0 w) ∙ run_step Outside 0 s i b (get_or text i 0) bs _ (blank_ends (get_or text i 0) 0 h)
          ∙ ap (λ k. before (open_piece Outside s i) k) more.2 ∙ x.2,
    )

plain_here : (text : List ℕ) (s i e : ℕ) (b : Bool) → i < length text → is_in Line (get_or text i 0) ≡ true → is_in Blank (get_or text i 0) ≡ false → EndsAt text s (i + 1) b e → EndsAt text s i b e
plain_here text s i e b w h k more = (
  more.0,
  more.1,
  ap (run Outside 0 s i b) (drop_more text i 0 w) ∙ plain_still (get_or text i 0) h k 0 s i b (drop (i + 1) text) ∙ more.2,
)

true_or_false : (t : Bool) → (t ≡ true) ⊎ (t ≡ false)
true_or_false true = inl refl
true_or_false false = inr refl

line_run : (text : List ℕ) (r s i : ℕ) (b : Bool) → i + r < length text → EachIn Line text i (i + r) → get_or text (i + r) 0 ≡ 10 → EndsAt text s i b (i + r)
line_run text zero s i b w all feed =
    let same : i ≡ i + zero = omega arith in
    subst (λ e. EndsAt text s i b e) same (feed_here text s i b (omega (arith, w)) (subst (λ e. get_or text e 0 ≡ 10) (sym same) feed))
line_run text (suc r) s i b w all feed =
    let further : i + 1 + r ≡ i + suc r = omega arith in
    let here : is_in Line (get_or text i 0) ≡ true = all i (omega arith) (omega arith) in
    let rest : (t : ℕ) → EndsAt text t (i + 1) b (i + suc r) = λ t. subst (λ e. EndsAt text t (i + 1) b e) further
    (line_run text r t (i + 1) b (omega (arith, w)) (λ n from to. all n (omega (arith, from)) (omega (arith, to))) (subst (λ e. get_or text e 0 ≡ 10) (sym further) feed)) in
    elim (true_or_false (is_in Blank (get_or text i 0))) [
      | inl blank ↦ blank_here text s i (i + suc r) b (omega (arith, w)) blank (rest (i + 1))
      | inr word ↦ plain_here text s i (i + suc r) b (omega (arith, w)) here word (rest s)
    ]

-- from a position with nothing open
pub line_passed : (text : List ℕ) (done : Bool) (d at e : ℕ) (b k : Bool) (old : List (Result Piece Fault)) → old ≡ (if done then [] else run Outside d at at b (drop at text)) → done ≡ false → d ≡ 0
    → at ≤ e → e < length text → EachIn Line text at e → get_or text e 0 ≡ 10 → k ≡ first_blank (drop (e + 1) text)
    → PassesEntry old (e + 1) (if done then [] else run Outside d (e + 1) (e + 1) k (drop (e + 1) text))
line_passed text false zero at e b k old is ready none on within all feed blank =
    let same : at + (e - at) ≡ e = omega (arith, on) in
    let x : EndsAt text at at b e = subst (λ j. EndsAt text at at b j) same
    (line_run text (e - at) at at b (omega (arith, on, within)) (λ n from to. all n from (omega (arith, on, to))) (subst (λ j. get_or text j 0 ≡ 10) (sym same) feed)) in
    record {
      found = x.0;
      is_open = x.1;
      end = record { at = e + 1; begins_blank = b };
      ends_at = refl;
      is = is ∙ x.2 ∙ ap (λ t. map Ok x.0 ++ Ok (end_at (e + 1) b) ∷ run Outside 0 (e + 1) (e + 1) t (drop (e + 1) text)) (sym blank);
      some = run_some Outside 0 (e + 1) (e + 1) k (drop (e + 1) text);
    }
line_passed text true d at e b k old is ready none on within all feed blank = cc
line_passed text false (suc d) at e b k old is ready none on within all feed blank = cc

-- ---- no line to pass over
clash : (t : Bool) → t ≡ true → t ≡ false → ⊥
clash t is not_so = cc

feed_stops : (c : ℕ) → is_in Line c ≡ true → c ≢ 10
feed_stops c plain feed = clash (is_in Line c) plain (ap (is_in Line) feed)

-- the first octet that isn't of such a line isn't a line feed
no_line : (text : List ℕ) (at e : ℕ) → at ≤ e → EachIn Line text at e → (e < length text → StopsAt Line text e) → (e < length text → get_or text e 0 ≢ 10) → HasNoLine text at
no_line text at e on each stops other feed from within plain is = elim (cases_lt feed e) [
  | inl early ↦ feed_stops (get_or text feed 0) (each feed from early) is
  | inr late ↦ elim (cases_lt e feed) [
    | inl before ↦ clash (is_in Line (get_or text e 0)) (plain e on before) (stops (omega (arith, before, within)))
    | inr here ↦
        let same : feed ≡ e = omega (arith, late, here) in
        other (subst (λ n. n < length text) same within) (subst (λ n. get_or text n 0 ≡ 10) same is)
  ]
]

-- if the machine is done or inside parentheses
pub none_left : (text : List ℕ) (done : Bool) (d at : ℕ) (b : Bool) (old : List (Result Piece Fault)) → old ≡ (if done then [] else run Outside d at at b (drop at text))
    → (done ≡ true) ⊎ (0 < d) → LacksLine old
none_left text true d at b old is why = inl is
none_left text false d at b old is (inl why) = cc
none_left text false d at b old is (inr deep) = inr (record { octets = text; depth = d; at = at; began = b; is = is; none = inl deep })

-- if the line continues with something else
pub other_line : (text : List ℕ) (done : Bool) (d at e : ℕ) (b : Bool) (old : List (Result Piece Fault)) → old ≡ (if done then [] else run Outside d at at b (drop at text)) → at ≤ e
    → EachIn Line text at e → (e < length text → StopsAt Line text e) → (e < length text → get_or text e 0 ≢ 10) → LacksLine old
other_line text true d at e b old is on each stops other = inl is
other_line text false d at e b old is on each stops other =
    inr (record { octets = text; depth = d; at = at; began = b; is = is; none = inr (no_line text at e on each stops other) })
