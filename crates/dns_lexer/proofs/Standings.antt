-- The pieces that remain at a position.
use Rattle.std.proofs.Common.{◌≡◌, ℕ, zero, suc, ◌+◌, ◌-◌, ◌≤◌, Bool, true, false, cond, List, [], ◌∷◌, ◌++◌, length, take, drop, refl, sym, ap, ◌∙◌, subst, arith, length-append}
use Rattle.std.specs.Prelude.{map, replicate, Some, None, Result, Ok, Err, IfSome}
use Rattle.std.proofs.lemmas.List.{length-drop, length-replicate, take-append-drop}
use Rattle.dns_symbol.specs.Characters.{open_parenthesis}
use Rattle.dns_lexer.specs.declared.reader.Mode.TheVariants.{Outside}
use Rattle.dns_lexer.specs.declared.pieces.Piece.{Piece}
use Rattle.dns_lexer.specs.declared.pieces.Piece.TheVariants.{Word as WordAt, Quote as QuoteAt, Comment as CommentAt, End as EndAt}
use Rattle.dns_lexer.specs.declared.pieces.Fault.{Fault}
use Rattle.dns_lexer.specs.declared.pieces.Wrong.{Wrong}
use Rattle.dns_lexer.specs.declared.pieces.Wrong.TheVariants.{Closing, OpenParenthesis, OpenQuote, LoneReturn, BadEscape}
use Rattle.dns_lexer.specs.declared.pieces.Stepped.{Stepped}
use Rattle.dns_lexer.specs.declared.cursor_state.CursorState.{CursorState}
use Rattle.dns_lexer.specs.Pieces.{AreOctets, EachWithin, AreItemsOf, IsWithin, later, moved, moved_wrong, next_blank}
use Rattle.dns_lexer.specs.Run.{blank_then, first_blank, run, Steps}
use Rattle.dns_lexer.specs.CursorStates.{ahead, blank_at, entered, RemainUnless, RemainAt, at_entry, AreItemsFrom, YieldsNextPiece, YieldsAllPieces, began_after}
use Rattle.dns_lexer.proofs.PieceMoved.{blank_left, from_place, later_run}
use Rattle.dns_lexer.proofs.Skips.{moved_on}
use Rattle.dns_lexer.proofs.Blocks.{back_octets, both_octets}
use Rattle.dns_lexer.proofs.OctetsOnce.{given_once, given_run, run_given}

abbrev Given : Type 0
Given = List (Result Piece Fault)

-- places moved on, and back
wrong_back : (n : ℕ) (w : Wrong) → moved_wrong (λ i. i - n) (moved_wrong (λ i. n + i) w) ≡ w
wrong_back n (OpenQuote i) = ap OpenQuote (omega arith)
wrong_back n Closing = refl
wrong_back n OpenParenthesis = refl
wrong_back n LoneReturn = refl
wrong_back n BadEscape = refl

span_back : (n i : ℕ) → (n + i) - n ≡ i
span_back n i = omega arith

one_back : (n : ℕ) (x : Result Piece Fault) → moved (λ i. i - n) (moved (λ i. n + i) x) ≡ x
one_back n (Ok (WordAt p)) = ap (λ s. Ok (WordAt (record { start = s; end = (n + p.end) - n }))) (span_back n p.start) ∙ ap (λ e. Ok (WordAt (record { start = p.start; end = e }))) (span_back n p.end)
one_back n (Ok (QuoteAt p)) =
    ap (λ s. Ok (QuoteAt (record { start = s; end = (n + p.end) - n }))) (span_back n p.start) ∙ ap (λ e. Ok (QuoteAt (record { start = p.start; end = e }))) (span_back n p.end)
one_back n (Ok (CommentAt p)) =
    ap (λ s. Ok (CommentAt (record { start = s; end = (n + p.end) - n }))) (span_back n p.start) ∙ ap (λ e. Ok (CommentAt (record { start = p.start; end = e }))) (span_back n p.end)
one_back n (Ok (EndAt p)) = ap (λ e. Ok (EndAt (record { at = e; begins_blank = p.begins_blank }))) (span_back n p.at)
one_back n (Err f) =
    ap (λ e. Err (record { at = e; wrong = moved_wrong (λ i. i - n) (moved_wrong (λ i. n + i) f.wrong) })) (span_back n f.at)
    ∙ ap (λ w. Err (record { at = f.at; wrong = w })) (wrong_back n f.wrong)

back : (n : ℕ) (l : Given) → map (moved (λ i. i - n)) (later n l) ≡ l
back n [] = refl
back n (x ∷ l) = ap (λ y. y ∷ map (moved (λ i. i - n)) (later n l)) (one_back n x) ∙ ap (λ k. x ∷ k) (back n l)

later_same : (n : ℕ) (l m : Given) → later n l ≡ later n m → l ≡ m
later_same n l m e = sym (back n l) ∙ ap (map (moved (λ i. i - n))) e ∙ back n m

-- opening parentheses in a row
opens : (n d k : ℕ) (b : Bool) (rest : List ℕ) → run Outside d k k b (replicate n 40 ++ rest) ≡ run Outside (n + d) (n + k) (n + k) b rest
opens zero d k b rest = ap (λ i. run Outside i k k b rest) (omega arith) ∙ ap (λ i. run Outside (0 + d) i i b rest) (omega arith)
opens (suc n) d k b rest =
    moved_on 40 d (suc d) k b (replicate n 40 ++ rest) refl ∙ opens n (suc d) (k + 1) b rest
    ∙ ap (λ i. run Outside i (n + (k + 1)) (n + (k + 1)) b rest) (omega arith) ∙ ap (λ i. run Outside (suc n + d) i i b rest) (omega arith)

shift : (n k m : ℕ) (b : Bool) (rest : List ℕ) → m ≡ n + k → run Outside (n + 0) (n + k) (n + k) b rest ≡ later m (run Outside n 0 0 b rest)
shift n k m b rest e =
    ap (λ i. run Outside i (n + k) (n + k) b rest) (omega arith) ∙ ap (λ i. run Outside n i i b rest) (omega (arith, e)) ∙ later_run m rest Outside n 0 0 b (omega arith)

-- after the beginning of an entry and n parentheses, the machine yields the remaining pieces
enters : (b : Bool) (n : ℕ) (rest : List ℕ) → run Outside 0 0 0 (first_blank (entered b n ++ rest)) (entered b n ++ rest) ≡ later (length (entered b n)) (run Outside n 0 0 b rest)
enters true n rest =
    moved_on 32 0 0 0 true (replicate n 40 ++ rest) refl ∙ opens n 0 1 true rest
    ∙ shift n 1 (length (entered true n)) true rest (omega (arith, length-replicate n open_parenthesis))
enters false n rest =
    moved_on 40 0 1 0 false (41 ∷ (replicate n 40 ++ rest)) refl ∙ moved_on 41 1 0 1 false (replicate n 40 ++ rest) refl ∙ opens n 0 2 false rest
    ∙ shift n 2 (length (entered false n)) false rest (omega (arith, length-replicate n open_parenthesis))

open_octets : (n : ℕ) → AreOctets (replicate n 40)
open_octets zero = refl
open_octets (suc n) = open_octets n

entered_octets : (b : Bool) (n : ℕ) → AreOctets (entered b n)
entered_octets true n = open_octets n
entered_octets false n = open_octets n

module _ (octets : List ℕ) (s : CursorState) where
  -- is what remains
  pub left_ahead : AreOctets octets → RemainAt octets s (ahead octets s)
  left_ahead o = go s.is_done
    where
      rest_octets : AreOctets (drop s.at octets)
      rest_octets = back_octets (take s.at octets) (drop s.at octets) (subst AreOctets (sym (take-append-drop s.at octets)) o)

      front : List ℕ
      front = entered (blank_at octets s.began) s.depth

      given : AreItemsOf (front ++ drop s.at octets) (later (length front) (run Outside s.depth 0 0 (blank_at octets s.began) (drop s.at octets)))
      given = subst (AreItemsOf (front ++ drop s.at octets)) (enters (blank_at octets s.began) s.depth (drop s.at octets))
          (run_given (front ++ drop s.at octets) (both_octets front (drop s.at octets) (entered_octets (blank_at octets s.began) s.depth) rest_octets))

      further : run Outside s.depth s.at s.at (blank_at octets s.began) (drop s.at octets) ≡ later s.at (run Outside s.depth 0 0 (blank_at octets s.began) (drop s.at octets))
      further =
          ap (λ i. run Outside s.depth i i (blank_at octets s.began) (drop s.at octets)) (omega arith)
          ∙ later_run s.at (drop s.at octets) Outside s.depth 0 0 (blank_at octets s.began) (omega arith)

      go : (t : Bool) → RemainUnless t octets s (cond t [] (run Outside s.depth s.at s.at (blank_at octets s.began) (drop s.at octets)))
      go true = refl
      go false = (run Outside s.depth 0 0 (blank_at octets s.began) (drop s.at octets), given, further)

-- one list remains
once_if : (t : Bool) (octets : List ℕ) (s : CursorState) (given other : Given) → RemainUnless t octets s given → RemainUnless t octets s other → given ≡ other
once_if true octets s given other g h = g ∙ sym h
once_if false octets s given other g h =
    let n : ℕ = length (entered (blank_at octets s.began) s.depth) in
    g.2 ∙ ap (later s.at) (later_same n g.0 h.0 (given_once (entered (blank_at octets s.began) s.depth ++ drop s.at octets) (later n g.0) (later n h.0) g.1 h.1)) ∙ sym h.2

pub left_once : (octets : List ℕ) (s : CursorState) (given other : Given) → RemainAt octets s given → RemainAt octets s other → given ≡ other
left_once octets s given other = once_if s.is_done octets s given other

-- within the octets
within_moved : (n m at : ℕ) (l : Given) → EachWithin (n + m) (later n l) → EachWithin (at + m) (later at l)
within_moved n m at [] w = tt
within_moved n m at (Ok (WordAt p) ∷ l) w = ((omega (arith, w.0.0), omega (arith, w.0.1)), within_moved n m at l w.1)
within_moved n m at (Ok (QuoteAt p) ∷ l) w = ((omega (arith, w.0.0), omega (arith, w.0.1)), within_moved n m at l w.1)
within_moved n m at (Ok (CommentAt p) ∷ l) w = ((omega (arith, w.0.0), omega (arith, w.0.1)), within_moved n m at l w.1)
within_moved n m at (Ok (EndAt p) ∷ l) w = (omega (arith, w.0), within_moved n m at l w.1)
within_moved n m at (Err f ∷ l) w = (omega (arith, w.0), within_moved n m at l w.1)

within_if : (t : Bool) (octets : List ℕ) (s : CursorState) (given : Given) → s.at ≤ length octets → RemainUnless t octets s given → EachWithin (length octets) given
within_if true octets s given h g = subst (EachWithin (length octets)) (sym g) tt
within_if false octets s given h g =
    let front : List ℕ = entered (blank_at octets s.began) s.depth in
    let rest : List ℕ = drop s.at octets in
    let all : EachWithin (length front + length rest) (later (length front) g.0) = subst (λ n. EachWithin n (later (length front) g.0)) (length-append front rest) g.1.1 in
    let fits : s.at + length rest ≡ length octets = omega (arith, h, length-drop s.at octets) in
    subst (EachWithin (length octets)) (sym g.2) (subst (λ n. EachWithin n (later s.at g.0)) fits (within_moved (length front) (length rest) s.at g.0 all))

pub left_within : (octets : List ℕ) (s : CursorState) (given : Given) → s.at ≤ length octets → RemainAt octets s given → EachWithin (length octets) given
left_within octets s given = within_if s.is_done octets s given

-- with the flag of the entry that is open
pub left_blank : (octets : List ℕ) (s : CursorState) (given : Given) → AreOctets octets → RemainAt octets s given → IfSome (next_blank given) (λ x. blank_at octets s.began ≡ x)
left_blank octets s given o g =
    blank_left s.is_done Outside s.depth s.at s.at (blank_at octets s.began) (drop s.at octets) given (left_once octets s (ahead octets s) given (left_ahead octets s o) g)

-- at an entry's beginning
module _ (octets : List ℕ) (at : ℕ) (o : AreOctets octets) where
  abbrev alone : Given
  alone = run Outside 0 0 0 (first_blank (drop at octets)) (drop at octets)

  rest_octets : AreOctets (drop at octets)
  rest_octets = back_octets (take at octets) (drop at octets) (subst AreOctets (sym (take-append-drop at octets)) o)

  pub entry_left : (given : Given) → RemainAt octets (at_entry at) given → AreItemsFrom octets at given
  entry_left given g =
      (alone, run_given (drop at octets) rest_octets, left_once octets (at_entry at) given (ahead octets (at_entry at)) g (left_ahead octets (at_entry at) o) ∙ from_place (drop at octets) at)

  pub left_entry : (given : Given) → AreItemsFrom octets at given → RemainAt octets (at_entry at) given
  left_entry given g =
      subst (RemainAt octets (at_entry at)) (from_place (drop at octets) at ∙ ap (later at) (sym (given_run (drop at octets) g.0 rest_octets g.1)) ∙ sym g.2) (left_ahead octets (at_entry at) o)

-- successive results are what remains
pub takes_all : (octets : List ℕ) (found : Given) (first last : CursorState) (given : Given) → RemainAt octets first given → YieldsAllPieces octets first found last → found ≡ given
takes_all octets [] first last given g t = sym (left_once octets first given t.left g t.before ∙ t.none refl)
takes_all octets (x ∷ more) first last given g t =
    ap (λ l. x ∷ l) (takes_all octets more t.0 last t.1.left t.1.after t.2) ∙ sym (left_once octets first given (x ∷ t.1.left) g t.1.before)

pub takes_from_entry : (octets : List ℕ) (at : ℕ) (given found : Given) (last : CursorState) → AreOctets octets → AreItemsFrom octets at given → YieldsAllPieces octets (at_entry at) found last → found ≡ given
takes_from_entry octets at given found last o g t = takes_all octets found (at_entry at) last given (left_entry octets at o given g) t

-- and at the start what all octets yield
pub given_left : (octets : List ℕ) (given : Given) → AreOctets octets → AreItemsOf octets given → RemainAt octets (at_entry 0) given
given_left octets given o g =
    let is : given ≡ run Outside 0 0 0 (first_blank octets) octets = given_run octets given o g in
    left_entry octets 0 o given (given, g, is ∙ from_place octets 0 ∙ ap (later 0) (sym is))

pub takes_from_start : (octets : List ℕ) (given found : Given) (last : CursorState) → AreOctets octets → AreItemsOf octets given → YieldsAllPieces octets (at_entry 0) found last → found ≡ given
takes_from_start octets given found last o g t = takes_all octets found (at_entry 0) last given (given_left octets given o g) t

-- a step of the machine consumes what is first
then_began : (octets : List ℕ) (x : Result Piece Fault) (began : ℕ) → blank_then octets x (blank_at octets began) ≡ blank_at octets (began_after x began)
then_began octets (Ok (WordAt p)) began = refl
then_began octets (Ok (QuoteAt p)) began = refl
then_began octets (Ok (CommentAt p)) began = refl
then_began octets (Ok (EndAt p)) began = refl
then_began octets (Err f) began = refl

abbrev pub stood : Stepped → ℕ → CursorState
stood t began = record { at = t.place.at; depth = t.place.depth; began = began_after t.given began; is_done = t.is_done }

module _ (octets : List ℕ) (s : CursorState) (t : Stepped) (o : AreOctets octets) (going : s.is_done ≡ false)
    (steps : Steps octets (record { depth = s.depth; at = s.at }) (blank_at octets s.began) t) where
  abbrev new : CursorState
  new = stood t s.began

  flag : (d : Bool) → t.is_done ≡ d → cond d [] (run Outside t.place.depth t.place.at t.place.at t.begins_blank (drop t.place.at octets))
      ≡ cond d [] (run Outside t.place.depth t.place.at t.place.at (blank_at octets new.began) (drop t.place.at octets))
  flag true e = refl
  flag false e = ap (λ x. run Outside t.place.depth t.place.at t.place.at x (drop t.place.at octets)) (steps.blank e ∙ then_began octets t.given s.began)

  is_first : ahead octets s ≡ t.given ∷ ahead octets new
  is_first = ap (λ d. cond d [] (run Outside s.depth s.at s.at (blank_at octets s.began) (drop s.at octets))) going ∙ steps.same ∙ ap (λ l. t.given ∷ l) (flag t.is_done refl)

  pub step_takes : YieldsNextPiece octets s (Some t.given) new
  step_takes = record {
    left = ahead octets new;
    before = subst (RemainAt octets s) is_first (left_ahead octets s o);
    after = left_ahead octets new o;
    none = λ e. cc;
  }

  pub step_within : s.at ≤ length octets → IsWithin (length octets) t.given
  step_within h = (left_within octets s (t.given ∷ ahead octets new) h (subst (RemainAt octets s) is_first (left_ahead octets s o))).0

pub done_takes : (octets : List ℕ) (s : CursorState) → s.is_done ≡ true → YieldsNextPiece octets s None s
done_takes octets s e = record { left = []; before = nothing; after = nothing; none = λ _. refl }
  where
    nothing : RemainAt octets s []
    nothing = subst (λ t. RemainUnless t octets s []) (sym e) refl
