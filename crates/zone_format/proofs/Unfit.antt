-- The first error of octets, below lines above.
use Rattle.std.proofs.Common.{◌≡◌, ℕ, ◌+◌, ◌-◌, ◌<◌, ◌≤◌, true, false, ◌&&◌, List, [], ◌∷◌, ◌++◌, length, take, drop, get_or, sym, ap, ◌∙◌, subst, arith, inl, inr, append-nil, take-take}
use Rattle.std.specs.Prelude.{map, Some, Result, Ok, Err}
use Rattle.std.proofs.lemmas.List.{get_or-take, get_or-drop, length-take}
use Rattle.dns_lexer.specs.declared.pieces.Piece.{Piece}
use Rattle.dns_lexer.specs.declared.pieces.Piece.TheVariants.{Word as WordAt, Quote as QuoteAt}
use Rattle.dns_lexer.specs.declared.pieces.Fault.{Fault}
use Rattle.dns_lexer.specs.declared.pieces.Span.{Span}
use Rattle.dns_lexer.specs.Pieces.{AreItemsOf, between, word_at}
use Rattle.dns_lexer.specs.CursorStates.{blank_at}
use Rattle.zone_format.specs.declared.format.Progress.{Progress}
use Rattle.zone_format.specs.declared.line_state.FormatState.{FormatState}
use Rattle.zone_format.specs.declared.line_state.LineState.{LineState}
use Rattle.zone_format.specs.declared.refusal.Refusal.{Refusal}
use Rattle.zone_format.specs.declared.refusal.Refusal.TheVariants.{Wrong, Nul, OrderMark, OutOfMemory}
use Rattle.zone_format.specs.Blocks.{resting}
use Rattle.zone_format.specs.Marks.{Mark, all_marks, gap_marks, lead, marks}
use Rattle.zone_format.specs.Refusal.{HasTokenAfter, HasFirstError, have_form, order_mark_length}
use Rattle.zone_format.specs.Writing.{RejectsToken, accepts, accepts_from, state_after}
use Rattle.zone_format.proofs.Givens.{fault_last, fault_of, first_fault}
use Rattle.zone_format.proofs.Going.{accepts_parted, gap_accepted}
use Rattle.zone_format.proofs.OrderMarks.{mark_fits}
use Rattle.zone_format.proofs.Seams.{follows}
use Rattle.zone_format.proofs.Turning.{Stays}

-- what was written below a seam
module _ (octets : List ℕ) (m : FormatState) (s : LineState) (goes : (ms : List Mark) → accepts_from s ms ≡ accepts_from (resting m) (lead (blank_at octets 0) ++ ms))
    (all rest : List (Result Piece Fault)) (old new : List ℕ) (p : Progress) (h : Stays octets all old (record { line_state = s; at = 0; is_token = false }) rest new p) (items : AreItemsOf octets all) where
  formed_with : (more : List Piece) → have_form m.above octets (h.found ++ more) ≡ accepts_from p.line_state (marks octets p.is_token p.at more)
  formed_with more =
      sym (follows m.above m.noted (all_marks octets (h.found ++ more))) ∙ sym (goes (marks octets false 0 (h.found ++ more))) ∙ ap (accepts_from s) (h.marked more)
      ∙ accepts_parted h.done (marks octets p.is_token p.at more) s h.done_accepted ∙ ap (λ x. accepts_from x (marks octets p.is_token p.at more)) (sym h.done_state)

  formed_so_far : have_form m.above octets h.found ≡ true
  formed_so_far = ap (have_form m.above octets) (sym (append-nil h.found)) ∙ formed_with []

  -- with a token after them
  abbrev at_token : ℕ → LineState
  at_token start = state_after p.line_state (gap_marks octets p.at start)

  formed_token : (start end : ℕ) → have_form m.above octets (h.found ++ word_at start end ∷ []) ≡ (accepts (at_token start) (between octets start end) && true)
  formed_token start end = formed_with (word_at start end ∷ []) ∙ accepts_parted (gap_marks octets p.at start) _ p.line_state (gap_accepted (between octets p.at start) p.line_state)

  -- a syntax error
  pub first_wrong : (f : Fault) (more : List (Result Piece Fault)) → rest ≡ Err f ∷ more → first_fault all ≡ Some f → HasFirstError m.above octets (Wrong f)
  first_wrong f more is first =
      let k = fault_of octets all f items.0 items.1 first in
      let here : AreItemsOf octets (map Ok h.found ++ Err f ∷ more) = subst (AreItemsOf octets) (h.split ∙ ap (λ l. map Ok h.found ++ l) is) items in
      (k.0, k.1, h.found, subst (λ l. AreItemsOf octets (map Ok h.found ++ Err f ∷ l)) (fault_last octets h.found f more here) here, formed_so_far)

  -- a token that may not be written
  pub first_unfit : (x : Span) → HasTokenAfter octets h.found x.start x.end → x.start ≤ x.end → x.end ≤ length octets → (r : Refusal) → RejectsToken octets p x r → HasFirstError m.above octets r
  first_unfit x k o w (Wrong f) u = absurd u
  first_unfit x k o w (Nul at) u =
      let t : List ℕ = between octets x.start x.end in
      let short : length t ≤ x.end - x.start = omega (arith, length-take (x.end - x.start) (drop x.start octets)) in
      let less : u.0 < x.end - x.start = omega (arith, u.2, short) in
      let gap : at - x.start ≡ u.0 = omega (arith, u.1) in
      let same : between octets x.start at ≡ take u.0 t = ap (λ n. take n (drop x.start octets)) gap ∙ sym (take-take u.0 (x.end - x.start) (drop x.start octets) (omega (arith, less))) in (
        h.found,
        x.start,
        x.end,
        k,
        omega (arith, u.1),
        omega (arith, u.1, less, o),
        w,
        ap (λ n. get_or octets n 0) u.1 ∙ sym (get_or-drop x.start octets u.0 0) ∙ sym (get_or-take (x.end - x.start) (drop x.start octets) u.0 0 less) ∙ u.3,
        formed_token x.start at ∙ ap (λ l. accepts (at_token x.start) l && true) same ∙ ap (λ b. b && true) u.4,
      )
  first_unfit x k o w (OrderMark at) u =
      let t : List ℕ = between octets x.start x.end in
      let n : ℕ = order_mark_length t in
      let fits : n ≤ x.end - x.start = omega (arith, mark_fits t, length-take (x.end - x.start) (drop x.start octets)) in
      let gap : x.start + n - x.start ≡ n = omega arith in
      let same : between octets x.start (x.start + n) ≡ take n t = ap (λ i. take i (drop x.start octets)) gap ∙ sym (take-take n (x.end - x.start) (drop x.start octets) fits) in
      subst (λ i. HasFirstError m.above octets (OrderMark i)) (sym u.0) (
        h.found,
        x.end,
        k,
        o,
        w,
        u.1,
        formed_so_far,
        formed_token x.start (x.start + n) ∙ ap (λ l. accepts (at_token x.start) l && true) same ∙ ap (λ b. b && true) u.2,
      )
  first_unfit x k o w OutOfMemory u = tt

  pub first_unfit_word : (x : Span) (more : List (Result Piece Fault)) → rest ≡ Ok (WordAt x) ∷ more → x.start ≤ x.end → x.end ≤ length octets → (r : Refusal) → RejectsToken octets p x r → HasFirstError m.above octets r
  first_unfit_word x more is o w = first_unfit x (more, inl (subst (AreItemsOf octets) (h.split ∙ ap (λ l. map Ok h.found ++ l) is) items)) o w

  pub first_unfit_quote : (x : Span) (more : List (Result Piece Fault)) → rest ≡ Ok (QuoteAt x) ∷ more → x.start ≤ x.end → x.end ≤ length octets → (r : Refusal) → RejectsToken octets p x r → HasFirstError m.above octets r
  first_unfit_quote x more is o w = first_unfit x (more, inr (subst (AreItemsOf octets) (h.split ∙ ap (λ l. map Ok h.found ++ l) is) items)) o w
