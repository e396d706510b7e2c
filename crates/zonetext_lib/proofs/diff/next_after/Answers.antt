use Rattle.std.proofs.Common.{◌≡◌, ◌∷◌, ◌<◌, List, length, sym, ap, ◌∙◌, subst, arith, true}
use Rattle.std.specs.Prelude.{Ok, Result}
use Rattle.dns_lexer.specs.declared.pieces.Piece.{Piece}
use Rattle.dns_lexer.specs.declared.pieces.Fault.{Fault}
use Rattle.dns_lexer.specs.declared.pieces.Piece.TheVariants.{End as EndAt}
use Rattle.zonetext_lib.specs.Compare.{is_passed}
use Rattle.zonetext_lib.proofs.Comparing.{none_over, over_on, passed_piece}
use Rattle.zonetext_lib.proofs.Same.{can_cut, none_reached, reached_end, reached_more}
use Rattle.zonetext_lib.proofs.diff.next_after.Goals as goal

some_now : (now new : List (Result Piece Fault)) (x : Result Piece Fault) → now ≡ x ∷ new → 0 < length now
some_now now new x e = subst (λ (l : List (Result Piece Fault)). 0 < length l) (sym e) (omega arith)

pub loop-answer-init : goal.loop-answer-init
loop-answer-init c = record { over = none_over c.args.ended c.args.pieces.now; reached = none_reached c.args.ended c.args.before c.args.pieces.now; cut = tt }

pub loop-answer-preserved-in-End-1 : goal.loop-answer-preserved-in-End-1
loop-answer-preserved-in-End-1 c =
    let inv = c.loop-answer.invariant in
    let new = c.next.new.self in
    let end = c.in-Ok-End.end in
    let is : c.in-Some.answer ≡ Ok (EndAt end) = c.in-Ok-End.is ∙ ap Ok (rw c.in-Ok-End.is at c.in-Ok-End.field-0-is) in
    let now : c.loop-answer.pieces ≡ Ok (EndAt end) ∷ new = c.in-Some.ensures.steps ∙ ap (λ x. x ∷ new) is in
    let passed : is_passed c.args.ended (Ok (EndAt end)) ≡ true = subst (λ x. is_passed c.args.ended x ≡ true) is (sym c.if-not-is_passed_over.ensures) in
    record {
      over = over_on c.args.ended c.args.pieces.now c.loop-answer.pieces new (EndAt end) passed now inv.over;
      reached = reached_end c.args.ended c.args.before c.args.pieces.now c.loop-answer.pieces new c.loop-answer.last end passed now inv.over inv.reached;
      cut = can_cut c.args.ended c.args.before c.args.pieces.now c.loop-answer.pieces c.loop-answer.last (some_now c.loop-answer.pieces new (Ok (EndAt end)) now) inv.reached;
    }

pub loop-answer-preserved-in-Word-1 : goal.loop-answer-preserved-in-Word-1
loop-answer-preserved-in-Word-1 c =
    let inv = c.loop-answer.invariant in
    let new = c.next.new.self in
    let is = passed_piece c.args.ended c.in-Some.answer (sym c.if-not-is_passed_over.ensures) in
    let p : Piece = is.0 in
    let now : c.loop-answer.pieces ≡ Ok p ∷ new = c.in-Some.ensures.steps ∙ ap (λ x. x ∷ new) is.1 in
    let passed : is_passed c.args.ended (Ok p) ≡ true = subst (λ x. is_passed c.args.ended x ≡ true) is.1 (sym c.if-not-is_passed_over.ensures) in
    record {
      over = over_on c.args.ended c.args.pieces.now c.loop-answer.pieces new p passed now inv.over;
      reached = reached_more c.args.ended c.args.before c.args.pieces.now c.loop-answer.pieces new c.loop-answer.last p now inv.reached;
      cut = can_cut c.args.ended c.args.before c.args.pieces.now c.loop-answer.pieces c.loop-answer.last (some_now c.loop-answer.pieces new (Ok p) now) inv.reached;
    }
