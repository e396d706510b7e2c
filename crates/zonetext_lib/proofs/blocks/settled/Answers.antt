use Rattle.std.proofs.Common.{◌≡◌, ◌<◌, ◌∷◌, sym, ap, ◌∙◌, subst, length, inl, arith, refl}
use Rattle.std.specs.Prelude.{Ok, Err}
use Rattle.dns_lexer.specs.declared.pieces.Piece.TheVariants.{End as EndAt}
use Rattle.dns_lexer.specs.Pieces.{AreItemsOf}
use Rattle.dns_lexer.proofs.OctetsOnce.{are_octets}
use Rattle.zonetext_lib.proofs.Beginnings.{fault_viable, given_viable}
use Rattle.zonetext_lib.proofs.Cuts.{fault_alone}
use Rattle.zonetext_lib.proofs.Passing.{all_passed, none_walked, walked_end, walked_on, last_on, cut_or_none, cut_before, fault_passed, before_on, before_end}
use Rattle.zonetext_lib.proofs.blocks.settled.Goals as goal

pub loop-piece-init : goal.loop-piece-init
loop-piece-init c = record { walked = none_walked c.into_iter-piece-iterator.result; before = inl refl }

pub loop-piece-preserved-in-Ok-End : goal.loop-piece-preserved-in-Ok-End
loop-piece-preserved-in-Ok-End c =
    let inv = c.loop-piece.invariant in
    let rest = c.next.new.self in
    let end = c.in-Ok-End.end in
    let now : c.loop-piece.piece-iterator ≡ Ok (EndAt end) ∷ rest = c.in-Some.ensures.steps ∙ ap (λ x. x ∷ rest) c.in-Ok-End.is ∙ ap (λ x. Ok x ∷ rest) (rw c.in-Ok-End.is at c.in-Ok-End.field-0-is) in
    record {
      walked = walked_end _ _ _ end.at c.loop-piece.last end.begins_blank now inv.walked;
      before = last_on _ _ _ (EndAt end) c.loop-piece.last now inv.walked.1;
    }

pub loop-piece-preserved : goal.loop-piece-preserved
loop-piece-preserved c =
    let inv = c.loop-piece.invariant in
    let rest = c.next.new.self in
    let now : c.loop-piece.piece-iterator ≡ Ok c.in-Ok.field-0 ∷ rest = c.in-Some.ensures.steps ∙ ap (λ x. x ∷ rest) c.in-Ok.is in
    record {
      walked = walked_on _ _ _ c.in-Ok.field-0 c.loop-piece.last now inv.walked;
      before = before_on _ _ _ c.in-Ok.field-0 c.loop-piece.before now inv.before;
    }

pub returns-then-needs_more-clause-settled : goal.returns-then-needs_more-clause-settled
returns-then-needs_more-clause-settled c =
    let given = c.into_iter-piece-iterator.result in
    let all = subst (AreItemsOf c.args.octets.now) (sym c.into_iter-piece-iterator.ensures.into_iter_gives) (c.of_octets-piece-items.ensures.reads, c.of_octets-piece-items.ensures.within) in
    let now : c.loop-piece.piece-iterator ≡ c.in-Some.piece ∷ c.next.new.self = c.in-Some.ensures.steps in
    let some : 0 < length c.loop-piece.piece-iterator = subst (λ l. 0 < length l) (sym now) (omega arith) in
    cut_or_none c.args.octets.now given c.loop-piece.piece-iterator c.loop-piece.last all some c.loop-piece.invariant.walked.1

pub returns-then-needs_more-clause-viable : goal.returns-then-needs_more-clause-viable
returns-then-needs_more-clause-viable c =
    let given = c.into_iter-piece-iterator.result in
    let all = subst (AreItemsOf c.args.octets.now) (sym c.into_iter-piece-iterator.ensures.into_iter_gives) (c.of_octets-piece-items.ensures.reads, c.of_octets-piece-items.ensures.within) in
    let now : c.loop-piece.piece-iterator ≡ Err c.in-Err.fault ∷ c.next.new.self = c.in-Some.ensures.steps ∙ ap (λ x. x ∷ c.next.new.self) c.in-Err.is in
    let walked = c.loop-piece.invariant.walked.0 in
    let bad = fault_alone c.args.octets.now walked.found c.in-Err.fault (fault_passed c.args.octets.now given c.next.new.self c.loop-piece.piece-iterator c.in-Err.fault all now walked) in
    fault_viable c.args.octets.now c.in-Err.fault bad (c.needs_more.ensures.place.0 c.if-needs_more.true)

pub returns-else-needs_more-clause-settled : goal.returns-else-needs_more-clause-settled
returns-else-needs_more-clause-settled c =
    let given = c.into_iter-piece-iterator.result in
    let all = subst (AreItemsOf c.args.octets.now) (sym c.into_iter-piece-iterator.ensures.into_iter_gives) (c.of_octets-piece-items.ensures.reads, c.of_octets-piece-items.ensures.within) in
    let now : c.loop-piece.piece-iterator ≡ Err c.in-Err.fault ∷ c.next.new.self = c.in-Some.ensures.steps ∙ ap (λ x. x ∷ c.next.new.self) c.in-Err.is in
    let inv = c.loop-piece.invariant in (
      inv.walked.0.found,
      fault_passed c.args.octets.now given c.next.new.self c.loop-piece.piece-iterator c.in-Err.fault all now inv.walked.0,
      before_end c.in-Err.fault.at (length c.args.octets.now) c.needs_more.result c.needs_more.ensures.place c.if-needs_more.false,
    )

pub returns-clause-settled : goal.returns-clause-settled
returns-clause-settled c =
    let given = c.into_iter-piece-iterator.result in
    let all = subst (AreItemsOf c.args.octets.now) (sym c.into_iter-piece-iterator.ensures.into_iter_gives) (c.of_octets-piece-items.ensures.reads, c.of_octets-piece-items.ensures.within) in
    cut_before c.args.octets.now given c.loop-piece.piece-iterator c.loop-piece.before all c.loop-piece.invariant.before

pub returns-clause-viable : goal.returns-clause-viable
returns-clause-viable c =
    let given = c.into_iter-piece-iterator.result in
    let all = subst (AreItemsOf c.args.octets.now) (sym c.into_iter-piece-iterator.ensures.into_iter_gives) (c.of_octets-piece-items.ensures.reads, c.of_octets-piece-items.ensures.within) in
    let walked = c.loop-piece.invariant.walked.0 in
    given_viable c.args.octets.now walked.found (all_passed c.args.octets.now given c.loop-piece.piece-iterator all c.in-None.ensures.steps.0 walked)

pub returns-then-needs_more-clause-octets : goal.returns-then-needs_more-clause-octets
returns-then-needs_more-clause-octets c = are_octets c.args.octets.now (λ k. (c.type_inv.octets k).fits)

pub returns-else-needs_more-clause-octets : goal.returns-else-needs_more-clause-octets
returns-else-needs_more-clause-octets c = are_octets c.args.octets.now (λ k. (c.type_inv.octets k).fits)

pub returns-clause-octets : goal.returns-clause-octets
returns-clause-octets c = are_octets c.args.octets.now (λ k. (c.type_inv.octets k).fits)
