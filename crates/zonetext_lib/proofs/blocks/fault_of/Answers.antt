use Rattle.std.proofs.Common.{◌≡◌, ◌∷◌, sym, ap, ◌∙◌, subst}
use Rattle.std.specs.Prelude.{Err}
use Rattle.dns_lexer.specs.Pieces.{AreItemsOf}
use Rattle.dns_lexer.proofs.OctetsOnce.{are_octets}
use Rattle.zonetext_lib.proofs.Passing.{one_passed, fault_passed, all_passed}
use Rattle.zonetext_lib.proofs.blocks.fault_of.Goals as goal

pub loop-piece-preserved : goal.loop-piece-preserved
loop-piece-preserved c = one_passed _ c.next.new.self c.loop-piece.piece-iterator c.in-Ok.field-0 (c.in-Some.ensures.steps ∙ ap (λ x. x ∷ c.next.new.self) c.in-Ok.is) c.loop-piece.invariant

pub returns-in-Err-clause-fault : goal.returns-in-Err-clause-fault
returns-in-Err-clause-fault c =
    let given = c.into_iter-piece-iterator.result in
    let all = subst (AreItemsOf c.args.octets.now) (sym c.into_iter-piece-iterator.ensures.into_iter_gives) (c.of_octets-piece-items.ensures.reads, c.of_octets-piece-items.ensures.within) in
    let now : c.loop-piece.piece-iterator ≡ Err c.in-Err.fault ∷ c.next.new.self = c.in-Some.ensures.steps ∙ ap (λ x. x ∷ c.next.new.self) c.in-Err.is in
    (c.loop-piece.invariant.found, fault_passed c.args.octets.now given c.next.new.self c.loop-piece.piece-iterator c.in-Err.fault all now c.loop-piece.invariant)

pub returns-in-Err-clause-octets : goal.returns-in-Err-clause-octets
returns-in-Err-clause-octets c = are_octets c.args.octets.now (λ k. (c.type_inv.octets k).fits)

pub returns-clause-octets : goal.returns-clause-octets
returns-clause-octets c = are_octets c.args.octets.now (λ k. (c.type_inv.octets k).fits)

pub returns-clause-fault : goal.returns-clause-fault
returns-clause-fault c =
    let given = c.into_iter-piece-iterator.result in
    let all = subst (AreItemsOf c.args.octets.now) (sym c.into_iter-piece-iterator.ensures.into_iter_gives) (c.of_octets-piece-items.ensures.reads, c.of_octets-piece-items.ensures.within) in
    (c.loop-piece.invariant.found, all_passed c.args.octets.now given c.loop-piece.piece-iterator all c.in-None.ensures.steps.0 c.loop-piece.invariant)
