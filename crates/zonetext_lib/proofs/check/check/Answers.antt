use Rattle.std.proofs.Common.{◌≡◌, ◌∷◌, length, sym, ap, ◌∙◌, subst}
use Rattle.std.specs.Prelude.{Some, None}
use Rattle.dns_lexer.specs.Pieces.{ReadsOctets, EachWithin}
use Rattle.zone_format.proofs.Givens.{first_fault, pieces_in, whole_of}
use Rattle.zonetext_lib.proofs.Givens.{fault_of}
use Rattle.zonetext_lib.proofs.check.check.Goals as goal

pub locate-requires-clause-fault : goal.locate-requires-clause-fault
locate-requires-clause-fault c =
    let same = c.into_iter-piece-iterator.ensures.into_iter_gives in
    let given = c.of_octets-piece-items in
    let now : c.loop-piece.piece-iterator ≡ c.in-Some.piece ∷ c.next.new.self = c.in-Some.ensures.steps in
    let first : first_fault c.into_iter-piece-iterator.result ≡ Some c.in-Err.fault = sym c.loop-piece.invariant ∙ ap first_fault now ∙ ap (λ x. first_fault (x ∷ c.next.new.self)) c.in-Err.is in
    fault_of c.args.octets.now c.into_iter-piece-iterator.result c.in-Err.fault (subst (ReadsOctets c.args.octets.now) (sym same) given.ensures.reads)
    (subst (EachWithin (length c.args.octets.now)) (sym same) given.ensures.within) first

pub returns-clause-well : goal.returns-clause-well
returns-clause-well c =
    let same = c.into_iter-piece-iterator.ensures.into_iter_gives in
    let given = c.of_octets-piece-items in
    let none : first_fault c.into_iter-piece-iterator.result ≡ None = sym c.loop-piece.invariant ∙ ap first_fault c.in-None.ensures.steps.0 in
    (pieces_in c.into_iter-piece-iterator.result, whole_of c.args.octets.now c.into_iter-piece-iterator.result (subst (ReadsOctets c.args.octets.now) (sym same) given.ensures.reads) none)
