use Rattle.std.proofs.Common.{◌≡◌, ◌++◌, ◌∷◌, [], length, refl, sym, ap, ◌∙◌, subst, arith, append-nil}
use Rattle.std.specs.Prelude.{Some, None, Err}
use Rattle.dns_lexer.specs.Pieces.{ReadsOctets, EachWithin, AreItemsOf}
use Rattle.zonetext_lib.specs.Tokens.{rows_after}
use Rattle.zone_format.proofs.Givens.{first_fault, pieces_in, whole_of}
use Rattle.zonetext_lib.proofs.Givens.{fault_of}
use Rattle.zonetext_lib.proofs.Order.{InOrder, in_order}
use Rattle.zonetext_lib.proofs.tokens.tokens.Goals as goal

pub loop-piece-init : goal.loop-piece-init
loop-piece-init g c =
    let same = c.into_iter-piece-iterator.ensures.into_iter_gives in
    let given = c.of_octets-piece-items.ensures in
    let octets = c.args.octets.now in
    let within = subst (EachWithin (length octets)) (sym same) given.within in
    record {
      fault = refl;
      within = within;
      order = in_order octets c.into_iter-piece-iterator.result (subst (ReadsOctets octets) (sym same) given.reads) within;
      place = record { within = omega arith; is = c.position_after.ensures; narrow = omega (arith, c.position_after.ensures.1) };
      rows = refl;
    }

pub locate-requires-clause-fault : goal.locate-requires-clause-fault
locate-requires-clause-fault g c =
    let same = c.into_iter-piece-iterator.ensures.into_iter_gives in
    let given = c.of_octets-piece-items in
    let now : c.loop-piece.piece-iterator ≡ c.in-Some.piece ∷ c.next.new.self = c.in-Some.ensures.steps in
    let first : first_fault c.into_iter-piece-iterator.result ≡ Some c.in-Err.fault = sym c.loop-piece.invariant.fault ∙ ap first_fault now ∙ ap (λ x. first_fault (x ∷ c.next.new.self)) c.in-Err.is in
    fault_of c.args.octets.now c.into_iter-piece-iterator.result c.in-Err.fault (subst (ReadsOctets c.args.octets.now) (sym same) given.ensures.reads)
    (subst (EachWithin (length c.args.octets.now)) (sym same) given.ensures.within) first

pub returns-in-Err-clause-rows : goal.returns-in-Err-clause-rows
returns-in-Err-clause-rows g c =
    let same = c.into_iter-piece-iterator.ensures.into_iter_gives in
    let octets = c.args.octets.now in
    let inv = c.loop-piece.invariant in
    let now : c.loop-piece.piece-iterator ≡ Err c.in-Err.fault ∷ c.next.new.self = c.in-Some.ensures.steps ∙ ap (λ x. x ∷ c.next.new.self) c.in-Err.is in
    let over : c.next.new.self ≡ [] = subst (InOrder c.loop-piece.place.at) now inv.order in
    let left : rows_after octets c.args.lines_before c.args.form c.loop-piece.ended c.loop-piece.piece-iterator ≡ [] =
    ap (rows_after octets c.args.lines_before c.args.form c.loop-piece.ended) (now ∙ ap (λ l. Err c.in-Err.fault ∷ l) over) in (
      c.into_iter-piece-iterator.result,
      subst (AreItemsOf octets) (sym same) (c.of_octets-piece-items.ensures.reads, c.of_octets-piece-items.ensures.within),
      sym (append-nil c.loop-piece.out.items) ∙ ap (λ l. c.loop-piece.out.items ++ l) (sym left) ∙ inv.rows,
    )

pub returns-clause-well : goal.returns-clause-well
returns-clause-well g c =
    let same = c.into_iter-piece-iterator.ensures.into_iter_gives in
    let given = c.of_octets-piece-items in
    let none : first_fault c.into_iter-piece-iterator.result ≡ None = sym c.loop-piece.invariant.fault ∙ ap first_fault c.in-None.ensures.steps.0 in
    (pieces_in c.into_iter-piece-iterator.result, whole_of c.args.octets.now c.into_iter-piece-iterator.result (subst (ReadsOctets c.args.octets.now) (sym same) given.ensures.reads) none)
