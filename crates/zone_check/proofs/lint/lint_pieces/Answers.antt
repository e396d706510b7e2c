use Rattle.std.proofs.Common.{◌≡◌, ◌∷◌, ◌++◌, length, refl, sym, ap, ◌∙◌, subst, arith, append-nil}
use Rattle.std.specs.Prelude.{Ok, Err}
use Rattle.dns_lexer.specs.Pieces.{ReadsOctets, EachWithin, AreItemsOf}
use Rattle.zone_format.proofs.Follow.{Follows, follow}
use Rattle.zone_check.specs.Lint.{entry_remarks}
use Rattle.zone_check.proofs.Linting.{follows_next, looks_on}
use Rattle.zone_check.proofs.lint.lint_pieces.Goals as goal

pub loop-piece-init : goal.loop-piece-init
loop-piece-init g c =
    let same = c.into_iter-piece-iterator.ensures.into_iter_gives in
    let given = c.of_octets-piece-items.ensures in
    let octets = c.args.octets.now in
    let within = subst (EachWithin (length octets)) (sym same) given.within in
    record {
      within = within;
      follows = follow octets c.into_iter-piece-iterator.result (subst (ReadsOctets octets) (sym same) given.reads) within;
      deep = omega arith;
      told = refl;
    }

pub lint_next-requires-clause-within : goal.lint_next-requires-clause-within
lint_next-requires-clause-within g c =
    let step : c.loop-piece.piece-iterator ≡ Ok c.in-Ok.piece ∷ c.next.new.self = c.in-Some.ensures.steps ∙ ap (λ x. x ∷ c.next.new.self) c.in-Ok.is in
    (subst (EachWithin (length c.args.octets.now)) step c.loop-piece.invariant.within).0

pub lint_next-requires-clause-order : goal.lint_next-requires-clause-order
lint_next-requires-clause-order g c =
    let step : c.loop-piece.piece-iterator ≡ Ok c.in-Ok.piece ∷ c.next.new.self = c.in-Some.ensures.steps ∙ ap (λ x. x ∷ c.next.new.self) c.in-Ok.is in
    (follows_next c.loop-piece.reached.at c.in-Ok.piece c.next.new.self (subst (Follows c.loop-piece.reached.at) step c.loop-piece.invariant.follows)).0

pub lint_next-requires-clause-deep : goal.lint_next-requires-clause-deep
lint_next-requires-clause-deep g c = c.loop-piece.invariant.deep

pub loop-piece-preserved : goal.loop-piece-preserved
loop-piece-preserved g c =
    let step : c.loop-piece.piece-iterator ≡ Ok c.in-Ok.piece ∷ c.next.new.self = c.in-Some.ensures.steps ∙ ap (λ x. x ∷ c.next.new.self) c.in-Ok.is in
    looks_on c.args.octets.now c.into_iter-piece-iterator.result c.args.found.now.items c.loop-piece.piece-iterator c.next.new.self c.in-Ok.piece c.loop-piece.reached _ c.loop-piece.found.items _ step c.in_ok-reached-in-Ok.ensures c.loop-piece.invariant

pub returns-in-Err : goal.returns-in-Err
returns-in-Err g c =
    let same = c.into_iter-piece-iterator.ensures.into_iter_gives in
    let octets = c.args.octets.now in
    let inv = c.loop-piece.invariant in
    let now : c.loop-piece.piece-iterator ≡ Err c.in-Err.field-0 ∷ c.next.new.self = c.in-Some.ensures.steps ∙ ap (λ x. x ∷ c.next.new.self) c.in-Err.is in (
      c.into_iter-piece-iterator.result,
      subst (AreItemsOf octets) (sym same) (c.of_octets-piece-items.ensures.reads, c.of_octets-piece-items.ensures.within),
      sym (append-nil c.loop-piece.found.items) ∙ ap (λ l. c.loop-piece.found.items ++ entry_remarks octets c.loop-piece.reached l) (sym now) ∙ inv.told,
    )

pub returns : goal.returns
returns g c =
    let same = c.into_iter-piece-iterator.ensures.into_iter_gives in
    let octets = c.args.octets.now in
    let inv = c.loop-piece.invariant in
    let over = c.in-None.ensures.steps.0 in (
      c.into_iter-piece-iterator.result,
      subst (AreItemsOf octets) (sym same) (c.of_octets-piece-items.ensures.reads, c.of_octets-piece-items.ensures.within),
      sym (append-nil c.loop-piece.found.items) ∙ ap (λ l. c.loop-piece.found.items ++ entry_remarks octets c.loop-piece.reached l) (sym over) ∙ inv.told,
    )
