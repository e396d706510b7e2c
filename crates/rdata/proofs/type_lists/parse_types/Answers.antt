use Rattle.std.proofs.Common.{refl, ◌∙◌, sym, ap}
use Rattle.std.proofs.lemmas.Result.{err_from_is_err_and}
use Rattle.rdata_fields.proofs.Tokens.{none_left}
use Rattle.rdata.proofs.Namings.{none_named, more_named, types_gained, types_lack, insert_refused}
use Rattle.rdata.proofs.Sources.{some_left}
use Rattle.rdata.proofs.type_lists.parse_types.Goals as goal

pub loop-types-init : goal.loop-types-init
loop-types-init g c = record { named = none_named _ _ c.new-types.ensures; end = refl }

pub loop-types-preserved : goal.loop-types-preserved
loop-types-preserved g c = record {
  named = more_named _ _ _ _ _ c.loop-types.invariant.named c.in_ok-insert_next.ensures.inserts;
  end = c.insert_next.ensures.end ∙ c.loop-types.invariant.end;
}

pub returns-in_err-insert_next-clause-takes : goal.returns-in_err-insert_next-clause-takes
returns-in_err-insert_next-clause-takes g c =
    let p = err_from_is_err_and c.from_residual.result c.from_residual.ensures.1 in
    let some = some_left c.current.result (g.S.TokenSource.left c.loop-types.source) c.current.ensures (sym c.is_some.ensures ∙ c.loop-types-test.true) in
    rw (p.1, p.2) (insert_refused g.B.OctetsBuilder.room _ _ _ _ _ _ _ _ c.in_err-insert_next.field-0.0 c.loop-types.invariant.named (ap (λ e. e.at) c.loop-types.invariant.end) some c.in_err-insert_next.ensures.inserts)

pub returns-in-Err-clause-takes : goal.returns-in-Err-clause-takes
returns-in-Err-clause-takes g c =
    let none = none_left c.current.result (g.S.TokenSource.left c.loop-types.source) c.current.ensures (sym c.is_some.ensures ∙ c.loop-types-test.false) in
    rw (c.at.ensures, c.from.ensures) (types_lack g.B.OctetsBuilder.room _ _ _ _ _ _ _ c.place.result c.loop-types.invariant.named none (ap (λ e. e.at) c.loop-types.invariant.end) c.place.ensures c.in-Err.ensures.lacks c.in-Err.ensures.err)

pub returns-clause-takes : goal.returns-clause-takes
returns-clause-takes g c =
    let none = none_left c.current.result (g.S.TokenSource.left c.loop-types.source) c.current.ensures (sym c.is_some.ensures ∙ c.loop-types-test.false) in
    (none, types_gained _ _ _ _ _ c.loop-types.invariant.named none c.in_default.ensures.ok)
