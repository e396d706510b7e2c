use Rattle.std.proofs.Common.{◌∙◌, sym, ap}
use Rattle.rdata_fields.proofs.Tokens.{none_left}
use Rattle.rdata_fields.proofs.Takings.{some_more, some_all, some_refused, refused_with}
use Rattle.rdata_fields.proofs.parsing.parse_each.Goals as goal

pub returns-in_err-parse_field-clause-takes : goal.returns-in_err-parse_field-clause-takes
returns-in_err-parse_field-clause-takes g c =
    let refused = some_refused _ c.args.field _ _ g.B.OctetsBuilder.room _ _ _ _ _ _ c.in_err-parse_field.field-0.0 (ap (λ e. e.at) c.loop-field.invariant.end) c.loop-field.invariant.taken c.in_err-parse_field.ensures.takes in
    refused_with _ c.args.field _ _ g.B.OctetsBuilder.room _ _ _ c.from_residual.result _ c.from_residual.ensures.1 refused

pub loop-field-preserved : goal.loop-field-preserved
loop-field-preserved g c = record {
  taken = some_more _ c.args.field _ _ _ _ _ _ c.loop-field.invariant.taken c.in_ok-parse_field.ensures.takes;
  end = c.parse_field.ensures.end ∙ c.loop-field.invariant.end;
}

pub returns-clause-takes : goal.returns-clause-takes
returns-clause-takes g c =
    let none = none_left c.current.result (g.S.TokenSource.left c.loop-field.source) c.current.ensures (sym c.is_some.ensures ∙ c.loop-field-test.false) in
    (none, some_all _ c.args.field _ _ _ _ none c.loop-field.invariant.taken)
