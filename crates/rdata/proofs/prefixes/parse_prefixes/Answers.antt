use Rattle.std.proofs.Common.{refl, ◌∙◌, sym, ap}
use Rattle.std.proofs.lemmas.Result.{err_from_is_err_and}
use Rattle.rdata_fields.proofs.Tokens.{none_left}
use Rattle.rdata.specs.PrefixLists.{prefix_form}
use Rattle.rdata.proofs.PrefixListLaws.{prefix_once}
use Rattle.rdata.proofs.Sources.{some_left}
use Rattle.rdata.proofs.TokenRests.{none_yet, each_more, all_each, each_refused}
use Rattle.rdata.proofs.prefixes.parse_prefixes.Goals as goal

pub loop-source-init : goal.loop-source-init
loop-source-init g c = record { taken = none_yet prefix_form _ _; end = refl }

pub loop-source-preserved : goal.loop-source-preserved
loop-source-preserved g c = record {
  taken = each_more prefix_form _ _ _ _ _ _ c.loop-source.invariant.taken c.in_ok-parse_prefix.ensures.takes;
  end = c.parse_prefix.ensures.end ∙ c.loop-source.invariant.end;
}

pub returns-in_err-parse_prefix-clause-takes : goal.returns-in_err-parse_prefix-clause-takes
returns-in_err-parse_prefix-clause-takes g c =
    let p = err_from_is_err_and c.from_residual.result c.from_residual.ensures.1 in
    let some = some_left c.current.result (g.S.TokenSource.left c.loop-source.source) c.current.ensures (sym c.is_some.ensures ∙ c.loop-source-test.true) in
    rw (p.1, p.2) (each_refused prefix_form prefix_once g.B.OctetsBuilder.room _ _ _ _ _ _ _ _ c.in_err-parse_prefix.field-0.0 c.loop-source.invariant.taken (ap (λ e. e.at) c.loop-source.invariant.end) some c.in_err-parse_prefix.ensures.takes)

pub returns-clause-takes : goal.returns-clause-takes
returns-clause-takes g c =
    let none = none_left c.current.result (g.S.TokenSource.left c.loop-source.source) c.current.ensures (sym c.is_some.ensures ∙ c.loop-source-test.false) in
    (none, all_each prefix_form _ _ _ _ c.loop-source.invariant.taken none)
