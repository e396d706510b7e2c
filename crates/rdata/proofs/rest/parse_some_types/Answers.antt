use Rattle.std.proofs.Common.{ap, length}
use Rattle.std.proofs.lemmas.Result.{err_from_is_err_and}
use Rattle.rdata.specs.TypeLists.{types_form}
use Rattle.rdata.proofs.Namings.{types_once}
use Rattle.rdata.proofs.Somes.{some_taken, some_refused}
use Rattle.rdata.proofs.rest.parse_some_types.Goals as goal

pub returns-in_err-parse_types-clause-takes : goal.returns-in_err-parse_types-clause-takes
returns-in_err-parse_types-clause-takes g c =
    let p = err_from_is_err_and c.from_residual.result c.from_residual.ensures.1 in
    rw (p.1, p.2) (some_refused types_form g.B.OctetsBuilder.room _ _ _ c.in_err-parse_types.field-0.0 _ _ c.in_err-parse_types.ensures.takes)

pub returns-clause-takes : goal.returns-clause-takes
returns-clause-takes g c =
    some_taken types_form g.B.OctetsBuilder.room _ _ _ c.want_more.result _ _ _ _ (types_once _) (ap (λ e. e.at) c.parse_types.ensures.end) (ap length c.as_slice-length.ensures.value) c.in_ok-parse_types.ensures.takes c.want_more.ensures
