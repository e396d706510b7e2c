use Rattle.std.proofs.Common.{refl, inl}
use Rattle.std.proofs.lemmas.Result.{err_from_is_err_and}
use Rattle.rdata.specs.Types.{row_shape}
use Rattle.rdata.proofs.TypeLaws.{generic_typed, generic_mistyped}
use Rattle.rdata.proofs.by_type.read_generic.Goals as goal

pub returns-in_err-parse_generic-clause-reads : goal.returns-in_err-parse_generic-clause-reads
returns-in_err-parse_generic-clause-reads g c =
    let p = err_from_is_err_and c.from_residual.result c.from_residual.ensures.1 in
    rw (p.1, p.2) (inl c.in_err-parse_generic.ensures.takes)

pub returns-then-check_data-clause-reads : goal.returns-then-check_data-clause-reads
returns-then-check_data-clause-reads g c =
    let e = c.shape.ensures in
    rw c.in-Some.is (generic_typed (row_shape c.in-Some.row.now) c.shape.result _ _ _ _ c.as_slice.result.now c.as_slice-begun.result.now (e.fields, e.rest, e.length)
    c.as_slice-begun.ensures.value c.as_slice.ensures.value c.in_ok-parse_generic.ensures.takes (c.if-check_data.ensures.0 refl))

pub returns-else-check_data-clause-reads : goal.returns-else-check_data-clause-reads
returns-else-check_data-clause-reads g c =
    let e = c.shape.ensures in
    rw (c.in-Some.is, c.at.ensures) (generic_mistyped (row_shape c.in-Some.row.now) c.shape.result g.B.OctetsBuilder.room _ c.place-at.result _ _ _ _ c.as_slice.result.now c.as_slice-begun.result.now
    (e.fields, e.rest, e.length) c.as_slice-begun.ensures.value c.as_slice.ensures.value c.place-at.ensures c.in_ok-parse_generic.ensures.takes c.if-check_data.ensures.1)
