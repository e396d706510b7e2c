use Rattle.std.proofs.Common.{rules, inl}
use Rattle.std.proofs.lemmas.Result.{err_from_is_err_and}
use Rattle.c_calls.proofs.NumberText.{number_before_more, number_refused}
use Rattle.c_calls.proofs.numbers.read_number.Goals as goal

pub returns-in_err-symbol : goal.returns-in_err-symbol
returns-in_err-symbol c =
    let p = err_from_is_err_and c.from_residual.result c.from_residual.ensures.1 in
    rw (p.1, p.2) (number_refused _ _ _ _ c.in_err-symbol.field-0.0 c.loop-symbol.invariant.read c.in_err-symbol.ensures.refused)

pub returns-in-Err : goal.returns-in-Err
returns-in-Err c =
    let found = rw c.in-Some.is at c.in_ok-symbol.ensures.reads in
    let refused = rw c.in-Err.is at c.with_digit.ensures in
    (c.loop-symbol.value, c.loop-symbol.invariant.read, inl ((c.in-Some.symbol, c.in-Some.after), found, refused))

pub loop-symbol-preserved : goal.loop-symbol-preserved
loop-symbol-preserved c =
    let found = rw c.in-Some.is at c.in_ok-symbol.ensures.reads in
    let added = rw c.in-Ok.is at c.with_digit.ensures in
    record {
      read = number_before_more _ _ _ _ _ _ _ c.loop-symbol.invariant.read found added;
      within = search rules;
    }
