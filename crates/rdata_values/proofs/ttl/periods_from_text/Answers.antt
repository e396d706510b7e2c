use Rattle.std.proofs.Common.{arith}
use Rattle.rdata_values.proofs.PeriodLemmas.{stops_at_unit, stops_at_sum, stops_at_digit, goes_on_at_unit, goes_on_at_digit, ends, ends_in_number}
use Rattle.rdata_values.proofs.ttl.periods_from_text.Goals as goal
use Rattle.rdata_values.proofs.ttl.periods_from_text.Goals.{in-Some+in_ok-count-in-Some+in_ok-checked_mul-in-Some+in_ok-total-in-Some, in-None+in_ok-with_digit-in-None}

pub returns-in_err-count-in-Some : goal.returns-in_err-count-in-Some
returns-in_err-count-in-Some c =
    let at = c.loop-byte in
    stops_at_unit _ _ _ c.loop-byte-test.true at.count _ c.in-Some.seconds c.in-Some.ensures c.in_err-count-in-Some.was at.invariant c.from_residual.ensures

pub returns-in_err-checked_mul-in-Some : goal.returns-in_err-checked_mul-in-Some
returns-in_err-checked_mul-in-Some c =
    let at = c.loop-byte in
    stops_at_sum _ _ _ c.loop-byte-test.true at.count _ _ c.in-Some.seconds c.in-Some.ensures c.in_ok-count-in-Some.was
    (λ h. c.in_err-checked_mul-in-Some.ensures (omega (arith, h))) at.invariant c.from_residual-in_err-checked_mul-in-Some.ensures

pub returns-in_err-total-in-Some : goal.returns-in_err-total-in-Some
returns-in_err-total-in-Some c =
    let at = c.loop-byte in
    let product = c.in_ok-checked_mul-in-Some.ensures.1 in
    stops_at_sum _ _ _ c.loop-byte-test.true at.count _ _ c.in-Some.seconds c.in-Some.ensures c.in_ok-count-in-Some.was
    (λ h. c.in_err-total-in-Some.ensures (omega (arith, h, product))) at.invariant c.from_residual-in_err-total-in-Some.ensures

pub returns-in_err-with_digit-in-None : goal.returns-in_err-with_digit-in-None
returns-in_err-with_digit-in-None c =
    let at = c.loop-byte in
    stops_at_digit _ _ _ c.loop-byte-test.true at.count _ _ c.in-None.ensures c.unwrap_or.ensures c.in_err-with_digit-in-None.ensures at.invariant c.from_residual-in_err-with_digit-in-None.ensures

pub loop-byte-preserved : goal.loop-byte-preserved
loop-byte-preserved c =
    let at = c.loop-byte in
    elim c.match-seconds_in_unit.branch [
      | in-Some+in_ok-count-in-Some+in_ok-checked_mul-in-Some+in_ok-total-in-Some w ↦
          goes_on_at_unit _ _ _ c.loop-byte-test.true at.count _ w.in-Some.seconds _ _ w.in-Some.ensures w.in_ok-count-in-Some.was
          (let t = w.in_ok-total-in-Some.ensures in let is = w.total-is in omega (arith, t, is))
          (let t = w.in_ok-total-in-Some.ensures in let p = w.in_ok-checked_mul-in-Some.ensures in let is = w.total-is in omega (arith, t.1, p.1, is)) w.count-is at.invariant
      | in-None+in_ok-with_digit-in-None w ↦
          goes_on_at_digit _ _ _ c.loop-byte-test.true at.count _ _ _ _ w.in-None.ensures w.unwrap_or.ensures w.in_ok-with_digit-in-None.ensures w.total-is w.count-is at.invariant
    ]

pub returns-in-Some-count : goal.returns-in-Some-count
returns-in-Some-count c = ends_in_number _ _ _ c.loop-byte-test.false _ _ c.in-Some-count.is c.loop-byte.invariant

pub returns-in-None-count : goal.returns-in-None-count
returns-in-None-count c = ends _ _ _ c.loop-byte-test.false _ c.in-None-count.is c.loop-byte.invariant
