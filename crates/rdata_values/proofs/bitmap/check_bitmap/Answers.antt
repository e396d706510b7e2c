use Rattle.std.proofs.Common.{length, ◌+◌, ℕ, sym, ap, subst, arith}
use Rattle.std.proofs.lemmas.Bool.{eqb-true, eqb-false}
use Rattle.std.proofs.lemmas.Result.{err_from_is_err_and}
use Rattle.rdata_values.proofs.Taking.{no_order, no_bitmap, nothing_left}
use Rattle.rdata_values.proofs.Faults.{ChecksBlocks, checks_none, checks_more, is_bitmap, goes_wrong, order_wrong}
use Rattle.rdata_values.proofs.bitmap.check_bitmap.Goals as goal

pub loop-rest-init : goal.loop-rest-init
loop-rest-init c = checks_none c.args.octets.now

pub returns-in_err-block-clause-err : goal.returns-in_err-block-clause-err
returns-in_err-block-clause-err c =
    let p = err_from_is_err_and c.from_residual.result c.from_residual.ensures.1 in
    let h = c.loop-rest.invariant in
    rw p.1 (λ is. no_bitmap c.args.octets.now h.types c.loop-rest.rest.now is.0 c.loop-rest.next h.reads (λ e. eqb-false (length c.loop-rest.rest.now) 0 (sym c.loop-rest-test.ensures) (ap length e)) c.in_err-block.ensures.cases is.1)

pub returns-in_err-block-clause-wrong : goal.returns-in_err-block-clause-wrong
returns-in_err-block-clause-wrong c =
    let p = err_from_is_err_and c.from_residual.result c.from_residual.ensures.1 in
    rw p.1 (rw p.2 (goes_wrong c.args.octets.now c.loop-rest.rest.now c.loop-rest.next _ c.loop-rest.invariant c.in_err-block.ensures.wrong))

pub returns-then-from-next-clause-err : goal.returns-then-from-next-clause-err
returns-then-from-next-clause-err c = λ is.
    let h = c.loop-rest.invariant in
    no_order c.args.octets.now h.types c.loop-rest.rest.now c.in_ok-block.block.octets.now c.in_ok-block.block.rest.now is.0
    c.loop-rest.next c.in_ok-block.block.window h.reads (omega (arith, c.from.ensures)) c.in_ok-block.ensures.cases.0 is.1

pub returns-then-from-next-clause-wrong : goal.returns-then-from-next-clause-wrong
returns-then-from-next-clause-wrong c =
    order_wrong c.args.octets.now c.loop-rest.rest.now c.in_ok-block.block.octets.now c.in_ok-block.block.rest.now c.loop-rest.next c.in_ok-block.block.window c.loop-rest.invariant
    (omega (arith, c.from.ensures)) c.in_ok-block.ensures.cases.2 c.in_ok-block.ensures.cases.0

pub loop-rest-preserved : goal.loop-rest-preserved
loop-rest-preserved c =
    let b = c.in_ok-block.block in
    let P : ℕ → Type 0 = λ n. ChecksBlocks c.args.octets.now b.rest.now (n + 1) in
    subst P (sym c.from-next.ensures) (checks_more c.args.octets.now c.loop-rest.rest.now b.rest.now b.octets.now
    c.loop-rest.next b.window c.loop-rest.invariant (omega (arith, c.from.ensures)) c.in_ok-block.ensures.cases.1 c.in_ok-block.ensures.cases.2 c.in_ok-block.ensures.cases.0)

pub returns-clause-ok : goal.returns-clause-ok
returns-clause-ok c = is_bitmap c.args.octets.now c.loop-rest.rest.now c.loop-rest.next c.loop-rest.invariant (nothing_left c.loop-rest.rest.now (eqb-true (length c.loop-rest.rest.now) 0 (sym c.loop-rest-test.ensures)))
