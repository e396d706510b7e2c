use Rattle.std.proofs.Common.{refl}
use Rattle.rdata_values.proofs.Registries.{found, passed}
use Rattle.rdata_values.proofs.registry.find_code.Goals as goal

pub returns-then-eq_ignore_ascii_case : goal.returns-then-eq_ignore_ascii_case
returns-then-eq_ignore_ascii_case c =
    found c.args.table.now c.args.text.now c.as_bytes.result.now c.loop-row.row-index _ c.loop-row-test.true c.as_bytes.ensures.value c.loop-row.invariant c.args.prefix.now c.args.most (c.if-eq_ignore_ascii_case.ensures.test.0 refl)

pub loop-row-preserved : goal.loop-row-preserved
loop-row-preserved c =
    passed c.args.table.now c.args.text.now c.as_bytes.result.now c.loop-row.row-index _ c.loop-row-test.true c.as_bytes.ensures.value c.loop-row.invariant (λ same. let wrong = c.if-eq_ignore_ascii_case.ensures.test.1 same in cc)
