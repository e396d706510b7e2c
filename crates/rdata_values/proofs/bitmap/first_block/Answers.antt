use Rattle.std.proofs.Common.{◌+◌, ◌-◌, arith}
use Rattle.rdata_values.proofs.Taking.{split_block, block_data}
use Rattle.rdata_values.proofs.bitmap.first_block.Goals as goal

pub returns-clause-cases : goal.returns-clause-cases
returns-clause-cases c =
    let n = c.from-count.result in let xs = c.args.octets.now in (
      split_block xs n (2 + n - 2) (2 + n) (omega arith) (omega arith) (omega arith) (omega (arith, c.from-count.ensures)),
      omega arith,
      block_data xs n (2 + n - 2) (omega arith) (omega arith) (omega arith) (omega arith) c.if-octets-count-eq0.false (λ k. omega (arith, c.type_inv.octets k)),
    )
