use Rattle.std.proofs.Common.{◌<◌, ◌≤◌, ◌^◌, sym, arith, slice_index}
use Rattle.std.proofs.lemmas.Nat.{one_shl}
use Rattle.dns_codec.proofs.Alphabets.{value-past}
use Rattle.dns_codec.proofs.Values.{value_low, value_high}
use Rattle.dns_codec.proofs.base.value_of.Goals as goal

pub returns-then-code-gt127-clause-value : goal.returns-then-code-gt127-clause-value
returns-then-code-gt127-clause-value g c = sym (value-past g.K.Encoding.base g.met.K.Encoding.known c.args.c (let past = c.if-code-gt127.true in omega arith))

pub returns-then-value-BITS-clause-value : goal.returns-then-value-BITS-clause-value
returns-then-value-BITS-clause-value g c =
    let small : g.K.Encoding.base.width < 8 = let narrow = rw g.met.K.Encoding.shape.bits_are at g.met.K.Encoding.shape.narrow in omega arith in
    let low : slice_index g.K.Encoding.table c.args.c < 2 ^ g.K.Encoding.base.width =
    rw c.values-values.ensures at (rw (c.BITS.ensures, g.met.K.Encoding.shape.bits_are, one_shl g.K.Encoding.base.width 8 small) at c.if-value-BITS.true) in
    rw c.values-values.ensures (sym (value_low g.K.Encoding.base g.K.Encoding.table g.met.K.Encoding.values_are c.args.c (let ascii = c.if-code-gt127.false in omega arith) low))

pub returns-else-value-BITS-clause-value : goal.returns-else-value-BITS-clause-value
returns-else-value-BITS-clause-value g c =
    let small : g.K.Encoding.base.width < 8 = let narrow = rw g.met.K.Encoding.shape.bits_are at g.met.K.Encoding.shape.narrow in omega arith in
    let high : 2 ^ g.K.Encoding.base.width ≤ slice_index g.K.Encoding.table c.args.c =
    rw c.values-values.ensures at (rw (c.BITS.ensures, g.met.K.Encoding.shape.bits_are, one_shl g.K.Encoding.base.width 8 small) at c.if-value-BITS.false) in
    sym (value_high g.K.Encoding.base g.K.Encoding.table g.met.K.Encoding.values_are c.args.c (let ascii = c.if-code-gt127.false in omega arith) high)
