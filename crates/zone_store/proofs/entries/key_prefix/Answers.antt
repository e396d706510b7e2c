use Rattle.std.proofs.Common.{◌≡◌, ℕ, get_or, ◌+◌, ◌*◌, arith, sym, ap, ◌∙◌}
use Rattle.zone_store.specs.Prefixes.{prefix_number}
use Rattle.zone_store.proofs.KeyPrefixes.{prefix_fits, prefix_least, prefix_more, prefix_none}
use Rattle.zone_store.proofs.entries.key_prefix.Goals as goal

pub loop-index-init : goal.loop-index-init
loop-index-init c = sym (prefix_none c.args.key.now)

pub overflow_mul-prefix : goal.overflow_mul-prefix
overflow_mul-prefix c =
    let fits = prefix_fits c.loop-index.index c.args.key.now 0 (λ i. omega (arith, c.type_inv.key i)) (omega (arith, c.loop-index-test.true)) (omega arith) in
    omega (arith, fits, c.loop-index.invariant)

pub overflow_add-prefix : goal.overflow_add-prefix
overflow_add-prefix c =
    let fits = prefix_fits c.loop-index.index c.args.key.now (get_or c.args.key.now c.loop-index.index 0) (λ i. omega (arith, c.type_inv.key i)) (omega (arith, c.loop-index-test.true)) (omega (arith, c.type_inv.key c.loop-index.index)) in
    omega (arith, fits, c.loop-index.invariant, c.octet_or_zero.ensures, c.from.ensures)

pub loop-index-preserved : goal.loop-index-preserved
loop-index-preserved c =
    let more : prefix_number (c.loop-index.index + 1) c.args.key.now ≡ prefix_number c.loop-index.index c.args.key.now * 256 + get_or c.args.key.now c.loop-index.index 0 =
    ap (λ (n : ℕ). prefix_number n c.args.key.now) (omega arith) ∙ prefix_more c.loop-index.index c.args.key.now in
    omega (arith, more, c.loop-index.invariant, c.octet_or_zero.ensures, c.from.ensures)

pub returns-clause-least : goal.returns-clause-least
returns-clause-least c =
    let ends : c.loop-index.index ≡ 7 = omega (arith, c.loop-index-test.false) in
    omega (arith, prefix_least c.args.key.now (λ i. omega (arith, c.type_inv.key i)), c.loop-index.invariant, ap (λ (n : ℕ). prefix_number n c.args.key.now) ends)
