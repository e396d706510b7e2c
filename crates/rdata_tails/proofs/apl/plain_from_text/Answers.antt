use Rattle.std.proofs.Common.{arith, refl, sym, subst}
use Rattle.rdata_tails.specs.Prefixes.{FindsPlain}
use Rattle.rdata_tails.proofs.PrefixLemmas.{no_colon, no_slash, has_parts, too_many, from_parts, address_bits_le}
use Rattle.rdata_tails.proofs.apl.plain_from_text.Goals as goal

pub returns-in_err-family : goal.returns-in_err-family
returns-in_err-family c = subst (FindsPlain c.args.negated c.args.text.now) (sym c.from_residual.ensures) (λ p h. no_colon c.args.text.now p c.in_err-family.ensures h)

pub returns-in_err-address : goal.returns-in_err-address
returns-in_err-address c =
    let f = c.in_ok-family.family in
    let h = c.in_ok-family.ensures in
    subst (FindsPlain c.args.negated c.args.text.now) (sym c.from_residual-in_err-address.ensures) (λ p k. no_slash c.args.text.now f.before.now f.after.now p h.0 h.1 c.in_err-address.ensures k)

pub returns-in_err-bits : goal.returns-in_err-bits
returns-in_err-bits c =
    let f = c.in_ok-family.family in
    let a = c.in_ok-address.address in
    let h = c.in_ok-family.ensures in
    let j = c.in_ok-address.ensures in
    subst (FindsPlain c.args.negated c.args.text.now) (sym c.from_residual-in_err-bits.ensures)
    (λ p k. let parts = has_parts c.args.text.now f.before.now f.after.now a.before.now a.after.now p h.0 h.1 j.0 j.1 k in
    let most = address_bits_le p.address in
    c.in_err-bits.ensures p.bits (omega (arith, parts.within, most)) parts.bits_are)

pub returns-in_err-address-2 : goal.returns-in_err-address-2
returns-in_err-address-2 c =
    let f = c.in_ok-family.family in
    let a = c.in_ok-address.address in
    let h = c.in_ok-family.ensures in
    let j = c.in_ok-address.ensures in
    subst (FindsPlain c.args.negated c.args.text.now) (sym c.from_residual-in_err-address-2.ensures)
    (λ p k. let parts = has_parts c.args.text.now f.before.now f.after.now a.before.now a.after.now p h.0 h.1 j.0 j.1 k in
    c.in_err-address-2.ensures p.address parts.address_is)

pub returns-then-bits-bits_of : goal.returns-then-bits-bits_of
returns-then-bits-bits_of c = λ p k.
    let f = c.in_ok-family.family in
    let a = c.in_ok-address.address in
    let h = c.in_ok-family.ensures in
    let j = c.in_ok-address.ensures in
    let parts = has_parts c.args.text.now f.before.now f.after.now a.before.now a.after.now p h.0 h.1 j.0 j.1 k in
    let most = c.bits_of.ensures in
    too_many f.before.now a.before.now a.after.now p c.in_ok-address-2.address c.in_ok-bits.bits c.in_ok-address-2.ensures c.in_ok-bits.ensures (omega (arith, c.if-bits-bits_of.true, most)) parts

pub returns : goal.returns
returns c =
    let f = c.in_ok-family.family in
    let a = c.in_ok-address.address in
    let h = c.in_ok-family.ensures in
    let j = c.in_ok-address.ensures in
    let most = c.bits_of.ensures in
    (refl, from_parts c.args.text.now f.before.now f.after.now a.before.now a.after.now _ h.0 j.0 c.in_ok-address-2.ensures c.in_ok-bits.ensures (omega (arith, c.if-bits-bits_of.false, most)))
