use Rattle.std.proofs.Common.{sym, subst}
use Rattle.rdata_tails.specs.Decimals.{FindsDecimal}
use Rattle.rdata_tails.proofs.DecimalLemmas.{plain_none, around_whole, around_part}
use Rattle.rdata_tails.proofs.decimal.decimal_from_text.Goals as goal

pub returns-in_err-whole-clause-found : goal.returns-in_err-whole-clause-found
returns-in_err-whole-clause-found c =
    subst (FindsDecimal c.args.places c.args.text.now) (sym c.from_residual.ensures) (plain_none c.args.places c.args.text.now c.in_default.ensures c.in_err-whole.ensures)

pub returns-in_err-whole-2-clause-found : goal.returns-in_err-whole-2-clause-found
returns-in_err-whole-2-clause-found c =
    let p = c.in-Some.parts in
    let h = c.in-Some.ensures in
    subst (FindsDecimal c.args.places c.args.text.now) (sym c.from_residual-in_err-whole-2.ensures) (around_whole c.args.places c.args.text.now p.before.now p.after.now h.0 h.1 c.in_err-whole-2.ensures)

pub returns-in_err-part-clause-found : goal.returns-in_err-part-clause-found
returns-in_err-part-clause-found c =
    let p = c.in-Some.parts in
    let h = c.in-Some.ensures in
    subst (FindsDecimal c.args.places c.args.text.now) (sym c.from_residual-in_err-part.ensures) (λ n few own. around_part c.args.places c.args.text.now p.before.now p.after.now h.0 h.1 c.in_err-part.ensures.part n own)
