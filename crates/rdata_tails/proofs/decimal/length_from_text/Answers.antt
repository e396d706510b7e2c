use Rattle.std.proofs.Common.{rules}
use Rattle.rdata_tails.proofs.DecimalLemmas.{empty, length_plain, length_marked, length_trailing}
use Rattle.rdata_tails.proofs.decimal.length_from_text.Goals as goal

pub returns-in-None-clause-found : goal.returns-in-None-clause-found
returns-in-None-clause-found c = length_plain c.args.text.now c.decimal_from_text.result c.in-None.ensures c.decimal_from_text.ensures.found

pub returns-in-Some-clause-found : goal.returns-in-Some-clause-found
returns-in-Some-clause-found c =
    let p = c.in-Some.parts in
    let h = c.in-Some.ensures in
    length_marked c.args.text.now p.before.now p.after.now c.decimal_from_text-in-Some.result h.0 h.1 (empty p.after.now (search rules)) c.decimal_from_text-in-Some.ensures.found

pub returns-in-Some-2-clause-found : goal.returns-in-Some-2-clause-found
returns-in-Some-2-clause-found c =
    let p = c.in-Some-2.field-0 in
    let h = c.in-Some-2.ensures in
    λ n few own. length_trailing c.args.text.now p.before.now p.after.now n h.0 h.1 (search rules) own
