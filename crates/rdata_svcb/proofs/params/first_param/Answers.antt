use Rattle.std.proofs.Common.{◌+◌, ◌-◌, ◌∙◌, take, drop, length, arith}
use Rattle.std.proofs.lemmas.List.{length-take-le, length-drop}
use Rattle.rdata_svcb.proofs.Reading.{no_param_short, no_param_cut, split_param}
use Rattle.rdata_svcb.proofs.ParamLists.{short_list, none_of, next_is}
use Rattle.rdata_svcb.proofs.params.first_param.Goals as goal

pub returns-then-octets-lt4-clause-cases : goal.returns-then-octets-lt4-clause-cases
returns-then-octets-lt4-clause-cases c = λ key value rest fit e. omega (arith, no_param_short c.args.octets.now key value rest e)

pub returns-then-octets-count-clause-cases : goal.returns-then-octets-count-clause-cases
returns-then-octets-count-clause-cases c = λ key value rest fit e.
    omega (arith, no_param_cut c.args.octets.now c.from-count.result key value rest (c.from-count.ensures ∙ c.from_be_bytes.ensures) fit e)

pub returns-clause-cases : goal.returns-clause-cases
returns-clause-cases c =
    let n = c.from-count.result in let xs = c.args.octets.now in (
      split_param xs c.from_be_bytes-key.result n (4 + n - 4) (4 + n) (λ i. omega (arith, c.type_inv.octets i)) (omega arith) (omega arith) (omega arith)
          c.from_be_bytes-key.ensures (c.from-count.ensures ∙ c.from_be_bytes.ensures),
      omega arith,
      omega (arith, length-take-le (4 + n - 4) (drop 4 xs) (omega (arith, length-drop 4 xs))),
    )

pub returns-then-octets-lt4-clause-list : goal.returns-then-octets-lt4-clause-list
returns-then-octets-lt4-clause-list c = short_list _ c.args.octets.now (omega arith)

pub returns-then-octets-count-clause-list : goal.returns-then-octets-count-clause-list
returns-then-octets-count-clause-list c =
    none_of c.args.octets.now (λ i. omega (arith, c.type_inv.octets i))
    (λ key value rest fit e. omega (arith, no_param_cut c.args.octets.now c.from-count.result key value rest (c.from-count.ensures ∙ c.from_be_bytes.ensures) fit e))

pub returns-clause-list : goal.returns-clause-list
returns-clause-list c =
    let n = c.from-count.result in let xs = c.args.octets.now in
    next_is xs (take (length xs - (4 + n)) (drop (4 + n) xs)) (take (4 + n - 4) (drop 4 xs)) c.from_be_bytes-key.result
    (split_param xs c.from_be_bytes-key.result n (4 + n - 4) (4 + n) (λ i. omega (arith, c.type_inv.octets i)) (omega arith) (omega arith) (omega arith)
    c.from_be_bytes-key.ensures (c.from-count.ensures ∙ c.from_be_bytes.ensures))
    (omega arith) (omega (arith, length-take-le (4 + n - 4) (drop 4 xs) (omega (arith, length-drop 4 xs))))
