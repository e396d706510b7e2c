use Rattle.std.proofs.Common.{◌≡◌, [], ◌∷◌, ◌++◌, ◌∙◌, sym, ap, append_assoc, length, arith}
use Rattle.std.proofs.lemmas.List.{length-append}
use Rattle.std.proofs.lemmas.Result.{err_from_is_err_and}
use Rattle.rdata_svcb.proofs.WireItems.{other_count}
use Rattle.rdata_svcb.proofs.texts.append_item.Goals as goal

pub returns-in_err-rest-clause-fault : goal.returns-in_err-rest-clause-fault
returns-in_err-rest-clause-fault g c =
    let p = err_from_is_err_and c.from_residual-in_err-rest.result c.from_residual-in_err-rest.ensures.1 in
    let counted = c.count_item-count.ensures in
    let lacks = c.in_err-rest.ensures.lacks counted.0 (counted.1, counted.2) in
    let pushed = ap length c.in_ok-append_slice.ensures.ok ∙ length-append (g.B.AsOctets.octets c.args.target.now) (c.count_item-count.result ∷ []) in
    rw (p.1, p.2) (counted.0, counted.1, counted.2, (omega (arith, counted.3), omega (arith, counted.3)), omega (arith, lacks, pushed))

pub returns-clause-ok : goal.returns-clause-ok
returns-clause-ok g c =
    let counted = c.count_item-count.ensures in let copied = c.in_ok-rest.ensures.ok in let old = g.B.AsOctets.octets c.args.target.now in
    let n = other_count c.args.text.now counted.0 counted.1 copied.0 c.in_ok-rest.rest.now counted.2 copied.1 in
    let long : c.count_item-count.result ≡ length copied.0 = counted.3 ∙ sym n in (
      copied.0,
      (omega arith, omega arith),
      copied.1,
      copied.2 ∙ ap (λ x. x ++ copied.0) c.in_ok-append_slice.ensures.ok ∙ append_assoc old (c.count_item-count.result ∷ []) copied.0
          ∙ ap (λ m. old ++ (m ∷ copied.0)) long,
    )
