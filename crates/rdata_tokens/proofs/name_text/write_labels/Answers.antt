use Rattle.std.proofs.Common.{◌-◌, ◌∙◌, length, min, refl, sym, ap, arith, rules}
use Rattle.std.proofs.Output.{has_written_append, has_written_of_eq}
use Rattle.std.proofs.lemmas.Bool.{eqb-true, eqb-false}
use Rattle.dns_wire.proofs.Wires.{is_nil}
use Rattle.rdata_tokens.proofs.PrintedLabels.{labels_step, labels_end}
use Rattle.rdata_tokens.proofs.name_text.write_labels.Goals as goal

pub loop-rest-preserved : goal.loop-rest-preserved
loop-rest-preserved g c = λ plain.
    let so_far = c.loop-rest.invariant plain in
    let rest = c.loop-rest.rest.now in
    let written = c.write_next.ensures so_far.1.plain (search rules) in
    let counted = c.min-count.ensures ∙ ap (λ n. min n (length rest - 1)) c.from.ensures in (
      _,
      has_written_append _ _ _ _ _ _ so_far.1 written,
      labels_step rest so_far.0 _ c.min-count.result _ _ _ (omega (arith, eqb-false (length rest) 0 (sym c.loop-rest-test.ensures))) counted refl (omega arith) refl so_far.2,
    )

pub returns : goal.returns
returns g c = λ plain ok.
    let so_far = c.loop-rest.invariant plain in
    let rest = c.loop-rest.rest.now in
    has_written_of_eq _ _ _ _ _ (labels_end rest so_far.0 _ (is_nil rest (eqb-true (length rest) 0 (sym c.loop-rest-test.ensures))) so_far.2) so_far.1
