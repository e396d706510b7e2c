use Rattle.std.proofs.Common.{◌++◌, ◌+◌, drop, sym, ap, ◌∙◌}
use Rattle.std.proofs.lemmas.List.{append_assoc}
use Rattle.dns_octets.specs.Appending.{Extends}
use Rattle.zone_edit.specs.Edits.{edit_texts}
use Rattle.zone_edit.proofs.Applying.{extends_same, when_err}
use Rattle.zone_edit.proofs.Opening.{rest_of}
use Rattle.zone_edit.proofs.editor.append_texts.Goals as goal

pub loop-edit-preserved : goal.loop-edit-preserved
loop-edit-preserved g c =
    let edits = c.args.edits.now in
    let i = c.loop-edit.edit-index in
    let e = c.edit-item.result in
    let old = c.loop-edit.out.items in
    let more = drop (i + 1) edits in
    let next = rest_of edits i e e c.loop-edit-test.true c.edit-item.is in
    let made = c.in_ok-extend_from_slice.ensures.items ∙ ap (λ t. old ++ t) c.as_slice.ensures.value in
    let front = c.loop-edit.invariant.extends in
    record {
      made = ap (λ l. l ++ edit_texts more) made ∙ append_assoc old e.text.items (edit_texts more) ∙ ap (λ l. old ++ edit_texts l) (sym next) ∙ c.loop-edit.invariant.made;
      extends = (front.0 ++ e.text.items, made ∙ ap (λ l. l ++ e.text.items) front.1 ∙ append_assoc c.args.out.now.items front.0 e.text.items);
    }

pub returns-in_err-extend_from_slice-clause-err : goal.returns-in_err-extend_from_slice-clause-err
returns-in_err-extend_from_slice-clause-err g c =
    when_err (Extends c.args.out.now.items c.extend_from_slice.new.self.items) c.from_residual.result
    (extends_same c.args.out.now.items c.loop-edit.out.items c.extend_from_slice.new.self.items c.loop-edit.invariant.extends c.in_err-extend_from_slice.ensures.items)
