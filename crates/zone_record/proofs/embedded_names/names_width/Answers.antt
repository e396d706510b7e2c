use Rattle.std.proofs.Common.{sym, subst, length, ◌≤◌, ◌∙◌, refl}
use Rattle.rdata_tokens.proofs.FormLaws.{slice_values}
use Rattle.zone_record.proofs.UntextedNames.{behind, walk_none, walk_failed, walk_more, walk_done, size_behind}
use Rattle.zone_record.proofs.embedded_names.names_width.Goals as goal

pub loop-init : goal.loop-init
loop-init c = walk_none c.args.names c.args.octets.now

pub returns-in_err-width-clause-size : goal.returns-in_err-width-clause-size
returns-in_err-width-clause-size c =
    let octets = c.args.octets.now in
    let found = size_behind octets c.loop.width _ c.name_width.result (slice_values octets (λ k. (c.type_inv.octets k).fits)) refl c.name_width.ensures in
    c.from_residual.ensures ∙ walk_failed c.args.names c.loop.counter c.loop.width octets c.loop.invariant c.loop-test.true (sym (c.in_err-width.was) ∙ found)

pub loop-preserved : goal.loop-preserved
loop-preserved c =
    let octets = c.args.octets.now in
    let found = size_behind octets c.loop.width _ c.name_width.result (slice_values octets (λ k. (c.type_inv.octets k).fits)) refl c.name_width.ensures in
    walk_more c.args.names c.loop.counter c.loop.width c.in_ok-width.field-0 octets c.loop.invariant c.loop-test.true (sym c.in_ok-width.was ∙ found)
    (subst (λ o. c.in_ok-width.field-0 ≤ length o) (behind c.loop.width _ octets refl) c.in_ok-width.ensures.0)

pub returns-clause-size : goal.returns-clause-size
returns-clause-size c = walk_done c.args.names c.loop.counter c.loop.width c.args.octets.now c.loop.invariant c.loop-test.false
