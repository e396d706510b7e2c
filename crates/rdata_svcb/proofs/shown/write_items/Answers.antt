use Rattle.std.proofs.Common.{◌<◌, length, take, refl, sym, arith, rules}
use Rattle.std.proofs.Output.{has_written_append, has_written_of_eq}
use Rattle.std.proofs.lemmas.Bool.{eqb-true, eqb-false}
use Rattle.rdata_svcb.specs.ShownParams.{comma_if, items_text}
use Rattle.rdata_svcb.proofs.ShownItems.{next_item, last_item, no_octets}
use Rattle.rdata_svcb.proofs.shown.write_items.Goals as goal

pub loop-rest-preserved : goal.loop-rest-preserved
loop-rest-preserved g c = λ plain.
    let so_far = c.loop-rest.invariant plain in
    let rest = c.loop-rest.rest.now in let kind = c.args.kind in
    let some : 0 < length rest = omega (arith, eqb-false (length rest) 0 (sym c.loop-rest-test.ensures)) in
    let written = c.write_next.ensures so_far.1.plain (search rules) in (
      _,
      has_written_append _ _ _ _ _ _ so_far.1 written,
      next_item kind rest so_far.0 (items_text kind c.args.value.now) (comma_if c.loop-rest.is_later) (take c.width_of-width.result rest) c.width_of-width.result some c.width_of-width.ensures.width refl so_far.2,
    )

pub returns : goal.returns
returns g c = λ plain ok.
    let so_far = c.loop-rest.invariant plain in
    let rest = c.loop-rest.rest.now in
    has_written_of_eq _ _ _ _ _ (last_item c.args.kind rest so_far.0 _ (comma_if c.loop-rest.is_later) (no_octets rest (eqb-true (length rest) 0 (sym c.loop-rest-test.ensures))) so_far.2) so_far.1
