use Rattle.std.proofs.lemmas.Result.{on_ok_weaker}
use Rattle.std.proofs.Common.{rules, length, ◌≡◌, ◌<◌, arith}
use Rattle.dns_zone.proofs.Runs.{runs_block}
use Rattle.dns_zone.specs.EntryFields.{contents_of}
use Rattle.dns_zone.proofs.EntryDocuments.{in_line_more, in_line_all}
use Rattle.dns_zone.proofs.entry.EntryLineZonefileFmt.fmt.Goals as goal

pub loop-field-preserved : goal.loop-field-preserved
loop-field-preserved g c =
    let h : c.loop-field.field-index < length c.deref-field-items.result.now = omega arith in
    in_line_more _ _ _ c.deref-field-items.result.now c.loop-field.field-index c.field-item.result _ _ h c.field-item.is c.loop-field.invariant c.in_ok-write_field.ensures.blocks
    c.in_ok-write_field.ensures.gives

pub returns : goal.returns
returns g c =
    let items : contents_of c.deref-field-items.result.now ≡ c.args.self.now = search rules in
    on_ok_weaker c.end_block.result
    (runs_block _ _ _ _ _ _ _ c.in_ok-begin_block.ensures.gives
    (in_line_all _ _ _ c.args.self.now c.deref-field-items.result.now c.loop-field.field-index _ items c.loop-field-test.false c.loop-field.invariant))
    c.end_block.ensures.gives
