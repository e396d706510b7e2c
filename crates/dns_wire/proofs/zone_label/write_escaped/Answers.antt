use Rattle.std.proofs.Common.{◌≡◌, ◌++◌, ◌∙◌, rules}
use Rattle.std.specs.Slice.Iter.{chunks_rest}
use Rattle.std.proofs.Output.{has_written_append}
use Rattle.dns_wire.specs.ZoneText.{zone_label}
use Rattle.dns_wire.proofs.ZoneLabels.{label_block}
use Rattle.dns_wire.proofs.zone_label.write_escaped.Goals as goal

pub ascii_text-requires : goal.ascii_text-requires
ascii_text-requires g c = rw c.put_zone_octets-len.ensures.text c.put_zone_octets-len.ensures.ascii

pub loop-block-preserved : goal.loop-block-preserved
loop-block-preserved g c =
    let steps = c.in-Some.ensures.steps in
    let block = c.in-Some.block.now in
    let shown : c.ascii_text.result.now ≡ zone_label block = c.ascii_text.ensures ∙ c.put_zone_octets-len.ensures.text in (
      search rules,
      tt,
      steps.0 ∙ c.loop-block.invariant.2,
      c.put_zone_octets-len.auto.text ∙ c.loop-block.invariant.3,
      λ plain.
          let so_far = c.loop-block.invariant.4 plain in (
            so_far.0 ++ c.ascii_text.result.now,
            has_written_append _ _ _ _ _ _ so_far.1 (search rules),
            label_block _ block (chunks_rest c.next.new.self) c.ascii_text.result.now so_far.0 steps.1.0 shown ∙ so_far.2,
          ),
    )
