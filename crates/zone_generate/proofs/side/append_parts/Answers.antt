use Rattle.std.proofs.Common.{◌++◌, length, refl, sym, subst}
use Rattle.std.specs.Prelude.{◌<◌, ◌+◌}
use Rattle.zone_generate.specs.Parts.{written_part, side_parts, parts_or_none, side_text}
use Rattle.zone_generate.proofs.Appends.{extends_all, extends_on, when_err}
use Rattle.zone_generate.proofs.PartSteps.{TextLeft, rest_read, rest_within, text_ended, text_lacks, text_next, text_rejected}
use Rattle.zone_generate.proofs.side.append_parts.Goals as goal

pub loop-at-preserved : goal.loop-at-preserved
loop-at-preserved g c =
    let octets = g.B.AsOctets.octets in
    let a = c.args in
    let l = c.loop-at in
    let p = c.in-Ok.part in
    let old = octets a.out.now in
    let new = octets c.append_part.new.out in
    let whole = side_text a.number (parts_or_none (side_parts a.last a.is_quoted a.text.now)) in
    let made = c.in_ok-append_part-in-Ok.ensures.made in
    let inside = c.in-Ok.ensures.within in
    let is = rest_read a.last a.is_quoted l.has_offset a.text.now l.at c.read_part.result _ c.read_part.ensures.value c.in-Ok.is in
    record {
      within = rest_within a.text.now l.at p.len l.invariant.within inside.1;
      left = subst (λ o. TextLeft a.last a.is_quoted o a.text.now (l.at + p.len) a.number new (old ++ whole)) (sym c.offset_after-has_offset.ensures)
          (text_next a.last a.is_quoted l.has_offset a.text.now l.at a.number (octets l.out) (old ++ whole) c.loop-at-test.true p new inside.0 is made l.invariant.left);
      extends = extends_on old (octets l.out) new (written_part a.number p.part) l.invariant.extends made;
    }

pub unreachable-requires : goal.unreachable-requires
unreachable-requires g c =
    let octets = g.B.AsOctets.octets in
    let a = c.args in
    let l = c.loop-at in
    let whole = side_text a.number (parts_or_none (side_parts a.last a.is_quoted a.text.now)) in
    let is = rest_read a.last a.is_quoted l.has_offset a.text.now l.at c.read_part.result _ c.read_part.ensures.value c.in-Err.is in
    text_rejected a.last a.is_quoted l.has_offset a.text.now l.at a.number (octets l.out) (octets a.out.now ++ whole) c.loop-at-test.true c.in-Err.field-0 is l.invariant.left

pub returns-clause-made : goal.returns-clause-made
returns-clause-made g c =
    let octets = g.B.AsOctets.octets in
    let a = c.args in
    let l = c.loop-at in
    let whole = side_text a.number (parts_or_none (side_parts a.last a.is_quoted a.text.now)) in
    text_ended a.last a.is_quoted l.has_offset a.text.now l.at a.number (octets l.out) (octets a.out.now ++ whole) c.loop-at-test.false l.invariant.left

pub returns-in_err-append_part-in-Ok-clause-fits : goal.returns-in_err-append_part-in-Ok-clause-fits
returns-in_err-append_part-in-Ok-clause-fits g c =
    let octets = g.B.AsOctets.octets in
    let a = c.args in
    let l = c.loop-at in
    let p = c.in-Ok.part in
    let old = octets a.out.now in
    let whole = side_text a.number (parts_or_none (side_parts a.last a.is_quoted a.text.now)) in
    let is = rest_read a.last a.is_quoted l.has_offset a.text.now l.at c.read_part.result _ c.read_part.ensures.value c.in-Ok.is in
    when_err (g.B.OctetsBuilder.room.fits < length old + length whole) c.from_residual.result
    (text_lacks a.last a.is_quoted l.has_offset a.text.now l.at a.number (octets l.out) (old ++ whole) c.loop-at-test.true p is g.B.OctetsBuilder.room.fits old whole refl c.in_err-append_part-in-Ok.ensures.fits l.invariant.left)
