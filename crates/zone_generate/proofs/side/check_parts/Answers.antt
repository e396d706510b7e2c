use Rattle.std.proofs.Common.{◌+◌, sym, subst}
use Rattle.zone_generate.proofs.PartSteps.{PartsLeft, parts_accepted, parts_begin, parts_next, parts_rejected, rest_read, rest_within}
use Rattle.zone_generate.proofs.side.check_parts.Goals as goal

pub loop-at-preserved : goal.loop-at-preserved
loop-at-preserved c =
    let a = c.args in
    let l = c.loop-at in
    let p = c.in-Ok.part in
    let inside = c.in-Ok.ensures.within in
    let is = rest_read a.last a.is_quoted l.has_offset a.text.now l.at c.read_part.result _ c.read_part.ensures.value c.in-Ok.is in
    record {
      within = rest_within a.text.now l.at p.len l.invariant.within inside.1;
      left = subst (λ o. PartsLeft a.last a.is_quoted o a.text.now (l.at + p.len)) (sym c.offset_after-has_offset.ensures) (parts_next a.last a.is_quoted l.has_offset a.text.now l.at c.loop-at-test.true p inside.0 is l.invariant.left);
    }

pub returns-in-Err : goal.returns-in-Err
returns-in-Err c =
    let a = c.args in
    let l = c.loop-at in
    let is = rest_read a.last a.is_quoted l.has_offset a.text.now l.at c.read_part.result _ c.read_part.ensures.value c.in-Err.is in
    parts_rejected a.last a.is_quoted l.has_offset a.text.now l.at c.loop-at-test.true c.in-Err.kind is l.invariant.left

pub returns : goal.returns
returns c = parts_accepted c.args.last c.args.is_quoted c.loop-at.has_offset c.args.text.now c.loop-at.at c.loop-at-test.false c.loop-at.invariant.left
