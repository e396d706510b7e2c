use Rattle.std.proofs.Common.{◌+◌, ◌≤◌, sym, subst}
use Rattle.zone_generate.specs.Parts.{offset_after}
use Rattle.zone_generate.proofs.PartSteps.{rest_read, rest_within}
use Rattle.zone_check.proofs.GenerateSteps.{DotLeft, blanks_within, dots_ended, dots_found, dots_next, dots_rejected, hit_read}
use Rattle.zone_check.proofs.generate_findings.first_dot.Goals as goal

pub returns-then-branch : goal.returns-then-branch
returns-then-branch c =
    let a = c.args in
    let l = c.loop-at in
    let p = c.in-Ok.read in
    let is = rest_read a.range.last a.is_quoted l.has_offset a.text.now l.at c.read_part.result _ c.read_part.ensures.value c.in-Ok.is in
    let hit = hit_read a.range.first p.part a.text.now (l.at + p.len) c.in_ok-is_dot_part-in-Ok.field-0 _ c.in_ok-is_dot_part-in-Ok.ensures c.if-branch.true in
    dots_found a.range.last a.range.first a.is_quoted l.has_offset a.text.now l.at l.blanks c.loop-at-test.true p is hit l.invariant.left

pub loop-at-preserved : goal.loop-at-preserved
loop-at-preserved c =
    let a = c.args in
    let l = c.loop-at in
    let p = c.in-Ok.read in
    let inside = c.in-Ok.ensures.within in
    let is = rest_read a.range.last a.is_quoted l.has_offset a.text.now l.at c.read_part.result _ c.read_part.ensures.value c.in-Ok.is in
    let miss = hit_read a.range.first p.part a.text.now (l.at + p.len) c.in_ok-is_dot_part-in-Ok.field-0 _ c.in_ok-is_dot_part-in-Ok.ensures c.if-branch.false in
    let left = dots_next a.range.last a.range.first a.is_quoted l.has_offset a.text.now l.at l.blanks c.loop-at-test.true p inside.0 is miss l.invariant.left in
    record {
      within = rest_within a.text.now l.at p.len l.invariant.within inside.1;
      few = subst (λ n. n ≤ l.at + p.len) (sym c.blanks_after-blanks.ensures) (blanks_within p l.blanks l.at l.invariant.few inside.0);
      left = subst (λ o. DotLeft a.range.last a.range.first a.is_quoted o a.text.now (l.at + p.len) c.blanks_after-blanks.result) (sym c.offset_after-has_offset.ensures)
          (subst (λ n. DotLeft a.range.last a.range.first a.is_quoted (offset_after l.has_offset p.part) a.text.now (l.at + p.len) n) (sym c.blanks_after-blanks.ensures) left);
    }

pub returns-in-Err : goal.returns-in-Err
returns-in-Err c =
    let a = c.args in
    let l = c.loop-at in
    let is = rest_read a.range.last a.is_quoted l.has_offset a.text.now l.at c.read_part.result _ c.read_part.ensures.value c.in-Err.is in
    dots_rejected a.range.last a.range.first a.is_quoted l.has_offset a.text.now l.at l.blanks c.loop-at-test.true c.in-Err.field-0 is l.invariant.left

pub returns : goal.returns
returns c =
    let a = c.args in
    let l = c.loop-at in
    dots_ended a.range.last a.range.first a.is_quoted l.has_offset a.text.now l.at l.blanks c.loop-at-test.false l.invariant.left
