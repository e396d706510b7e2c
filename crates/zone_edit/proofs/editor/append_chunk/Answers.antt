use Rattle.std.proofs.Common.{◌<◌, ◌++◌, ◌+◌, ◌-◌, length, take, drop, refl, ap, ◌∙◌, arith}
use Rattle.std.proofs.lemmas.List.{take_rest}
use Rattle.zone_edit.proofs.Applying.{part_copied, part_first, part_next, part_passed}
use Rattle.zone_edit.proofs.editor.append_chunk.Goals as goal

pub edits-init : goal.edits-init
edits-init g c = record { part = part_first c.args.edits.now c.args.reached c.args.chunk.now c.args.out.now.items c.requires.reached }

pub edits-preserved : goal.edits-preserved
edits-preserved g c =
    let e = c.in-Some.edit.now in
    let at = c.args.reached.at in
    let chunk = c.args.chunk.now in
    let from = c.edits.from in
    let old = c.extend_from_slice.new.self.items in
    let begins : e.start < at + length chunk = omega (arith, c.in-Some.ensures.begins, c.requires.end) in
    record {
      part = part_next c.args.edits.now c.args.reached chunk c.args.out.now.items c.edits.out.items c.edits.done from c.edits.invariant.part e
          c.in-Some.ensures.next c.in-Some.ensures.within begins (take ((e.start - at) - (from - at)) (drop (from - at) chunk)) c.extend_from_slice-in-Some.new.self.items refl
          (c.in_ok-extend_from_slice-2.ensures.items ∙ ap (λ t. old ++ t) c.as_slice.ensures.value ∙ ap (λ l. l ++ e.text.items) c.in_ok-extend_from_slice.ensures.items);
    }

pub returns-in_ok-extend_from_slice-3-clause-applied : goal.returns-in_ok-extend_from_slice-3-clause-applied
returns-in_ok-extend_from_slice-3-clause-applied g c =
    let p = c.edits.invariant.part in
    part_copied c.args.edits.now c.args.reached c.args.chunk.now c.args.out.now.items c.edits.out.items c.edits.done c.edits.from p
    c.extend_from_slice-then-from-end.new.self.items c.args.end c.requires.end c.if-from-end.true (c.begun_before.ensures.none c.in_default.is c.edits.from p.ordered)
    (c.in_ok-extend_from_slice-3.ensures.items ∙ ap (λ l. c.edits.out.items ++ l) (take_rest c.args.chunk.now (c.edits.from - c.args.reached.at)))

pub returns-else-from-end-clause-applied : goal.returns-else-from-end-clause-applied
returns-else-from-end-clause-applied g c =
    part_passed c.args.edits.now c.args.reached c.args.chunk.now c.args.out.now.items c.edits.out.items c.edits.done c.edits.from c.edits.invariant.part
    c.args.end c.requires.end c.if-from-end.false
