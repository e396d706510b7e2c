use Rattle.std.proofs.Common.{◌≡◌, ◌-◌, length, take, ap, sym, ◌∙◌, arith}
use Rattle.zone_format.specs.Marks.{shortened}
use Rattle.zone_format.proofs.Shortened.{shorter, full}
use Rattle.std.proofs.lemmas.List.{take_all}
use Rattle.zone_format.proofs.format.shortened.Goals.{then-loop-end-test+else-is_blank, else-loop-end-test}
use Rattle.zone_format.proofs.format.shortened.Goals as goal

pub loop-end-init : goal.loop-end-init
loop-end-init c = record { within = omega arith; same = ap shortened (sym (take_all (length c.args.comment.now) c.args.comment.now (omega arith))) }

pub loop-end-preserved : goal.loop-end-preserved
loop-end-preserved c =
    let inv = c.loop-end.invariant in
    record {
      within = omega (arith, inv.within);
      same = inv.same ∙ shorter c.args.comment.now c.loop-end.end (c.loop-end.end - 1) (omega (arith, c.loop-end-test.true)) (omega (arith, inv.within, c.loop-end-test.true)) (sym c.is_blank.ensures ∙ c.if-is_blank.true);
    }

pub returns : goal.returns
returns c =
    let inv = c.loop-end.invariant in
    let xs = c.args.comment.now in
    let end = c.loop-end.end in
    elim c.loop-end-test.branch [
      | then-loop-end-test+else-is_blank w ↦
          sym (inv.same ∙ full xs end (end - 1) (omega (arith, w.loop-end-test.true)) (omega (arith, inv.within, w.loop-end-test.true)) (sym w.is_blank.ensures ∙ w.if-is_blank.false))
      | else-loop-end-test w ↦
          let none : end ≡ 0 = omega (arith, w.loop-end-test.false) in
          ap (λ n. take n xs) none ∙ sym (inv.same ∙ ap (λ n. shortened (take n xs)) none)
    ]
