use Rattle.std.proofs.Common.{◌+◌, ◌==◌, drop, slice_index_or, refl, sym, ap, ◌∙◌}
use Rattle.zone_edit.specs.Lines.{ends_in_cr_lf}
use Rattle.zone_edit.proofs.Opening.{rest_of}
use Rattle.zone_edit.proofs.lines.line_end.Goals as goal

pub loop-octet-preserved : goal.loop-octet-preserved
loop-octet-preserved c =
    let front = c.args.front.now in
    let i = c.loop-octet.octet-index in
    let octet = slice_index_or front i 0 in
    let next = rest_of front i octet 0 c.loop-octet-test.true refl in
    record {
      last = ap (λ b. ends_in_cr_lf b (octet == 13) (drop (i + 1) front)) c.has_cr_after-has_cr.ensures
          ∙ ap (ends_in_cr_lf c.loop-octet.has_cr c.loop-octet.is_cr) (sym next) ∙ c.loop-octet.invariant.last;
    }
