use Rattle.std.proofs.Common.{arith, subst}
use Rattle.c_calls.specs.WholeEntries.{EndsEntries, after_line, text_start}
use Rattle.c_calls.proofs.whole_entries.whole_len.Goals as goal

pub lines-init : goal.lines-init
lines-init c = record { within = omega arith; reads_on = text_start }

pub lines-preserved : goal.lines-preserved
lines-preserved c =
    let ends = c.in-Some-line_after.ensures in
    record {
      within = omega (arith, ends.1, ends.3);
      reads_on = after_line c.lines.at c.whole_entries-wholes.result.end c.in-Some-line_after.after c.in-Some.fault c.lines.invariant.reads_on
          (subst (EndsEntries c.args.text.now c.lines.at c.whole_entries-wholes.result.end) c.in-Some.is c.whole_entries-wholes.ensures.reads) ends;
    }
