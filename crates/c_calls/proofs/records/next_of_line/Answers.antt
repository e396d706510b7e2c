use Rattle.std.proofs.Common.{◌≡◌, [], arith, rules}
use Rattle.c_calls.proofs.OwnedLines.{line_next}
use Rattle.c_calls.proofs.records.next_of_line.Goals as goal

pub returns : goal.returns
returns c =
    let none : c.new-data.result.items ≡ [] = search rules in
    let all : c.read_line.new.target.items ≡ c.as_slice.result.now = search rules in
    line_next c.in-Some-head_of_line.head _ c.load_for_line.new.state c.read_line.new.state c.in-Some.line c.as_slice.result.now _
    (c.load_for_line.ensures c.if-not-load_for_line.false) (omega (arith, c.if-zone-text.false)) c.in-Some-head_of_line.ensures (rw (none, all) at c.in-Some.ensures.reads) c.report_line.ensures
