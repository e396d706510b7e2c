use Rattle.std.proofs.Common.{rules}
use Rattle.custom_record.proofs.Marker.{marked, unmarked}
use Rattle.custom_record.proofs.record.expect_no_marker.Goals as goal

pub returns-then-marked-clause-stands : goal.returns-then-marked-clause-stands
returns-then-marked-clause-stands g c = λ tokens stands.
    let is = marked g.S.Scanner.next_token _ _ tokens stands c.in_ok-marked.marked c.if-marked.true c.in_ok-marked.ensures.scans in
    (is.0, search rules, is.1)

pub returns-clause-stands : goal.returns-clause-stands
returns-clause-stands g c = λ tokens stands. unmarked g.S.Scanner.next_token _ _ tokens stands c.in_ok-marked.marked c.if-marked.false c.in_ok-marked.ensures.scans

pub returns-in_err-marked-clause-stands : goal.returns-in_err-marked-clause-stands
returns-in_err-marked-clause-stands g c = absurd c.in_err-marked.ensures.scans
