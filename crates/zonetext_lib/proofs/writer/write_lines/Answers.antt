use Rattle.std.proofs.Common.{false, subst, take}
use Rattle.zonetext_lib.specs.Found.{IsStop}
use Rattle.zonetext_lib.specs.Layout.{laid_out}
use Rattle.zonetext_lib.proofs.Made.{lines_until, until_well}
use Rattle.zonetext_lib.proofs.writer.write_lines.Goals as goal

pub returns-in-Ok-clause-lines : goal.returns-in-Ok-clause-lines
returns-in-Ok-clause-lines g c =
    let l = c.in-Ok.ensures.lines in
    let u = c.until_fault-until in
    (laid_out c.args.gap false l.0, l.2, lines_until c.args.octets.now u.result c.args.gap l.0 u.ensures.octets u.ensures.until l.1)

pub returns-in-Err-Wrong-clause-lines : goal.returns-in-Err-Wrong-clause-lines
returns-in-Err-Wrong-clause-lines g c =
    let u = c.until_fault-until in
    let bad = subst (IsStop (take u.result c.args.octets.now) c.args.lines_before) c.in-Err-Wrong.field-0-is c.in-Err-Wrong.ensures.bad in
    absurd (until_well c.args.octets.now u.result _ u.ensures.octets u.ensures.until bad.fault)
