use Rattle.std.proofs.Common.{false, inl, refl, subst}
use Rattle.zonetext_lib.specs.Found.{IsStop}
use Rattle.zonetext_lib.specs.Layout.{laid_out}
use Rattle.zonetext_lib.proofs.Made.{whole_not_bad}
use Rattle.zonetext_lib.proofs.writer.write_all_lines.Goals as goal

pub returns-in-Ok-clause-lines : goal.returns-in-Ok-clause-lines
returns-in-Ok-clause-lines g c = let l = c.in-Ok.ensures.lines in (laid_out c.args.gap false l.0, l.2, inl (l.0, l.1, refl))

pub returns-in-Err-Wrong-clause-lines : goal.returns-in-Err-Wrong-clause-lines
returns-in-Err-Wrong-clause-lines g c =
    let bad = subst (IsStop c.args.octets.now c.args.lines_before) c.in-Err-Wrong.field-0-is c.in-Err-Wrong.ensures.bad in
    absurd (whole_not_bad c.args.octets.now _ c.requires.whole bad.fault)
