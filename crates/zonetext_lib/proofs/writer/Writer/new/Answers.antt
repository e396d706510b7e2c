use Rattle.zonetext_lib.proofs.Made.{none_before}
use Rattle.zonetext_lib.proofs.writer.Writer.new.Goals as goal

pub returns-clause-none : goal.returns-clause-none
returns-clause-none g c =
    let h = c.new.ensures.none in
    record { held = h; made = none_before c.args.output h.before _ h.is }
