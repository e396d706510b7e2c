use Rattle.std.proofs.Common.{sym, subst}
use Rattle.zonetext_lib.specs.Blocks.{Holds}
use Rattle.zonetext_lib.specs.Held.{Writing}
use Rattle.zonetext_lib.proofs.Written.{writes_all}
use Rattle.zonetext_lib.proofs.writer.Writer.finish.Goals as goal

pub returns-in-Ok-clause-well : goal.returns-in-Ok-clause-well
returns-in-Ok-clause-well g c = λ all h. c.in-Ok.ensures.well all (subst (λ (w : Writing). Holds all w.held) (sym c.self.view_is) h)

pub returns-in-Ok-clause-written : goal.returns-in-Ok-clause-written
returns-in-Ok-clause-written g c =
    writes_all _ _ _ _ c.self.inside.output c.self.inside.checker c.lines_before-lines.result c.self.view_is c.held.ensures.held c.write.ensures.octets
    c.lines_before-lines.ensures.lines c.in_ok-write.ensures.made

pub returns-in-Err-clause-written : goal.returns-in-Err-clause-written
returns-in-Err-clause-written g c =
    writes_all _ _ _ _ c.self.inside.output c.self.inside.checker c.lines_before-lines.result c.self.view_is c.held.ensures.held c.write.ensures.octets
    c.lines_before-lines.ensures.lines c.in_ok-write.ensures.made
