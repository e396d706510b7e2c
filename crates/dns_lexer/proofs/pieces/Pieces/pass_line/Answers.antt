use Rattle.std.proofs.Common.{sym, arith}
use Rattle.dns_lexer.proofs.PassedLines.{line_passed}
use Rattle.dns_lexer.proofs.pieces.Pieces.pass_line.Goals as goal

pub returns-clause-passes : goal.returns-clause-passes
returns-clause-passes c =
    let e = c.run_end-feed.ensures in
    line_passed c.self.inside.octets.now c.self.inside.is_done c.self.inside.depth c.self.inside.at c.run_end-feed.result c.self.inside.begins_blank c.first_blank-self-inside.result
    c.args.self.now (sym c.self.view_is) c.if-self.false (omega (arith, c.if-self-gt0.false)) e.on (omega (arith, e.within, c.if-feed-self.false)) e.each c.if-self-feed-ne10.false c.first_blank-self-inside.ensures
