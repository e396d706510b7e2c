use Rattle.std.proofs.Common.{drop}
use Rattle.dns_lexer.specs.declared.reader.Mode.TheVariants.{Outside}
use Rattle.dns_lexer.proofs.PieceMoved.{blank_left}
use Rattle.dns_lexer.proofs.pieces.Pieces.begins_blank.Goals as goal

pub returns : goal.returns
returns c =
    let s = c.self.inside in
    blank_left s.is_done Outside s.depth s.at s.at s.begins_blank (drop s.at s.octets.now) c.args.self.now c.self.view_is
