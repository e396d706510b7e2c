use Rattle.std.proofs.Common.{refl}
use Rattle.dns_lexer.proofs.Skips.{comment_given}
use Rattle.dns_lexer.proofs.pieces.comment_here.Goals as goal

pub returns : goal.returns
returns c =
    let e = c.run_end-end.ensures in
    comment_given c.args.octets.now c.args.place c.args.begins_blank c.run_end-end.result c.requires.within c.requires.opens e.on e.within e.each (c.if-not-ends_comment.ensures refl)
