use Rattle.std.proofs.lemmas.Result.{err_from_is_err_and}
use Rattle.finding_formats.proofs.Extending.{extends_before}
use Rattle.finding_formats.proofs.piece.push_pieces.Goals as goal

pub returns-in_err-push_piece-clause-err : goal.returns-in_err-push_piece-clause-err
returns-in_err-push_piece-clause-err g c =
    let p = err_from_is_err_and c.from_residual.result c.from_residual.ensures.1 in
    rw p.1 (extends_before c.args.out.now.items _ _ _ c.loop-piece.invariant c.in_err-push_piece.ensures.err)
