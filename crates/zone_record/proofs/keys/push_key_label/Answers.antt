use Rattle.std.proofs.lemmas.Result.{err_from_is_err_and}
use Rattle.zone_record.proofs.KeyOrders.{extends_behind}
use Rattle.zone_record.proofs.keys.push_key_label.Goals as goal

pub returns-in_err-push_key_octet-clause-err : goal.returns-in_err-push_key_octet-clause-err
returns-in_err-push_key_octet-clause-err g c =
    let p = err_from_is_err_and c.from_residual.result c.from_residual.ensures.1 in
    rw p.1 (extends_behind c.args.key.now.items _ _ _ c.loop-octet.invariant c.in_err-push_key_octet.ensures.err)
