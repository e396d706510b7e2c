use Rattle.std.proofs.Common.{refl, inl, inr}
use Rattle.std.proofs.lemmas.Result.{err_from_is_err_and}
use Rattle.rdata_svcb.proofs.KeySets.{spells_keys, spells_wire}
use Rattle.rdata_svcb.specs.ParamValues.{keys_wire}
use Rattle.rdata_svcb.proofs.values.append_keys.Goals as goal

pub returns-clause-ok : goal.returns-clause-ok
returns-clause-ok g c =
    let ok = c.in_ok-read_keys.ensures.ok in
    spells_keys c.args.text.now c.read_keys.new.keys (g.B.AsOctets.octets c.args.target.now) (g.B.AsOctets.octets c.append_set.new.target) ok.0 ok.1 ok.2 ok.3 c.in_ok-append_set.ensures.ok

pub returns-in_err-read_keys-clause-err : goal.returns-in_err-read_keys-clause-err
returns-in_err-read_keys-clause-err g c =
    let p = err_from_is_err_and c.from_residual.result c.from_residual.ensures.1 in
    let err = c.in_err-read_keys.ensures.err in
    rw (p.1, p.2) (inr (err.0, λ octets h. err.1 h.keys h.named h.once))

pub returns-in_err-append_set-clause-err : goal.returns-in_err-append_set-clause-err
returns-in_err-append_set-clause-err g c =
    let p = err_from_is_err_and c.from_residual-in_err-append_set.result c.from_residual-in_err-append_set.ensures.1 in
    let ok = c.in_ok-read_keys.ensures.ok in
    let set = c.read_keys.new.keys in
    rw (p.1, p.2) (inl (refl, (keys_wire set, spells_wire c.args.text.now set ok.0 ok.1 ok.2 ok.3, c.in_err-append_set.ensures.lacks (keys_wire set) refl)))
