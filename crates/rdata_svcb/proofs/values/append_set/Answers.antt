use Rattle.std.proofs.Common.{◌∙◌, ◌++◌, ap, arith, refl}
use Rattle.std.proofs.lemmas.Result.{err_from_is_err_and}
use Rattle.rdata_svcb.specs.ParamValues.{keys_from}
use Rattle.rdata_svcb.proofs.KeySets.{keys_begin, keys_next}
use Rattle.rdata_svcb.proofs.KeyRefusals.{keys_below, keys_lack}
use Rattle.rdata_svcb.proofs.values.append_set.Goals as goal

pub loop-key-init : goal.loop-key-init
loop-key-init g c = keys_begin c.args.keys.now (g.B.AsOctets.octets c.args.target.now)

pub loop-key-preserved : goal.loop-key-preserved
loop-key-preserved g c =
    keys_next c.args.keys.now (g.B.AsOctets.octets c.args.target.now) (g.B.AsOctets.octets c.loop-key.target) (g.B.AsOctets.octets c.append_if.new.target) c.loop-key.key c.loop-key.invariant c.in_ok-append_if.ensures.ok

pub returns-in_err-append_if-clause-lacks : goal.returns-in_err-append_if-clause-lacks
returns-in_err-append_if-clause-lacks g c =
    let p = err_from_is_err_and c.from_residual.result c.from_residual.ensures.1 in
    rw p.1 (keys_lack c.args.keys.now (g.B.AsOctets.octets c.args.target.now) (g.B.AsOctets.octets c.loop-key.target) g.B.OctetsBuilder.room.fits c.loop-key.key c.loop-key.invariant (omega (arith, c.loop-key-test.true, c.end-key-end.ensures.within)) (c.in_err-append_if.ensures.lacks _ refl))

pub returns-clause-ok : goal.returns-clause-ok
returns-clause-ok g c =
    c.loop-key.invariant ∙ ap (λ k. g.B.AsOctets.octets c.args.target.now ++ keys_from c.args.keys.now 0 k) (omega arith)
    ∙ ap (λ x. g.B.AsOctets.octets c.args.target.now ++ x) (keys_below c.args.keys.now c.end-key-end.result c.end-key-end.ensures.within c.end-key-end.ensures.above)
