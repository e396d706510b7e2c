use Rattle.std.proofs.Common.{◌+◌, ◌*◌, sym, arith}
use Rattle.rdata_svcb.specs.Params.{params_of}
use Rattle.rdata_svcb.specs.Values.{AreKeys}
use Rattle.rdata_svcb.proofs.Checking.{key_more, chained}
use Rattle.rdata_svcb.proofs.value_checks.are_keys.Goals as goal

pub loop-rest-preserved : goal.loop-rest-preserved
loop-rest-preserved c =
    let ps = params_of c.args.params.now in
    chained _ (AreKeys ps c.loop-rest.above c.loop-rest.rest.now) _
    (key_more ps c.loop-rest.above (256 * c.from.result + c.from-in-loop-rest.result) c.loop-rest.rest.now (omega arith) (omega (arith, c.from.ensures, c.from-in-loop-rest.ensures))
    (omega arith) (sym c.if-not-has_value.ensures))
    c.loop-rest.invariant
