use Rattle.std.proofs.Common.{◌+◌, ◌<◌, sym, arith, length}
use Rattle.std.proofs.lemmas.Bool.{eqb-false}
use Rattle.rdata_svcb.specs.Values.{AreWireStrings}
use Rattle.rdata_svcb.proofs.Checking.{no_string, string_more, chained}
use Rattle.rdata_svcb.proofs.value_checks.are_strings.Goals as goal
use Rattle.rdata_svcb.proofs.value_checks.are_strings.Goals.{then-count-eq0-via-then-count-eq0, then-count-eq0-via-else-count-eq0+then-rest-count}

pub returns-then-count-eq0 : goal.returns-then-count-eq0
returns-then-count-eq0 c = λ h.
    let some : 0 < length c.loop-rest.rest.now = omega (arith, eqb-false (length c.loop-rest.rest.now) 0 (sym c.loop-rest-test.ensures)) in
    let s = no_string c.loop-rest.rest.now c.from-count.result c.from-count.ensures some (c.loop-rest.invariant.back h) in
    elim c.then-count-eq0.branch [
      | then-count-eq0-via-then-count-eq0 w ↦ omega (arith, s.0)
      | then-count-eq0-via-else-count-eq0+then-rest-count w ↦ omega (arith, s.1)
    ]

pub loop-rest-preserved : goal.loop-rest-preserved
loop-rest-preserved c =
    chained _ (AreWireStrings c.loop-rest.rest.now) _
    (string_more c.loop-rest.rest.now c.from-count.result (1 + c.from-count.result) c.from-count.ensures (omega arith) (omega arith) (omega arith) (omega (arith, c.from-count.ensures, c.type_inv.octets 0)))
    c.loop-rest.invariant
