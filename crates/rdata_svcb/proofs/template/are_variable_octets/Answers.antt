use Rattle.std.proofs.Common.{◌∙◌, ◌<◌, sym, arith, length}
use Rattle.std.proofs.lemmas.Bool.{eqb-false, eqb-true}
use Rattle.rdata_svcb.proofs.Templates.{plain_octet, escaped_octet, no_octet, no_octets_left}
use Rattle.rdata_svcb.proofs.template.are_variable_octets.Goals as goal

pub loop-rest-preserved-then-is_variable_octet : goal.loop-rest-preserved-then-is_variable_octet
loop-rest-preserved-then-is_variable_octet c =
    let some : 0 < length c.loop-rest.rest.now = omega (arith, eqb-false (length c.loop-rest.rest.now) 0 (sym c.loop-rest-test.ensures)) in
    plain_octet c.loop-rest.rest.now some (sym c.if-is_variable_octet.ensures) ∙ c.loop-rest.invariant

pub loop-rest-preserved : goal.loop-rest-preserved
loop-rest-preserved c =
    let some : 0 < length c.loop-rest.rest.now = omega (arith, eqb-false (length c.loop-rest.rest.now) 0 (sym c.loop-rest-test.ensures)) in
    escaped_octet c.loop-rest.rest.now some (sym c.if-is_variable_octet.ensures) (sym c.if-not-begins_escape.ensures) ∙ c.loop-rest.invariant

pub returns-then-not-begins_escape : goal.returns-then-not-begins_escape
returns-then-not-begins_escape c =
    let some : 0 < length c.loop-rest.rest.now = omega (arith, eqb-false (length c.loop-rest.rest.now) 0 (sym c.loop-rest-test.ensures)) in
    no_octet c.loop-rest.rest.now some (sym c.if-is_variable_octet.ensures) (sym c.if-not-begins_escape.ensures) ∙ c.loop-rest.invariant

pub returns : goal.returns
returns c = no_octets_left c.loop-rest.rest.now (eqb-true (length c.loop-rest.rest.now) 0 (sym c.loop-rest-test.ensures)) ∙ c.loop-rest.invariant
