use Rattle.std.proofs.Common.{◌<◌, ◌-◌, sym, ap, length, take, drop, arith}
use Rattle.std.proofs.lemmas.Bool.{eqb-false, eqb-true}
use Rattle.std.proofs.lemmas.Result.{err_from_is_err_and}
use Rattle.rdata_svcb.proofs.WireItems.{list_first, list_more, list_whole, comma_split, item_shorter}
use Rattle.rdata_svcb.proofs.ListFaults.{fault_first, fault_later, fault_escape}
use Rattle.rdata_svcb.proofs.texts.append_items.Goals as goal

pub loop-rest-init : goal.loop-rest-init
loop-rest-init g c = let ok = c.in_ok-rest.ensures.ok in
    list_first c.args.text.now c.in_ok-rest.rest.now (g.B.AsOctets.octets c.args.target.now) (g.B.AsOctets.octets c.append_item.new.target) ok.0 ok.1 ok.2 ok.3

pub returns-in_err-rest-clause-fault : goal.returns-in_err-rest-clause-fault
returns-in_err-rest-clause-fault g c =
    let p = err_from_is_err_and c.from_residual.result c.from_residual.ensures.1 in
    rw (p.1, p.2) (fault_first g.B.OctetsBuilder.room (g.B.AsOctets.octets c.args.target.now) c.args.text.now _ c.in_err-rest.ensures.fault)

pub returns-then-rest-ne44-clause-fault : goal.returns-then-rest-ne44-clause-fault
returns-then-rest-ne44-clause-fault g c =
    fault_escape g.B.OctetsBuilder.room (g.B.AsOctets.octets c.args.target.now) (g.B.AsOctets.octets c.loop-rest.target) c.args.text.now c.loop-rest.rest.now c.loop-rest.invariant
    (λ e. eqb-false (length c.loop-rest.rest.now) 0 (sym c.loop-rest-test.ensures) (ap length e)) c.if-rest-ne44.true

pub returns-in_err-rest-2-clause-fault : goal.returns-in_err-rest-2-clause-fault
returns-in_err-rest-2-clause-fault g c =
    let rest = c.loop-rest.rest.now in
    let some : 0 < length rest = omega (arith, eqb-false (length rest) 0 (sym c.loop-rest-test.ensures)) in
    let p = err_from_is_err_and c.from_residual-in_err-rest-2.result c.from_residual-in_err-rest-2.ensures.1 in
    rw (p.1, p.2) (fault_later g.B.OctetsBuilder.room (g.B.AsOctets.octets c.args.target.now) (g.B.AsOctets.octets c.loop-rest.target) c.args.text.now rest (take (length rest - 1) (drop 1 rest)) _
    c.loop-rest.invariant (comma_split rest some c.if-rest-ne44.false) c.in_err-rest-2.ensures.fault)

pub loop-rest-smaller : goal.loop-rest-smaller
loop-rest-smaller g c =
    let rest = c.loop-rest.rest.now in let ok = c.in_ok-rest-2.ensures.ok in
    let some : 0 < length rest = omega (arith, eqb-false (length rest) 0 (sym c.loop-rest-test.ensures)) in
    let split = ap length (comma_split rest some c.if-rest-ne44.false) in
    omega (arith, split, item_shorter (take (length rest - 1) (drop 1 rest)) ok.0 c.in_ok-rest-2.rest.now ok.2)

pub loop-rest-preserved : goal.loop-rest-preserved
loop-rest-preserved g c =
    let rest = c.loop-rest.rest.now in let ok = c.in_ok-rest-2.ensures.ok in
    let some : 0 < length rest = omega (arith, eqb-false (length rest) 0 (sym c.loop-rest-test.ensures)) in
    list_more c.args.text.now rest (take (length rest - 1) (drop 1 rest)) c.in_ok-rest-2.rest.now (g.B.AsOctets.octets c.args.target.now) (g.B.AsOctets.octets c.loop-rest.target)
    (g.B.AsOctets.octets c.append_item-in-loop-rest.new.target) ok.0 c.loop-rest.invariant (comma_split rest some c.if-rest-ne44.false) ok.1 ok.2 ok.3

pub returns-clause-ok : goal.returns-clause-ok
returns-clause-ok g c =
    let rest = c.loop-rest.rest.now in
    list_whole c.args.text.now rest (g.B.AsOctets.octets c.args.target.now) (g.B.AsOctets.octets c.loop-rest.target) c.loop-rest.invariant (eqb-true (length rest) 0 (sym c.loop-rest-test.ensures))
