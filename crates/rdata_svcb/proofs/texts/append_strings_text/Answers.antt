use Rattle.std.proofs.Common.{length, refl, sym}
use Rattle.std.proofs.lemmas.Bool.{eqb-true}
use Rattle.std.proofs.lemmas.Result.{err_from_is_err_and}
use Rattle.rdata_svcb.proofs.Printing.{prints_first, prints_more, text_whole}
use Rattle.rdata_svcb.proofs.ListFaults.{first_text_lacks, later_text_lacks}
use Rattle.rdata_svcb.proofs.texts.append_strings_text.Goals as goal

pub loop-rest-init : goal.loop-rest-init
loop-rest-init g c =
    let s = c.in-Some.first in
    prints_first c.args.octets.now s.rest.now (g.B.AsOctets.octets c.args.target.now) (g.B.AsOctets.octets c.append_item_text.new.target) s.string.now c.in-Some.ensures.1 c.in-Some.ensures.0 c.in_ok-append_item_text.ensures.ok

pub returns-in_err-append_item_text-clause-fault : goal.returns-in_err-append_item_text-clause-fault
returns-in_err-append_item_text-clause-fault g c =
    let p = err_from_is_err_and c.from_residual.result c.from_residual.ensures.1 in
    let s = c.in-Some.first in
    rw (p.1, p.2) (first_text_lacks g.B.OctetsBuilder.room (g.B.AsOctets.octets c.args.target.now) c.args.octets.now s.string.now s.rest.now c.in-Some.ensures.1 c.in-Some.ensures.0 (c.in_err-append_item_text.ensures.lacks _ refl))

pub returns-in_err-append_later_text-clause-fault : goal.returns-in_err-append_later_text-clause-fault
returns-in_err-append_later_text-clause-fault g c =
    let p = err_from_is_err_and c.from_residual-in_err-append_later_text.result c.from_residual-in_err-append_later_text.ensures.1 in
    let s = c.in-Some-first_string.next in
    rw (p.1, p.2) (later_text_lacks g.B.OctetsBuilder.room (g.B.AsOctets.octets c.args.target.now) (g.B.AsOctets.octets c.loop-rest.target) c.args.octets.now c.loop-rest.rest.now s.rest.now s.string.now
    c.loop-rest.invariant c.in-Some-first_string.ensures.1 c.in-Some-first_string.ensures.0 (c.in_err-append_later_text.ensures.lacks _ refl))

pub loop-rest-preserved : goal.loop-rest-preserved
loop-rest-preserved g c =
    let s = c.in-Some-first_string.next in
    prints_more c.args.octets.now c.loop-rest.rest.now s.rest.now (g.B.AsOctets.octets c.args.target.now) (g.B.AsOctets.octets c.loop-rest.target) (g.B.AsOctets.octets c.append_later_text.new.target) s.string.now
    c.loop-rest.invariant c.in-Some-first_string.ensures.1 c.in-Some-first_string.ensures.0 c.in_ok-append_later_text.ensures.ok

pub returns-clause-ok : goal.returns-clause-ok
returns-clause-ok g c =
    let rest = c.loop-rest.rest.now in
    text_whole c.args.octets.now rest (g.B.AsOctets.octets c.args.target.now) (g.B.AsOctets.octets c.loop-rest.target) c.loop-rest.invariant (eqb-true (length rest) 0 (sym c.loop-rest-test.ensures))
