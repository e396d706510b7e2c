use Rattle.std.proofs.Common.{◌<◌, [], ◌∷◌, sym, length, arith}
use Rattle.std.proofs.lemmas.Bool.{eqb-false}
use Rattle.rdata_tokens.proofs.Fronts.{front_length}
use Rattle.rdata_svcb.specs.Texts.{item_text}
use Rattle.rdata_svcb.proofs.ListTexts.{strings_first, strings_more, comma_is}
use Rattle.rdata_svcb.proofs.ListRefusals.{first_refused, comma_refused, later_refused}
use Rattle.std.proofs.lemmas.Result.{err_from_is_err_and}
use Rattle.rdata_svcb.proofs.strings.append_strings.Goals as goal

pub loop-rest-init : goal.loop-rest-init
loop-rest-init g c =
    let ok = c.in_ok-rest.ensures.ok in
    strings_first c.args.text.now c.in_ok-rest.rest.now (g.B.AsOctets.octets c.args.target.now) (g.B.AsOctets.octets c.append_item.new.target) ok.0 ok.1 ok.2 ok.3 ok.4

pub loop-rest-smaller : goal.loop-rest-smaller
loop-rest-smaller g c =
    let rest = c.loop-rest.rest.now in let comma = c.in_ok-comma.comma in let ok = c.in_ok-rest-2.ensures.ok in
    omega (arith, front_length rest (comma.octet ∷ []) comma.rest.now c.in_ok-comma.ensures, front_length comma.rest.now (item_text ok.0) c.in_ok-rest-2.rest.now ok.2)

pub loop-rest-preserved : goal.loop-rest-preserved
loop-rest-preserved g c =
    let rest = c.loop-rest.rest.now in let comma = c.in_ok-comma.comma in let ok = c.in_ok-rest-2.ensures.ok in
    let some : 0 < length rest = omega (arith, eqb-false (length rest) 0 (sym c.loop-rest-test.ensures)) in
    strings_more c.args.text.now rest comma.rest.now c.in_ok-rest-2.rest.now (g.B.AsOctets.octets c.args.target.now) (g.B.AsOctets.octets c.loop-rest.target)
    (g.B.AsOctets.octets c.append_item-in-loop-rest.new.target) ok.0 comma.octet c.loop-rest.invariant some c.in_ok-comma.ensures ok.1 ok.2 ok.3 ok.4

pub returns-in_err-rest-clause-err : goal.returns-in_err-rest-clause-err
returns-in_err-rest-clause-err g c =
    let p = err_from_is_err_and c.from_residual.result c.from_residual.ensures.1 in
    rw (p.1, p.2) (first_refused g.B.OctetsBuilder.room c.args.text.now (g.B.AsOctets.octets c.args.target.now) _ c.in_err-rest.ensures.err)

pub returns-in_err-comma-clause-err : goal.returns-in_err-comma-clause-err
returns-in_err-comma-clause-err g c =
    let rest = c.loop-rest.rest.now in
    let some : 0 < length rest = omega (arith, eqb-false (length rest) 0 (sym c.loop-rest-test.ensures)) in
    absurd (comma_refused rest c.loop-rest.invariant.ends some c.in_err-comma.ensures.1)

pub returns-in_err-rest-2-clause-err : goal.returns-in_err-rest-2-clause-err
returns-in_err-rest-2-clause-err g c =
    let rest = c.loop-rest.rest.now in let comma = c.in_ok-comma.comma in
    let some : 0 < length rest = omega (arith, eqb-false (length rest) 0 (sym c.loop-rest-test.ensures)) in
    let p = err_from_is_err_and c.from_residual-in_err-rest-2.result c.from_residual-in_err-rest-2.ensures.1 in
    rw (p.1, p.2) (later_refused g.B.OctetsBuilder.room c.args.text.now rest comma.rest.now (g.B.AsOctets.octets c.args.target.now) (g.B.AsOctets.octets c.loop-rest.target) comma.octet _
    c.loop-rest.invariant some c.in_ok-comma.ensures (comma_is rest comma.rest.now comma.octet c.loop-rest.invariant.ends some c.in_ok-comma.ensures) c.in_err-rest-2.ensures.err)
