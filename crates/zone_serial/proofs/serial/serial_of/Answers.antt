use Rattle.std.proofs.Common.{arith, sym, ap, ◌∙◌}
use Rattle.std.specs.Prelude.{◌==◌}
use Rattle.std.proofs.lemmas.Bool.{eqb-true, not-false}
use Rattle.rdata_values.specs.Rtype as Rtype
use Rattle.zone_serial.proofs.SoaParts.{serial_four}
use Rattle.zone_serial.proofs.serial.serial_of.Goals as goal

pub bounds-serial-0 : goal.bounds-serial-0
bounds-serial-0 g c =
    let same = eqb-true c.args.data.now.rtype Rtype.soa (ap (λ n. n == Rtype.soa) (sym c.rtype.ensures) ∙ not-false _ (sym c.ne.ensures ∙ c.if-ne.false)) in
    let four = serial_four c.args.data.now c.in_ok-serial.serial.now same c.as_slice-octets.ensures.is_data c.in_ok-serial.ensures in omega (arith, four.0)

pub bounds-serial-1 : goal.bounds-serial-1
bounds-serial-1 g c =
    let same = eqb-true c.args.data.now.rtype Rtype.soa (ap (λ n. n == Rtype.soa) (sym c.rtype.ensures) ∙ not-false _ (sym c.ne.ensures ∙ c.if-ne.false)) in
    let four = serial_four c.args.data.now c.in_ok-serial.serial.now same c.as_slice-octets.ensures.is_data c.in_ok-serial.ensures in omega (arith, four.0)

pub bounds-serial-2 : goal.bounds-serial-2
bounds-serial-2 g c =
    let same = eqb-true c.args.data.now.rtype Rtype.soa (ap (λ n. n == Rtype.soa) (sym c.rtype.ensures) ∙ not-false _ (sym c.ne.ensures ∙ c.if-ne.false)) in
    let four = serial_four c.args.data.now c.in_ok-serial.serial.now same c.as_slice-octets.ensures.is_data c.in_ok-serial.ensures in omega (arith, four.0)

pub bounds-serial-3 : goal.bounds-serial-3
bounds-serial-3 g c =
    let same = eqb-true c.args.data.now.rtype Rtype.soa (ap (λ n. n == Rtype.soa) (sym c.rtype.ensures) ∙ not-false _ (sym c.ne.ensures ∙ c.if-ne.false)) in
    let four = serial_four c.args.data.now c.in_ok-serial.serial.now same c.as_slice-octets.ensures.is_data c.in_ok-serial.ensures in omega (arith, four.0)
