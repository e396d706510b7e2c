use Rattle.std.proofs.Common.{◌≡◌, ◌-◌, ◌∙◌, ◌++◌, length, drop, refl, sym, arith}
use Rattle.std.proofs.lemmas.List.{take_rest, length-drop}
use Rattle.rdata_svcb.specs.Params.{param}
use Rattle.rdata_svcb.proofs.ParamLists.{shorter_param}
use Rattle.rdata_svcb.proofs.Settling.{at_start, stands_later, placed_before, placed_last, stands_already}
use Rattle.rdata_svcb.proofs.params.find_place.Goals as goal

pub loop-front-init : goal.loop-front-init
loop-front-init c = record { within = omega arith; stands = λ params fit e. at_start params c.args.key }

pub loop-front-smaller : goal.loop-front-smaller
loop-front-smaller c =
    let f = c.in-Some.front in let xs = c.args.octets.now in
    let split : drop c.loop-front.place xs ≡ param f.param.key f.param.value.now ++ f.rest.now = sym (take_rest xs c.loop-front.place) ∙ c.in-Some.ensures.cases.0 in
    let less = shorter_param (drop c.loop-front.place xs) f.rest.now f.param.value.now f.param.key split in
    omega (arith, less, length-drop c.loop-front.place xs, c.loop-front.invariant.within)

pub loop-front-preserved : goal.loop-front-preserved
loop-front-preserved c = record {
  within = omega arith;
  stands = λ params fit e.
      let f = c.in-Some.front in let xs = c.args.octets.now in
      let split : drop c.loop-front.place xs ≡ param f.param.key f.param.value.now ++ f.rest.now = sym (take_rest xs c.loop-front.place) ∙ c.in-Some.ensures.cases.0 in
      stands_later params c.args.key c.loop-front.place (length xs - length f.rest.now) f.param.key xs f.param.value.now f.rest.now (c.loop-front.invariant.stands params fit e) fit (omega (arith, c.ranges.key.fits)) e split
      c.in-Some.ensures.cases.2 (omega (arith, c.if-key-front.false, c.if-key-front-2.false)) refl;
}

pub returns-then-key-front-clause-place : goal.returns-then-key-front-clause-place
returns-then-key-front-clause-place c = λ params fit e.
    let f = c.in-Some.front in let xs = c.args.octets.now in
    let split : drop c.loop-front.place xs ≡ param f.param.key f.param.value.now ++ f.rest.now = sym (take_rest xs c.loop-front.place) ∙ c.in-Some.ensures.cases.0 in
    let p = placed_before params c.args.key c.loop-front.place f.param.key xs f.param.value.now f.rest.now (c.loop-front.invariant.stands params fit e) fit (omega (arith, c.ranges.key.fits)) e split
    c.in-Some.ensures.cases.1 c.in-Some.ensures.cases.2 c.if-key-front.true in
    (p.none, p.front, p.back)

pub returns-then-key-front-2-clause-place : goal.returns-then-key-front-2-clause-place
returns-then-key-front-2-clause-place c = λ params fit e.
    let f = c.in-Some.front in let xs = c.args.octets.now in
    let split : drop c.loop-front.place xs ≡ param f.param.key f.param.value.now ++ f.rest.now = sym (take_rest xs c.loop-front.place) ∙ c.in-Some.ensures.cases.0 in (
      refl,
      stands_already params c.args.key c.loop-front.place f.param.key xs f.param.value.now f.rest.now (c.loop-front.invariant.stands params fit e) fit (omega (arith, c.ranges.key.fits)) e split
          c.in-Some.ensures.cases.2 c.if-key-front-2.true,
    )

pub returns-in_default-clause-place : goal.returns-in_default-clause-place
returns-in_default-clause-place c = λ params fit e.
    let xs = c.args.octets.now in
    let p = placed_last params c.args.key c.loop-front.place xs (c.loop-front.invariant.stands params fit e) fit (omega (arith, c.ranges.key.fits)) e
    (rw (take_rest xs c.loop-front.place) at c.in_default.ensures.cases) in
    (p.none, p.front, p.back)
