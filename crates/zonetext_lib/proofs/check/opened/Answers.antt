use Rattle.std.proofs.Common.{sym, subst, length-take-le, arith}
use Rattle.std.specs.Prelude.{Some}
use Rattle.zonetext_lib.specs.Found.{IsOpenedAfter}
use Rattle.zone_format.proofs.Positions.{position_on}
use Rattle.zone_format.proofs.Opened.{quote_within}
use Rattle.zonetext_lib.proofs.check.opened.Goals as goal

pub slice_bounds-advance-end : goal.slice_bounds-advance-end
slice_bounds-advance-end c =
    let at = c.in-OpenQuote.at in
    sym (length-take-le at c.args.octets.now (quote_within c.args.octets.now c.args.fault at c.requires.fault.is c.in-OpenQuote.is))

pub returns-in-OpenQuote : goal.returns-in-OpenQuote
returns-in-OpenQuote c = λ lines before stands.
    let octets = c.args.octets.now in
    let at = c.in-OpenQuote.at in
    let within = quote_within octets c.args.fault at c.requires.fault.is c.in-OpenQuote.is in
    subst (λ w. IsOpenedAfter lines before octets w (Some c.advance.result)) (sym c.in-OpenQuote.is)
    (within, position_on lines before _ c.args.start c.advance.result stands c.advance.ensures.line (c.advance.ensures.column before stands.1))

pub returns-in-Some : goal.returns-in-Some
returns-in-Some c = λ lines before stands.
    let octets = c.args.octets.now in
    let within = c.in-Some.ensures.within in
    subst (λ w. IsOpenedAfter lines before octets w (Some c.advance-in-Some.result)) (sym c.in-OpenParenthesis.is) (
      c.in-Some.at,
      omega (arith, within),
      c.in-Some.ensures.place,
      position_on lines before _ c.args.start c.advance-in-Some.result stands c.advance-in-Some.ensures.line (c.advance-in-Some.ensures.column before stands.1),
    )
