use Rattle.std.proofs.Common.{◌≡◌, ◌+◌, ◌-◌, ◌≤◌, ◌==◌, take, drop, length, arith, ap, sym, ◌∙◌, cond, length-take}
use Rattle.std.proofs.lemmas.List.Sums.{sum_by-append}
use Rattle.zone_format.specs.Place.{column_of, feeds}
use Rattle.zone_format.proofs.Positions.{taken}
use Rattle.zone_format.proofs.place.move_to.Goals as goal

pub returns-clause-stands : goal.returns-clause-stands
returns-clause-stands c =
    let xs = c.args.octets.now in
    let i = c.args.from.at in
    let j = c.args.to in
    let before = take i xs in
    let more = take (j - i) (drop i xs) in
    let all = taken xs i j c.requires.order c.requires.within in
    let fed : feeds (take j xs) ≡ feeds before + feeds more = ap feeds all ∙ sum_by-append (λ x. cond (x == 10) 1 0) before more in
    let short : length more ≤ j - i = omega (arith, length-take (j - i) (drop i xs)) in
    record {
      within = c.requires.within;
      is = (omega (arith, fed, c.advance.ensures.line, c.requires.stands.is.0), c.advance.ensures.column before c.requires.stands.is.1 ∙ ap column_of (sym all));
      narrow = omega (arith, short, c.advance.ensures.narrow, c.requires.stands.narrow, c.requires.order);
    }
