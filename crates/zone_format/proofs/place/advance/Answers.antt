use Rattle.std.proofs.Common.{◌++◌, ◌<◌, take, arith}
use Rattle.zone_format.proofs.Positions.{feeds_parted, line_begins, line_goes_on}
use Rattle.zone_format.proofs.place.advance.Goals as goal

pub returns-clause-line : goal.returns-clause-line
returns-clause-line c = omega (arith, c.advance_by_one-2.ensures.line, c.count_feeds.ensures, feeds_parted c.args.octets.now c.last_line-start.result c.last_line-start.ensures.within)

pub returns-clause-column : goal.returns-clause-column
returns-clause-column c = λ before e.
    let xs = c.args.octets.now in
    let s = c.last_line-start.result in
    let some : 0 < s = omega (arith, c.if-start-eq0.false) in
    let begins = line_begins before xs s some c.last_line-start.ensures.within (c.last_line-start.ensures.fed some) in
    line_goes_on before xs s _ c.last_line-start.ensures.within (c.advance_by_one-2.ensures.column (before ++ take s xs) begins)
