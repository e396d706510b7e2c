use Rattle.std.proofs.Common.{arith}
use Rattle.zone_format.proofs.Opened.{quote_within}
use Rattle.zonetext_lib.proofs.blocks.locate_after.Goals as goal

pub moved-requires-clause-quote : goal.moved-requires-clause-quote
moved-requires-clause-quote c = λ i is. omega (arith, quote_within c.args.octets.now c.args.fault i c.requires.fault.is is, c.requires.room)

pub returns-clause-position : goal.returns-clause-position
returns-clause-position c = λ before at. c.locate_from-found.ensures.position 0 before at
