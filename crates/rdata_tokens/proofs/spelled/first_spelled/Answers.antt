use Rattle.std.proofs.Common.{refl}
use Rattle.dns_symbol.proofs.Spelled.{no_spelling}
use Rattle.rdata_tokens.proofs.Fronts.{plain_front, escape_front}
use Rattle.rdata_tokens.proofs.spelled.first_spelled.Goals as goal

pub returns-then-first-ne92 : goal.returns-then-first-ne92
returns-then-first-ne92 c = plain_front c.args.text.now c.requires c.if-first-ne92.true

pub returns-in-Ok : goal.returns-in-Ok
returns-in-Ok c = escape_front c.args.text.now c.in-Ok.escape c.len.result c.len.ensures c.in-Ok.ensures.reads

pub returns-in-Err : goal.returns-in-Err
returns-in-Err c = (refl, record { some = c.requires; none = no_spelling c.args.text.now c.if-first-ne92.false c.in-Err.ensures.reads.0 })
