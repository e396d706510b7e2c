use Rattle.std.proofs.Common.{arith}
use Rattle.rdata_tokens.proofs.LabelParts.{plain_opens}
use Rattle.rdata_tokens.proofs.names.plain_label.Goals as goal

pub returns : goal.returns
returns c =
    let count = c.plain_label_count-count.result in
    let e = c.plain_label_count-count.ensures in
    let x = plain_opens c.args.text.now c.args.room count e.within e.plain c.if-count-gt-MAX_LABEL.false c.if-count-room.false in
    (x.0, x.1, c.ends_label.ensures c.if-not-ends_label.false, x.2, x.3, omega (arith, c.if-count-eq0.false))
