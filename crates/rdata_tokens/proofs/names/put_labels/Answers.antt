use Rattle.std.proofs.Common.{arith, ap, ◌∙◌, ◌-◌, ◌<◌, length, take, drop}
use Rattle.std.proofs.lemmas.List.{length-drop, length-set}
use Rattle.rdata_tokens.proofs.LabelParts.{rest_is}
use Rattle.rdata_tokens.proofs.PutLabels.{label_there, put_open, put_dotted, put_more}
use Rattle.rdata_tokens.proofs.names.put_labels.Goals as goal

pub returns-then-count-rest : goal.returns-then-count-rest
returns-then-count-rest c =
    let text = c.args.text.now in
    let start = c.labels.start in
    let count = c.put_label_count-count.result in
    let own = rest_is text start in
    let there = label_there text _ c.labels.wire start count own c.labels.invariant c.put_label_count-count.ensures.within c.if-count-eq0.false c.if-count-gt-MAX_LABEL.false c.put_label_count-count.ensures.plain in
    put_open text _ c.labels.wire start count own c.labels.invariant there c.if-count-rest.true

pub returns-then-start-len : goal.returns-then-start-len
returns-then-start-len c =
    let text = c.args.text.now in
    let start = c.labels.start in
    let count = c.put_label_count-count.result in
    let own = rest_is text start in
    let e = c.put_label_count-count.ensures in
    let there = label_there text _ c.labels.wire start count own c.labels.invariant e.within c.if-count-eq0.false c.if-count-gt-MAX_LABEL.false e.plain in
    put_dotted text _ c.labels.wire start count own c.labels.invariant there (omega (arith, e.within, c.if-count-rest.false)) c.if-rest-count-ne46.false c.if-start-len.true

pub labels-preserved : goal.labels-preserved
labels-preserved c =
    let text = c.args.text.now in
    let start = c.labels.start in
    let count = c.put_label_count-count.result in
    let own = rest_is text start in
    let i = c.labels.invariant in
    let e = c.put_label_count-count.ensures in
    let there = label_there text _ c.labels.wire start count own c.labels.invariant e.within c.if-count-eq0.false c.if-count-gt-MAX_LABEL.false e.plain in
    let before : count < length (take (length text - start) (drop start text)) = omega (arith, e.within, c.if-count-rest.false) in
    put_more text _ c.labels.wire start count own i there before c.if-rest-count-ne46.false
    (omega (arith, before, ap length own, length-drop start text, c.if-start-len.false)) (length-set c.labels.wire start count ∙ i.long)
