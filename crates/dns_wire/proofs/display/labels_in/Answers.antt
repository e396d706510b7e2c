use Rattle.std.proofs.Common.{◌∙◌, refl}
use Rattle.dns_wire.proofs.Walks.{unrooted_text, rooted_text, root_text, cut_text, cut_ascii, dot_ascii, put_none, as_bytes}
use Rattle.dns_wire.proofs.display.labels_in.Goals as goal

pub returns-then-not-root : goal.returns-then-not-root
returns-then-not-root c =
    let put = c.put_labels-end.ensures in
    as_bytes _ _ _ (c.ascii_text.ensures ∙ put.text) (unrooted_text c.args.form c.args.dot c.args.labels (λ e. let t = put.root.1 e in cc)) put.ascii

pub returns-then-end-eq0 : goal.returns-then-end-eq0
returns-then-end-eq0 c =
    let put = c.put_labels-end.ensures in
    as_bytes _ _ _ refl (root_text c.args.form c.args.dot c.args.labels (put.root.0 c.if-not-root.false) (put_none _ _ _ c.if-end-eq0.true put.text)) dot_ascii

pub returns-then-dot : goal.returns-then-dot
returns-then-dot c =
    let put = c.put_labels-end.ensures in
    as_bytes _ _ _ (c.ascii_text-then-dot.ensures ∙ put.text) (rooted_text c.args.form c.args.dot c.args.labels _ _ c.if-dot.true put.text put.fits c.if-end-eq0.false) put.ascii

pub returns : goal.returns
returns c =
    let put = c.put_labels-end.ensures in
    as_bytes _ _ _ c.ascii_text-2.ensures
    (cut_text c.args.form c.args.dot c.args.labels _ _ c.if-dot.false put.text put.fits c.if-end-eq0.false (put.root.0 c.if-not-root.false))
    (cut_ascii _ _ (rw put.text put.ascii))
