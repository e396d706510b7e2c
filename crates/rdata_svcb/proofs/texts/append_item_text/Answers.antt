use Rattle.std.proofs.Common.{◌++◌, ◌∙◌, sym, ap, take, get_or, refl, append_assoc}
use Rattle.rdata_svcb.specs.Texts.{item_octet, item_text}
use Rattle.std.proofs.lemmas.Result.{err_from_is_err_and}
use Rattle.rdata_svcb.proofs.Printing.{text_more}
use Rattle.rdata_svcb.proofs.ListFaults.{item_text_lacks}
use Rattle.rdata_svcb.proofs.texts.append_item_text.Goals as goal

pub loop-octet-preserved : goal.loop-octet-preserved
loop-octet-preserved g c =
    let old = g.B.AsOctets.octets c.args.target.now in let item = c.args.item.now in let i = c.loop-octet.octet-index in
    c.in_ok-append_octet.ensures.ok ∙ ap (λ x. x ++ item_octet (get_or item i 0)) c.loop-octet.invariant
    ∙ append_assoc old (item_text (take i item)) (item_octet (get_or item i 0)) ∙ ap (λ x. old ++ x) (sym (text_more item i 0 c.loop-octet-test.true))

pub returns-in_err-append_octet-clause-lacks : goal.returns-in_err-append_octet-clause-lacks
returns-in_err-append_octet-clause-lacks g c =
    let p = err_from_is_err_and c.from_residual.result c.from_residual.ensures.1 in
    rw p.1 (item_text_lacks g.B.OctetsBuilder.room.fits (g.B.AsOctets.octets c.args.target.now) (g.B.AsOctets.octets c.loop-octet.target) c.args.item.now c.loop-octet.octet-index c.loop-octet-test.true
    c.loop-octet.invariant (c.in_err-append_octet.ensures.lacks _ refl))
