use Rattle.std.proofs.Common.{[], ◌∷◌, ◌++◌, ◌∙◌, sym, ap, length}
use Rattle.rdata_svcb.specs.Texts.{item_octet}
use Rattle.rdata_svcb.proofs.Printing.{escaped_special, escaped_plain}
use Rattle.rdata_svcb.proofs.ListFaults.{on_ok, on_lack, octet_room}
use Rattle.rdata_svcb.proofs.texts.append_octet.Goals as goal

pub returns-then-is_escaped-clause-ok : goal.returns-then-is_escaped-clause-ok
returns-then-is_escaped-clause-ok g c =
    let old = g.B.AsOctets.octets c.args.target.now in
    on_ok c.append_slice.result _ _ (λ e. e ∙ ap (λ x. old ++ x) (sym (escaped_special c.args.octet (sym c.if-is_escaped.ensures)))) c.append_slice.ensures.ok

pub returns-then-is_escaped-clause-lacks : goal.returns-then-is_escaped-clause-lacks
returns-then-is_escaped-clause-lacks g c =
    let old = g.B.AsOctets.octets c.args.target.now in let o = c.args.octet in
    on_lack c.append_slice.result 2 g.B.OctetsBuilder.room.fits (length old) _ c.append_slice.ensures.fits
    (λ l. octet_room g.B.OctetsBuilder.room.fits (length old) (92 ∷ o ∷ []) (item_octet o) l (escaped_special o (sym c.if-is_escaped.ensures)))

pub returns-else-is_escaped-clause-ok : goal.returns-else-is_escaped-clause-ok
returns-else-is_escaped-clause-ok g c =
    let old = g.B.AsOctets.octets c.args.target.now in
    on_ok c.append_slice-else-is_escaped.result _ _ (λ e. e ∙ ap (λ x. old ++ x) (sym (escaped_plain c.args.octet (sym c.if-is_escaped.ensures)))) c.append_slice-else-is_escaped.ensures.ok

pub returns-else-is_escaped-clause-lacks : goal.returns-else-is_escaped-clause-lacks
returns-else-is_escaped-clause-lacks g c =
    let old = g.B.AsOctets.octets c.args.target.now in let o = c.args.octet in
    on_lack c.append_slice-else-is_escaped.result 1 g.B.OctetsBuilder.room.fits (length old) _ c.append_slice-else-is_escaped.ensures.fits
    (λ l. octet_room g.B.OctetsBuilder.room.fits (length old) (o ∷ []) (item_octet o) l (escaped_plain o (sym c.if-is_escaped.ensures)))
