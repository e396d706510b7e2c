use Rattle.std.proofs.Common.{refl}
use Rattle.std.proofs.lemmas.Result.{err_from_is_err_and}
use Rattle.rdata_fields.proofs.Refusals.{count_short, rest_short}
use Rattle.rdata_fields.specs.Forms.{psdn_address_form}
use Rattle.rdata_fields.proofs.texts.append_psdn_address.Goals as goal

pub returns-in_err-append_slice : goal.returns-in_err-append_slice
returns-in_err-append_slice g c =
    let p = err_from_is_err_and c.from_residual.result c.from_residual.ensures.1 in
    let text = c.args.token.now.text.now in
    rw (p.1, p.2) (count_short g.B.OctetsBuilder.room psdn_address_form c.args.token.now.is_quoted text _ _ text (c.if-not-is_psdn_address.ensures, refl) c.in_err-append_slice.ensures.err c.in_err-append_slice.ensures.fits)

pub returns-in_err-append_slice-2 : goal.returns-in_err-append_slice-2
returns-in_err-append_slice-2 g c =
    let p = err_from_is_err_and c.from_residual-in_err-append_slice-2.result c.from_residual-in_err-append_slice-2.ensures.1 in
    let text = c.args.token.now.text.now in
    rw (p.1, p.2) (rest_short g.B.OctetsBuilder.room psdn_address_form c.args.token.now.is_quoted text _ _ _ text _ (c.if-not-is_psdn_address.ensures, refl) c.in_ok-append_slice.ensures.ok
    c.in_err-append_slice-2.ensures.err c.in_err-append_slice-2.ensures.fits)
