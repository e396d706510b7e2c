use Rattle.std.proofs.Common.{refl, sym, subst}
use Rattle.std.proofs.lemmas.Result.{err_from_is_err_and}
use Rattle.rdata_values.specs.Salt.{SpellsSalt}
use Rattle.rdata_fields.proofs.Refusals.{count_short, rest_short}
use Rattle.rdata_fields.specs.Forms.{salt_form}
use Rattle.rdata_fields.proofs.texts.append_salt_field.Goals as goal

pub returns-in_err-append_slice : goal.returns-in_err-append_slice
returns-in_err-append_slice g c =
    let p = err_from_is_err_and c.from_residual-in_err-append_slice.result c.from_residual-in_err-append_slice.ensures.1 in
    let text = c.args.token.now.text.now in
    let octets = c.as_slice-octets.result.now in
    let spelled = subst (SpellsSalt text) (sym c.as_slice-octets.ensures) c.in_ok-salt.ensures in
    rw (p.1, p.2) (count_short g.B.OctetsBuilder.room salt_form c.args.token.now.is_quoted text _ _ octets (c.if-token.false, record { octets = octets; spelled = spelled; whole = refl })
    c.in_err-append_slice.ensures.err c.in_err-append_slice.ensures.fits)

pub returns-in_err-append_slice-2 : goal.returns-in_err-append_slice-2
returns-in_err-append_slice-2 g c =
    let p = err_from_is_err_and c.from_residual-in_err-append_slice-2.result c.from_residual-in_err-append_slice-2.ensures.1 in
    let text = c.args.token.now.text.now in
    let octets = c.as_slice-octets.result.now in
    let spelled = subst (SpellsSalt text) (sym c.as_slice-octets.ensures) c.in_ok-salt.ensures in
    rw (p.1, p.2) (rest_short g.B.OctetsBuilder.room salt_form c.args.token.now.is_quoted text _ _ _ octets _ (c.if-token.false, record { octets = octets; spelled = spelled; whole = refl })
    c.in_ok-append_slice.ensures.ok c.in_err-append_slice-2.ensures.err c.in_err-append_slice-2.ensures.fits)
