use Rattle.std.proofs.Common.{refl, ap, ◌++◌, ◌∷◌, [], ◌∙◌, inl}
use Rattle.std.proofs.lemmas.Bool.{false≢true}
use Rattle.std.proofs.lemmas.Result.{err_from_is_err_and}
use Rattle.rdata_svcb.proofs.ListRefusals.{length_exceeds, octets_exceed}
use Rattle.rdata_svcb.proofs.strings.append_item.Goals as goal

pub returns-in_err-append_slice-clause-err : goal.returns-in_err-append_slice-clause-err
returns-in_err-append_slice-clause-err g c =
    let p = err_from_is_err_and c.from_residual-in_err-append_slice.result c.from_residual-in_err-append_slice.ensures.1 in
    let ok = c.in_ok-rest.ensures.ok in
    rw (p.1, p.2) (inl (
      refl,
      length_exceeds g.B.OctetsBuilder.room c.args.text.now c.in_ok-rest.rest.now c.read_item.new.item.items (g.B.AsOctets.octets c.args.target.now) ok
          (λ fits. false≢true (c.in_err-append_slice.ensures.fits fits)),
    ))

pub returns-in_err-append_slice-2-clause-err : goal.returns-in_err-append_slice-2-clause-err
returns-in_err-append_slice-2-clause-err g c =
    let p = err_from_is_err_and c.from_residual-in_err-append_slice-2.result c.from_residual-in_err-append_slice-2.ensures.1 in
    let old = g.B.AsOctets.octets c.args.target.now in let mid = g.B.AsOctets.octets c.append_slice.new.self in
    let ok = c.in_ok-rest.ensures.ok in let item = c.read_item.new.item.items in
    rw (p.1, p.2) (inl (
      refl,
      octets_exceed g.B.OctetsBuilder.room c.args.text.now c.in_ok-rest.rest.now item old mid ok
          (c.in_ok-append_slice.ensures.ok ∙ ap (λ n. old ++ n ∷ []) c.len.ensures.value)
          (λ fits. false≢true (c.in_err-append_slice-2.ensures.fits (rw c.as_slice.ensures.value fits))),
    ))
