use Rattle.std.proofs.Common.{[], ◌∷◌, ◌++◌, ◌∙◌, ap, append_assoc, length}
use Rattle.std.proofs.lemmas.Result.{err_from_is_err_and}
use Rattle.rdata_svcb.proofs.WireItems.{takes_more, octet_shorter}
use Rattle.rdata_svcb.proofs.ListFaults.{octet_lacks, refused_room}
use Rattle.rdata_svcb.proofs.texts.copy_item.Goals as goal

pub loop-first-smaller : goal.loop-first-smaller
loop-first-smaller g c = octet_shorter c.loop-first.rest.now c.in-Some.first.rest.now c.in-Some.first.octet c.in-Some.ensures

pub loop-first-preserved : goal.loop-first-preserved
loop-first-preserved g c =
    let front = c.loop-first.invariant.0 in let o = c.in-Some.first.octet in (
      front ++ o ∷ [],
      takes_more c.args.text.now front c.loop-first.rest.now c.in-Some.first.rest.now o c.loop-first.invariant.1 c.in-Some.ensures,
      c.in_ok-append_slice.ensures.ok ∙ ap (λ x. x ++ o ∷ []) c.loop-first.invariant.2 ∙ append_assoc (g.B.AsOctets.octets c.args.target.now) front (o ∷ []),
    )

pub returns-in_err-append_slice-clause-lacks : goal.returns-in_err-append_slice-clause-lacks
returns-in_err-append_slice-clause-lacks g c =
    let p = err_from_is_err_and c.from_residual.result c.from_residual.ensures.1 in
    let front = c.loop-first.invariant.0 in let o = c.in-Some.first.octet in
    rw p.1 (octet_lacks g.B.OctetsBuilder.room c.args.text.now front c.loop-first.rest.now c.in-Some.first.rest.now (g.B.AsOctets.octets c.args.target.now) (g.B.AsOctets.octets c.loop-first.target) o
    c.loop-first.invariant.1 c.in-Some.ensures c.loop-first.invariant.2 (refused_room c.append_slice.result 1 g.B.OctetsBuilder.room.fits (length (g.B.AsOctets.octets c.loop-first.target)) c.in_err-append_slice.was c.append_slice.ensures.fits))
