use Rattle.std.proofs.Common.{ℕ, List, length, sym, subst, ap, ◌∙◌, arith}
use Rattle.rdata_svcb.specs.Params.{IsUnsettled}
use Rattle.rdata_svcb.proofs.ParamParts.{put_behind, part_behind}
use Rattle.rdata_svcb.proofs.parsing.settle.Goals as goal

pub returns-clause-settled : goal.returns-clause-settled
returns-clause-settled g c = λ base octets params key value fit small is_start is_at is_old unsettled.
    let old = g.B.AsOctets.octets c.args.target.now in let slice = c.as_slice_mut-octets.result.now in
    let part = part_behind old slice base octets c.args.start c.as_slice_mut-octets.ensures.value is_old is_start in
    let P : List ℕ → Type 0 = IsUnsettled params key value in (
      c.settle_last.new.octets,
      g.met.B.AsOctetsMut.octets_with c.args.target.now _ ∙ put_behind old slice base octets c.settle_last.new.octets c.args.start c.as_slice_mut-octets.ensures.value is_old is_start (c.settle_last.auto.octets ∙ ap length part),
      c.settle_last.ensures.settled params key value fit small (omega arith) (subst P (sym part) unsettled),
    )
