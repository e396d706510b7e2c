use Rattle.std.proofs.Common.{sym, subst}
use Rattle.zone_record.specs.TypeData.{IsTypeData}
use Rattle.zone_record.proofs.PartWalks.{row_starts}
use Rattle.zone_record.proofs.data.Data.part.Goals as goal

pub leading_part-requires : goal.leading_part-requires
leading_part-requires g c =
    let octets = c.args.self.now.octets in
    let own = subst (λ k. IsTypeData k octets) (sym c.rtype.ensures) c.as_slice.ensures.is_data in
    rw c.as_slice.ensures.value (row_starts c.rtype.result octets c.in_ok-row.row.now c.shape.result c.in_ok-row.ensures (c.shape.ensures.fields, c.shape.ensures.rest, c.shape.ensures.length) own)
