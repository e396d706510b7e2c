use Rattle.rdata_values.proofs.TypesOf.{same_bitmap, same_types_more}
use Rattle.rdata_values.proofs.bitmap_laws.a_bitmap_is_of_a_set.Goals as goal

pub returns : goal.returns
returns c = record { bitmap = same_bitmap; more = same_types_more }
