use Rattle.rdata_values.proofs.TypesOf.{types_of_same, types_of_ascending, types_of_small, types_of_bitmap, bitmap_of_types}
use Rattle.rdata_values.proofs.bitmap_laws.a_bitmap_is_read_back.Goals as goal

pub returns : goal.returns
returns c = record { types = types_of_same; ascending = types_of_ascending; small = types_of_small; list = types_of_bitmap; octets = bitmap_of_types }
