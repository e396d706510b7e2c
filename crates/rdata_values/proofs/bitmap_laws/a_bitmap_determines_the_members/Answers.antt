use Rattle.rdata_values.proofs.Taking.{window_bits}
use Rattle.rdata_values.proofs.Telling.{same_members, one_ascending}
use Rattle.rdata_values.proofs.bitmap_laws.a_bitmap_determines_the_members.Goals as goal

pub returns : goal.returns
returns c = record {
  members = same_members;
  list = λ a b e up vp l m. one_ascending a b up vp l m (λ code small. same_members a b code e small);
  place = window_bits;
}
