use Rattle.std.proofs.Common.{inl, refl}
use Rattle.zone_stream.proofs.blocks.BlockReader.find_entry.Goals as goal

pub returns-then-is_put_off : goal.returns-then-is_put_off
returns-then-is_put_off g c = record { same = refl; finds = inl (c.is_put_off.ensures.put_off c.if-is_put_off.true) }
