use Rattle.std.proofs.Common.{take}
use Rattle.rdata_values.proofs.TypesOf.{window_over}
use Rattle.rdata_values.proofs.bitmap.BitmapTypes.new.Goals as goal

pub returns : goal.returns
returns c = window_over 0 (take 0 c.args.octets.now) c.args.octets.now
