use Rattle.std.proofs.Common.{ap, false}
use Rattle.zonetext_lib.specs.Layout.{laid_out}
use Rattle.zonetext_lib.proofs.Layouts.{keeps_entries}
use Rattle.zonetext_lib.proofs.Once.{entries_once}
use Rattle.zonetext_lib.proofs.laws.layout_is_stable.Goals as goal

pub returns : goal.returns
returns c = λ octets gap es fs h k. ap (laid_out gap false) (entries_once (laid_out gap false es) fs es k (keeps_entries octets gap es h))
