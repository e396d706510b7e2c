use Rattle.std.proofs.Common.{◌<◌, take}
use Rattle.std.specs.Prelude.{All, IsTrue}
use Rattle.zone_contents.proofs.zone_key.is_plain.Given as goal

abbrev pub invariant-loop-index : goal.invariant-loop-index
invariant-loop-index l = IsTrue l.is_plain → All (λ o. 1 < o) (take l.index l.block)
