use Rattle.std.proofs.Common.{refl}
use Rattle.dns_codec.specs.Pairs.{IsPairs}
use Rattle.dns_codec.proofs.pairs.pairs.Goals as goal

pub returns-clause-pairs : goal.returns-clause-pairs
unfolding IsPairs
returns-clause-pairs c = refl
