use Rattle.zone_reader.proofs.Kept.{rest_kept}
use Rattle.zone_reader.proofs.source.the_rest_is_kept.Goals as goal

pub returns : goal.returns
returns c = rest_kept
