use Rattle.std.proofs.Common.{ap}
use Rattle.zone_reader.proofs.Refusals.{words_refused}
use Rattle.zone_reader.proofs.header.parse_header.Goals as goal

pub returns-in-Err-clause-takes : goal.returns-in-Err-clause-takes
returns-in-Err-clause-takes g c = words_refused _ _ _ _ _ _ _ _ c.in-Err.error (ap (λ e. e.at) c.parse_ttl_and_class-head.ensures.end) c.is_none.ensures c.parse_ttl_and_class-head.ensures.takes c.in-Err.ensures.takes
