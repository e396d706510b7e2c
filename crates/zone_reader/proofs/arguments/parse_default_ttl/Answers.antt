use Rattle.zone_reader.proofs.Refusals.{default_refused}
use Rattle.zone_reader.proofs.arguments.parse_default_ttl.Goals as goal

pub returns-in_err-parse_end-clause-takes : goal.returns-in_err-parse_end-clause-takes
returns-in_err-parse_end-clause-takes g c =
    default_refused _ _ _ _ c.in_ok-ttl.ttl c.in_err-parse_end.field-0.0 c.from_residual-in_err-parse_end.result c.from_residual-in_err-parse_end.ensures.1 c.in_ok-ttl.ensures.takes c.in_err-parse_end.ensures.takes
