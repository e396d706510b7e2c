use Rattle.rdata_values.proofs.TtlLaws.{ttls_are_kind, intervals_are_kind}
use Rattle.rdata_values.proofs.ttl.ttls_are_read_back.Goals as goal

pub returns : goal.returns
returns c = record { ttl = ttls_are_kind; interval = intervals_are_kind }
