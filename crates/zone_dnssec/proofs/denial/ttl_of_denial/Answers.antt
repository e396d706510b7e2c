use Rattle.std.proofs.Common.{ap, ◌∙◌}
use Rattle.std.specs.Option.{option_map}
use Rattle.zone_dnssec.specs.DenialRecords.{soa_ttl}
use Rattle.zone_dnssec.proofs.denial.ttl_of_denial.Goals as goal

pub returns-in-Some : goal.returns-in-Some
returns-in-Some g c = c.ttl_at.ensures ∙ ap (option_map soa_ttl) c.in-Some.ensures.value

pub returns-in-None : goal.returns-in-None
returns-in-None g c = ap (option_map soa_ttl) c.in-None.ensures.value
