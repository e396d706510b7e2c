use Rattle.std.proofs.Common.{false, ap, ◌∙◌}
use Rattle.std.specs.Option.{option_map_or}
use Rattle.zone_dnssec.specs.Nsec3Chain.{opts_out}
use Rattle.zone_dnssec.proofs.hashed.is_covered.Goals as goal

pub returns-in-Some : goal.returns-in-Some
returns-in-Some g c = c.has_opt_out_at.ensures ∙ ap (λ o. option_map_or opts_out o false) c.in-Some.ensures.value

pub returns-in-None : goal.returns-in-None
returns-in-None g c = ap (λ o. option_map_or opts_out o false) c.in-None.ensures.value
