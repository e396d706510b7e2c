use Rattle.std.proofs.Common.{false, ap, ◌∙◌}
use Rattle.std.specs.Option.{option_map_or}
use Rattle.zone_dnssec.specs.HashedLinks.{is_hash_of}
use Rattle.zone_dnssec.specs.Nsec3Chain.{next_hash_of}
use Rattle.zone_dnssec.proofs.hashed.names_next.Goals as goal

pub returns-in-Some : goal.returns-in-Some
returns-in-Some g c = c.is_hash_at.ensures ∙ (λ i. option_map_or (is_hash_of c.args.origin.now (c.next_hash.ensures i)) (c.in-Some.ensures.value i) false)

pub returns-in-None : goal.returns-in-None
returns-in-None g c = ap (λ o. option_map_or (is_hash_of c.args.origin.now (next_hash_of c.args.record.now)) o false) c.in-None.ensures.value
