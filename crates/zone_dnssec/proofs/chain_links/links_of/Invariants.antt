use Rattle.std.proofs.Common.{◌≡◌, take}
use Rattle.zone_dnssec.specs.ChainLinks.{link_places}
use Rattle.zone_dnssec.proofs.chain_links.links_of.Given as goal

abbrev pub invariant-loop-place : goal.invariant-loop-place
invariant-loop-place g l = l.links.items ≡ link_places l.chain (take l.place (g.Z.ZoneRecords.contents l.records))
