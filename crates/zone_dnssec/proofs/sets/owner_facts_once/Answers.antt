use Rattle.std.proofs.Common.{length, ap, arith}
use Rattle.dns_wire.proofs.Wires.{length_wire}
use Rattle.zone_dnssec.proofs.KnownNames.{facts_of_copy, last_facts}
use Rattle.zone_dnssec.proofs.sets.owner_facts_once.Goals as goal

pub copied_octets-copy-requires : goal.copied_octets-copy-requires
copied_octets-copy-requires g c = omega (arith, c.octets_of-octets.ensures.is_name.fits, ap length c.octets_of-octets.ensures.value, length_wire c.args.name.now)

pub returns-in-Some-clause-facts : goal.returns-in-Some-clause-facts
returns-in-Some-clause-facts g c =
    last_facts c.args.origin.now (g.Z.ZoneRecords.contents c.args.records.now) c.args.last.now c.octets_of-octets.result.now c.in-Some.facts c.args.name.now c.requires c.in-Some.ensures c.octets_of-octets.ensures.value

pub returns-clause-known : goal.returns-clause-known
returns-clause-known g c =
    facts_of_copy c.args.origin.now (g.Z.ZoneRecords.contents c.args.records.now) c.copied_octets-copy.result.items c.octets_of-octets.result.now c.args.name.now c.owner_facts-facts.result c.copied_octets-copy.ensures
    c.octets_of-octets.ensures.value c.owner_facts-facts.ensures
