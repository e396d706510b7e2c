use Rattle.zone_reader.proofs.TokenEnds.{seen_from_end, source_starts}
use Rattle.zone_reader.proofs.source.EntrySource.starting_at.Goals as goal

pub invariant_of-result : goal.invariant_of-result
invariant_of-result c =
    source_starts c.of_octets_starting_at-tokens.result
    (seen_from_end c.args.octets.now c.args.at c.of_octets_starting_at-tokens.result c.can_count.ensures c.requires c.of_octets_starting_at-tokens.ensures)
