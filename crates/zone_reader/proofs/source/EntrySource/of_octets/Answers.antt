use Rattle.zone_reader.proofs.TokenEnds.{seen_end, source_starts}
use Rattle.zone_reader.proofs.source.EntrySource.of_octets.Goals as goal

pub invariant_of-result : goal.invariant_of-result
invariant_of-result c = source_starts c.of_octets-tokens.result (seen_end c.args.octets.now c.of_octets-tokens.result c.can_count.ensures c.of_octets-tokens.ensures)
