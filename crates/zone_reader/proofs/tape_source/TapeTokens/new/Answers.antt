use Rattle.zone_reader.proofs.Filling.{end_within}
use Rattle.zone_reader.proofs.tape_source.TapeTokens.new.Goals as goal

pub invariant_of-result : goal.invariant_of-result
invariant_of-result c = record { within = c.requires.fills.within; ends = end_within c.args.octets.now c.args.spans.now c.args.end c.requires.fills; room = c.requires.room }
