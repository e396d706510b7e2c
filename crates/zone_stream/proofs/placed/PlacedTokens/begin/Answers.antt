use Rattle.zone_stream.proofs.BeginsPlaced.{begins_placed, fits_begun}
use Rattle.zone_stream.proofs.placed.PlacedTokens.begin.Goals as goal

pub invariant_of-result : goal.invariant_of-result
invariant_of-result c =
    let s = c.of_octets-source.ensures in
    fits_begun c.args.octets.now c.args.base c.of_octets-source.result c.begin-started.result c.begin-started.new.self s.parts s.closed s.began c.begin-started.ensures c.requires

pub returns : goal.returns
returns c =
    let s = c.of_octets-source.ensures in
    begins_placed c.args.octets.now c.args.base c.of_octets-source.result c.begin-started.result c.begin-started.new.self s.parts s.closed s.began c.begin-started.ensures
