use Rattle.std.proofs.Common.{Err, refl}
use Rattle.zone_reader.proofs.Learned.{nothing_learned}
use Rattle.zone_reader.proofs.entry.read_default_ttl.Goals as goal

pub returns-in-Err-clause-reads : goal.returns-in-Err-clause-reads
returns-in-Err-clause-reads g c =
    (Err c.in-Err.error, g.S.TokenSource.left c.parse_default_ttl.new.source, c.in-Err.ensures.takes, refl, nothing_learned c.args.state.now)
