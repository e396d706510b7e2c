use Rattle.rdata_tails.proofs.LocationLemmas.{seconds_taken}
use Rattle.rdata_tails.proofs.location.parse_seconds.Goals as goal

pub returns-clause-takes : goal.returns-clause-takes
returns-clause-takes g c = seconds_taken c.args.axis c.args.minutes _ _ _ c.in_ok-seconds.seconds _ c.in_ok-seconds.ensures.takes c.parse_part-2.ensures.takes
