use Rattle.std.proofs.Common.{inl}
use Rattle.rdata_tails.proofs.LocationLemmas.{minutes_taken}
use Rattle.rdata_tails.proofs.location.parse_minutes.Goals as goal

pub returns-in-Some-clause-takes : goal.returns-in-Some-clause-takes
returns-in-Some-clause-takes g c = (c.in_ok-minutes.minutes, _, c.in_ok-minutes.ensures.takes, inl c.in-Some.ensures.takes)

pub returns-clause-takes : goal.returns-clause-takes
returns-clause-takes g c = minutes_taken c.args.axis c.args.degrees _ _ _ _ c.in_ok-minutes.minutes _ c.in_ok-minutes.ensures.takes c.in_default.ensures.takes c.parse_seconds.ensures.takes
