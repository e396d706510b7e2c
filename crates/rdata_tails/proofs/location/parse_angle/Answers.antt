use Rattle.std.proofs.Common.{inl}
use Rattle.rdata_tails.proofs.LocationLemmas.{angle_taken}
use Rattle.rdata_tails.proofs.location.parse_angle.Goals as goal

pub returns-in-Some-clause-takes : goal.returns-in-Some-clause-takes
returns-in-Some-clause-takes g c = (c.in_ok-degrees.degrees, _, c.in_ok-degrees.ensures.takes, inl c.in-Some.ensures.takes)

pub returns-clause-takes : goal.returns-clause-takes
returns-clause-takes g c = angle_taken c.args.axis _ _ _ _ c.in_ok-degrees.degrees _ c.in_ok-degrees.ensures.takes c.in_default.ensures.takes c.parse_minutes.ensures.takes
