use Rattle.std.proofs.Common.{sym, subst}
use Rattle.rdata_tails.specs.LocationParsing.{BeginsWithAngles, LacksWord}
use Rattle.rdata_tails.specs.Locations.{SpellsAltitude}
use Rattle.rdata_tails.proofs.LocationLemmas.{refuses_sizes}
use Rattle.rdata_tails.proofs.location.read_location.Goals as goal

pub returns-in_default-parse_part-clause-takes : goal.returns-in_default-parse_part-clause-takes
returns-in_default-parse_part-clause-takes g c =
    let h = c.in_default-parse_part.ensures.takes in
    subst (λ left. BeginsWithAngles (g.S.TokenSource.left c.args.source.now) left × LacksWord SpellsAltitude left) (sym h.0)
    ((c.in-Some.latitude, c.in-Some-parse_angle.longitude, _, c.in-Some.ensures.takes, c.in-Some-parse_angle.ensures.takes), h.1)

pub returns-in-Err-clause-takes : goal.returns-in-Err-clause-takes
returns-in-Err-clause-takes g c =
    refuses_sizes c.in-Err.why _ _ _
    (c.in-Some-parse_part.altitude, _, (c.in-Some.latitude, c.in-Some-parse_angle.longitude, _, c.in-Some.ensures.takes, c.in-Some-parse_angle.ensures.takes), c.in-Some-parse_part.ensures.takes)
    c.in-Err.ensures.takes

pub returns-clause-takes : goal.returns-clause-takes
returns-clause-takes g c =
    let h = c.in-Ok.ensures.takes in (
      h.0,
      record {
        behind_latitude = _;
        behind_longitude = _;
        behind_altitude = _;
        latitude = c.in-Some.ensures.takes;
        longitude = c.in-Some-parse_angle.ensures.takes;
        altitude = c.in-Some-parse_part.ensures.takes;
        sizes = h.1;
      },
    )
