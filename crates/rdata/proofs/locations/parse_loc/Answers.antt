use Rattle.rdata.proofs.LocationLemmas.{location_taken}
use Rattle.rdata.proofs.locations.parse_loc.Goals as goal

pub returns-clause-takes : goal.returns-clause-takes
returns-clause-takes g c =
    let e = c.parse_location.ensures in
    location_taken g.B.OctetsBuilder.room _ _ _ _ _ c.parse_location.result e.ok e.taken e.err e.why
