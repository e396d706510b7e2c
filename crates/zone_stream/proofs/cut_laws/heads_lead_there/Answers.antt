use Rattle.zone_stream.proofs.HeadReads.{leads_there}
use Rattle.zone_stream.proofs.cut_laws.heads_lead_there.Goals as goal

pub returns : goal.returns
returns g c = leads_there c.args.head.now c.know_origin.ensures c.known_origins_have_octets.ensures c.know_repeated.ensures c.know_record.ensures
