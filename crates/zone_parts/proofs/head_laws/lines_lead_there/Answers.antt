use Rattle.zone_parts.proofs.HeadReads.{leads_there}
use Rattle.zone_parts.proofs.head_laws.lines_lead_there.Goals as goal

pub returns : goal.returns
returns c = leads_there c.args.state.now c.args.head.now c.know_origin.ensures c.know_record.ensures
