use Rattle.rdata.proofs.ParamsRestLaws.{params_taken}
use Rattle.rdata.proofs.params.parse_service_params.Goals as goal

pub returns-clause-takes : goal.returns-clause-takes
returns-clause-takes g c =
    let e = c.parse_params.ensures in
    params_taken g.B.OctetsBuilder.room _ _ _ _ _ c.parse_params.result e.ok e.taken e.err e.extends
