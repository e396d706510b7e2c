use Rattle.std.proofs.Common.{refl, subst}
use Rattle.zone_contents.specs.Digests.{distinct_records, FindsSerial}
use Rattle.zone_contents.proofs.RightData.{right_made}
use Rattle.zone_contents.specs.Computed.{hash_code}
use Rattle.zone_contents.proofs.digests.right_data.Goals as goal

pub returns-in-Ok-make_data-clause-ok : goal.returns-in-Ok-make_data-clause-ok
returns-in-Ok-make_data-clause-ok g c =
    let apex = c.args.apex.now in
    let z = c.args.zone.now in
    right_made apex (distinct_records z) c.in-Some.serial (hash_code c.args.algorithm) _ _ (subst (FindsSerial apex z) c.in-Some.is c.in-Ok.ensures.ok) refl c.in-Ok-make_data.ensures
