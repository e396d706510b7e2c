use Rattle.std.proofs.Common.{◌≡◌, rules, true}
use Rattle.c_calls.proofs.KeptNames.{origin_is_made, origin_kept}
use Rattle.c_calls.proofs.records.included_origin.Goals as goal

pub returns-in-Ok : goal.returns-in-Ok
returns-in-Ok c =
    let has : c.args.has_origin ≡ true = search rules in
    λ origin said. origin_kept origin c.args.has_origin c.args.octets.now c.in-Ok.name said has c.in-Ok.ensures

pub returns-in-Err : goal.returns-in-Err
returns-in-Err c =
    let has : c.args.has_origin ≡ true = search rules in
    λ origin said. absurd (origin_is_made origin c.args.has_origin c.args.octets.now c.in-Err.field-0 said has c.in-Err.ensures)
