use Rattle.std.proofs.Common.{ap, arith}
use Rattle.std.specs.Prelude.{Ok, Err, slice_index}
use Rattle.std.specs.Option.{option_copied}
use Rattle.rdata.specs.GatewayKeys.{octet_form, gateway_type_form, gateway_form, key_form}
use Rattle.rdata.proofs.ErrorPlaces.{part_error}
use Rattle.rdata.proofs.GatewayLaws.{behind_algorithm, behind_type, type_before, algorithm_before, gateway_before, algorithm_part, gateway_part, key_part}
use Rattle.rdata.proofs.TokenRests.{first_refused}
use Rattle.rdata.proofs.gateways.parse_gateway_parts.Goals as goal

pub returns-in-Err-clause-takes : goal.returns-in-Err-clause-takes
returns-in-Err-clause-takes g c =
    let origin = option_copied c.args.origin in
    let why = c.in-Err.error in
    (why, 0, part_error _ why _ c.args.before 0 c.in_field.ensures (omega arith), first_refused gateway_type_form (λ number. behind_type origin (slice_index number 0)) g.B.OctetsBuilder.room _ _ _ why _ _ c.in-Err.ensures.takes, c.in-Err.ensures.takes.0)

pub returns-in-Err-parse_algorithm-clause-takes : goal.returns-in-Err-parse_algorithm-clause-takes
returns-in-Err-parse_algorithm-clause-takes g c =
    let origin = option_copied c.args.origin in
    let room = g.B.OctetsBuilder.room in
    let number = c.in-Ok.number in
    let why = c.in-Err-parse_algorithm.error in
    let type = c.in-Ok.ensures.takes in
    let refused = c.in-Err-parse_algorithm.ensures.takes in (
      why,
      1,
      part_error _ why _ c.args.before 1 c.in_field-in-Err-parse_algorithm.ensures (omega arith),
      type_before origin number 0 room _ _ _ _ _ _ (Err why) _ _ (ap (λ e. e.at) c.parse_gateway_type.ensures.end) type
          (first_refused octet_form (λ algorithm. behind_algorithm origin number (slice_index algorithm 0)) room _ _ _ why _ _ refused),
      algorithm_part origin _ _ type.0 _ type.1 number type.2 refused.0,
    )

pub returns-in-Err-parse_gateway-clause-takes : goal.returns-in-Err-parse_gateway-clause-takes
returns-in-Err-parse_gateway-clause-takes g c =
    let origin = option_copied c.args.origin in
    let room = g.B.OctetsBuilder.room in
    let number = c.in-Ok.number in
    let algorithm = c.in-Ok-parse_algorithm.algorithm in
    let why = c.in-Err-parse_gateway.error in
    let type = c.in-Ok.ensures.takes in
    let named = c.in-Ok-parse_algorithm.ensures.takes in
    let refused = c.in-Err-parse_gateway.ensures.takes in
    let behind = first_refused (gateway_form origin number) (λ gateway. key_form algorithm) room _ _ _ why _ _ refused in
    let later = algorithm_before origin number algorithm room _ _ _ _ _ _ (Err why) _ _ (ap (λ e. e.at) c.parse_algorithm.ensures.end) named behind in (
      why,
      2,
      part_error _ why _ c.args.before 2 c.in_field-in-Err-parse_gateway.ensures (omega arith),
      type_before origin number algorithm room _ _ _ _ _ _ (Err why) _ _ (ap (λ e. e.at) c.parse_gateway_type.ensures.end) type later,
      gateway_part origin _ _ type.0 _ type.1 number type.2 named.0 _ named.1 algorithm named.2 refused.0,
    )

pub returns-in-Err-parse_key-clause-takes : goal.returns-in-Err-parse_key-clause-takes
returns-in-Err-parse_key-clause-takes g c =
    let origin = option_copied c.args.origin in
    let room = g.B.OctetsBuilder.room in
    let number = c.in-Ok.number in
    let algorithm = c.in-Ok-parse_algorithm.algorithm in
    let why = c.in-Err-parse_key.error in
    let type = c.in-Ok.ensures.takes in
    let named = c.in-Ok-parse_algorithm.ensures.takes in
    let gateway = c.in_default.ensures.takes in
    let last = gateway_before origin number algorithm room _ _ _ _ _ _ (Err why) _ _ (ap (λ e. e.at) c.parse_gateway.ensures.end) gateway c.in-Err-parse_key.ensures.takes in
    let later = algorithm_before origin number algorithm room _ _ _ _ _ _ (Err why) _ _ (ap (λ e. e.at) c.parse_algorithm.ensures.end) named last in (
      why,
      3,
      part_error _ why _ c.args.before 3 c.in_field-in-Err-parse_key.ensures (omega arith),
      type_before origin number algorithm room _ _ _ _ _ _ (Err why) _ _ (ap (λ e. e.at) c.parse_gateway_type.ensures.end) type later,
      key_part origin _ _ type.0 _ type.1 number type.2 named.0 _ named.1 algorithm named.2 gateway.0 _ gateway.2.0 gateway.1 gateway.2.1,
    )

pub returns-clause-takes : goal.returns-clause-takes
returns-clause-takes g c =
    let origin = option_copied c.args.origin in
    let room = g.B.OctetsBuilder.room in
    let number = c.in-Ok.number in
    let algorithm = c.in-Ok-parse_algorithm.algorithm in
    let last = gateway_before origin number algorithm room _ _ _ _ _ _ (Ok tt) _ _ (ap (λ e. e.at) c.parse_gateway.ensures.end) c.in_default.ensures.takes c.in_default-parse_key.ensures.takes in
    let later = algorithm_before origin number algorithm room _ _ _ _ _ _ (Ok tt) _ _ (ap (λ e. e.at) c.parse_algorithm.ensures.end) c.in-Ok-parse_algorithm.ensures.takes last in
    type_before origin number algorithm room _ _ _ _ _ _ (Ok tt) _ _ (ap (λ e. e.at) c.parse_gateway_type.ensures.end) c.in-Ok.ensures.takes later
