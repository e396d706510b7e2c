use Rattle.std.proofs.Common.{arith}
use Rattle.zone_set.proofs.RunOctets.{number32_front}
use Rattle.zone_set.proofs.run_record.read_number32.Goals as goal

pub returns : goal.returns
returns c =
    let cases = c.in_ok-front.ensures.cases in
    number32_front c.args.octets.now c.in_ok-front.front.now c.in_ok-front.rest.now c.from_be_bytes.result (λ k. (let fits = c.type_inv.octets k in omega arith)) (omega (arith, cases.2))
    cases.0 cases.1 c.from_be_bytes.ensures
