use Rattle.std.proofs.Common.{ℕ, List, refl}
use Rattle.std.specs.Borrow.{Bor}
use Rattle.std.proofs.lemmas.Result.{IfErr-weaker, on_ok_weaker}
use Rattle.zone_stream.specs.Heads.{IsHeadOf}
use Rattle.zone_stream.specs.declared.head.PartHead.{PartHead}
use Rattle.zone_stream.proofs.HeadSteps.{part_begins, part_fails}
use Rattle.zone_stream.proofs.cutter.Cutter.push_lines.Goals as goal

pub returns-clause-begins : goal.returns-clause-begins
returns-clause-begins g c =
    let head : PartHead (Bor (List ℕ)) (Bor (List ℕ)) = record { state = c.args.state; repeated = c.repeated-repeated.result; first = c.in_ok-first.first } in
    let is : IsHeadOf c.args.state.now c.args.self.now.soa c.args.given.now head = record { state_is = refl; repeated = c.repeated-repeated.ensures; first = c.in_ok-first.ensures.is } in
    on_ok_weaker c.push_head.result (part_begins c.args.state.now c.args.self.now.soa c.args.given.now _ _ head is) c.push_head.ensures.pushes

pub returns-clause-error : goal.returns-clause-error
returns-clause-error g c =
    let head : PartHead (Bor (List ℕ)) (Bor (List ℕ)) = record { state = c.args.state; repeated = c.repeated-repeated.result; first = c.in_ok-first.first } in
    let is : IsHeadOf c.args.state.now c.args.self.now.soa c.args.given.now head = record { state_is = refl; repeated = c.repeated-repeated.ensures; first = c.in_ok-first.ensures.is } in
    IfErr-weaker c.push_head.result _ _ (part_fails c.args.state.now c.args.self.now.soa c.args.given.now head is) c.push_head.ensures.error
