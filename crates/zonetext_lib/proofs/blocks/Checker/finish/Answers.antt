use Rattle.std.proofs.Common.{◌≡◌, sym, ap, ◌∙◌, subst}
use Rattle.zonetext_lib.specs.Blocks.{Holds}
use Rattle.zonetext_lib.specs.Held.{Held}
use Rattle.zonetext_lib.proofs.Cuts.{fault_alone}
use Rattle.zonetext_lib.proofs.Holding.{held_at, ended_bad, ended_well}
use Rattle.zonetext_lib.proofs.blocks.Checker.finish.Goals as goal

pub locate_after-requires-clause-fault : goal.locate_after-requires-clause-fault
locate_after-requires-clause-fault g c =
    let e = c.in-Some.ensures.fault in
    fault_alone c.as_slice-held.result.now e.0 c.in-Some.fault e.1

pub returns-in-Some-clause-bad : goal.returns-in-Some-clause-bad
returns-in-Some-clause-bad g c = λ all h.
    let here : Held = held_at c.as_slice-held.result.now c.self.inside.place c.self.inside.left in
    let same : c.args.self.now ≡ here = sym c.self.view_is ∙ ap (λ l. held_at l c.self.inside.place c.self.inside.left) (sym c.as_slice-held.ensures.value) in
    ended_bad all here c.in-Some.fault c.locate_after.result (subst (Holds all) same h) c.in-Some.ensures.octets c.in-Some.ensures.fault
    (record { fault = c.locate_after.ensures.fault; position = c.locate_after.ensures.position; opened = c.locate_after.ensures.opened })

pub returns-in-None-clause-well : goal.returns-in-None-clause-well
returns-in-None-clause-well g c = λ all h.
    let here : Held = held_at c.as_slice-held.result.now c.self.inside.place c.self.inside.left in
    let same : c.args.self.now ≡ here = sym c.self.view_is ∙ ap (λ l. held_at l c.self.inside.place c.self.inside.left) (sym c.as_slice-held.ensures.value) in
    ended_well all here (subst (Holds all) same h) c.in-None.ensures.octets c.in-None.ensures.fault
