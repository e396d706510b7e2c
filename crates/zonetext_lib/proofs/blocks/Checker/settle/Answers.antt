use Rattle.std.proofs.Common.{◌≡◌, sym, ap, ◌∙◌, subst}
use Rattle.std.specs.Prelude.{Ok, Err, encode_utf8_all}
use Rattle.dns_lexer.specs.Viable.{IsViable}
use Rattle.zonetext_lib.specs.Blocks.{Holds, Settled}
use Rattle.zonetext_lib.specs.Held.{Held}
use Rattle.zonetext_lib.proofs.Cuts.{fault_alone}
use Rattle.zonetext_lib.proofs.Holding.{held_at, halted}
use Rattle.zonetext_lib.proofs.blocks.Checker.settle.Goals as goal

pub locate_after-requires-clause-fault : goal.locate_after-requires-clause-fault
locate_after-requires-clause-fault g c =
    let e = c.in-Err.ensures.settled in
    fault_alone c.as_slice-held.result.now e.0 c.in-Err.fault e.1

pub returns-in-Ok-clause-settled : goal.returns-in-Ok-clause-settled
returns-in-Ok-clause-settled g c =
    let here : Held = held_at c.as_slice-held.result.now c.self.inside.place c.self.inside.left in
    let same : c.args.self.now ≡ here = sym c.self.view_is ∙ ap (λ l. held_at l c.self.inside.place c.self.inside.left) (sym c.as_slice-held.ensures.value) in
    subst (λ (h : Held). Settled h.octets (Ok c.in-Ok.cut)) (sym same) c.in-Ok.ensures.settled

pub returns-in-Ok-clause-viable : goal.returns-in-Ok-clause-viable
returns-in-Ok-clause-viable g c =
    let here : Held = held_at c.as_slice-held.result.now c.self.inside.place c.self.inside.left in
    let same : c.args.self.now ≡ here = sym c.self.view_is ∙ ap (λ l. held_at l c.self.inside.place c.self.inside.left) (sym c.as_slice-held.ensures.value) in
    subst (λ (h : Held). IsViable (encode_utf8_all h.octets)) (sym same) c.in-Ok.ensures.viable

pub returns-in-Err-clause-settled : goal.returns-in-Err-clause-settled
returns-in-Err-clause-settled g c =
    let here : Held = held_at c.as_slice-held.result.now c.self.inside.place c.self.inside.left in
    let same : c.args.self.now ≡ here = sym c.self.view_is ∙ ap (λ l. held_at l c.self.inside.place c.self.inside.left) (sym c.as_slice-held.ensures.value) in (
      c.in-Err.fault,
      subst (λ (h : Held). Settled h.octets (Err c.in-Err.fault)) (sym same) c.in-Err.ensures.settled,
      λ all more h m.
          halted all more here c.in-Err.fault c.locate_after.result (subst (Holds all) same h) c.in-Err.ensures.octets m c.in-Err.ensures.settled
          (record { fault = c.locate_after.ensures.fault; position = c.locate_after.ensures.position; opened = c.locate_after.ensures.opened }),
    )
