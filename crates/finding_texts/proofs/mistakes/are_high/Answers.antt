use Rattle.std.proofs.Common.{inl, inr}
use Rattle.finding_texts.proofs.Escapes.{high_number, no_large_number, no_number}
use Rattle.finding_texts.proofs.mistakes.are_high.Goals as goal

pub returns-in-Ok : goal.returns-in-Ok
returns-in-Ok c = high_number c.args.digits.now c.in-Ok.number c.in-Ok.ensures.0.0 c.in-Ok.ensures.0.1

pub returns-in-Err : goal.returns-in-Err
returns-in-Err c = elim c.in-Err.ensures [
  | inl (e, h) ↦ no_number c.args.digits.now h
  | inr (e, h, large) ↦ absurd (no_large_number c.args.digits.now c.requires h large)
]
