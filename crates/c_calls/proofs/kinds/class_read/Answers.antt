use Rattle.std.proofs.Common.{refl, inr}
use Rattle.c_calls.proofs.kinds.class_read.Goals as goal

pub returns-in-Err : goal.returns-in-Err
returns-in-Err c = inr (c.refuse_word.ensures, refl, λ v spells. c.in-Err.ensures.1 v spells)
