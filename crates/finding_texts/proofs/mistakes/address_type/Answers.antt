use Rattle.std.proofs.Common.{inl, inr}
use Rattle.finding_texts.proofs.mistakes.address_type.Goals as goal

pub returns-in-Err-Err : goal.returns-in-Err-Err
returns-in-Err-Err c t (inl (e, a, h)) = c.in-Err-Err.ensures.1 a h
returns-in-Err-Err c t (inr (e, a, h)) = c.in-Err-Err.ensures'.1 a h
