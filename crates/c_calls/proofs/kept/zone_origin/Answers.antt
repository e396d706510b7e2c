use Rattle.std.proofs.Common.{inl, refl, Some}
use Rattle.c_calls.proofs.kept.zone_origin.Goals as goal

pub returns-in-Ok : goal.returns-in-Ok
returns-in-Ok c = inl (Some c.in-Ok.origin, rw c.in-Ok.is at c.name_of.ensures, c.accept-in-Ok.ensures.0, c.accept-in-Ok.ensures.1, c.keep_name-in-Ok.ensures, refl)
