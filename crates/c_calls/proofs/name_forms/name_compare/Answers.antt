use Rattle.std.proofs.Common.{refl, ◌∙◌, inl, inr, Ok, Err, w32}
use Rattle.std.proofs.Math.Facts.{to_z-of_z}
use Rattle.c_calls.proofs.name_forms.name_compare.Goals as goal

pub returns-in-Err : goal.returns-in-Err
returns-in-Err c = (Err c.in-Err.refusal, inl c.in-Err.ensures, (c.refuse_octets.ensures, refl))

pub returns-in-Err-absolute_of : goal.returns-in-Err-absolute_of
returns-in-Err-absolute_of c =
    (Err c.in-Err-absolute_of.refusal, inr (c.in-Ok.left, c.in-Ok.ensures, c.in-Err-absolute_of.ensures), (c.refuse_octets-in-Err-absolute_of.ensures, refl))

pub returns-in-Ok-absolute_of : goal.returns-in-Ok-absolute_of
returns-in-Ok-absolute_of c = (
  Ok (c.in-Ok.left, c.in-Ok-absolute_of.right),
  (c.in-Ok.ensures, c.in-Ok-absolute_of.ensures),
  (c.accept.ensures.0, c.accept.ensures.1, to_z-of_z {w = w32} (record { sfits = c.order_of.type_inv }) ∙ c.order_of.ensures),
)
