use Rattle.std.proofs.Common.{ap, refl, ◌∙◌, inl, inr, Ok, Err}
use Rattle.c_calls.specs.Entries.{bit}
use Rattle.c_calls.proofs.name_forms.name_ends_with.Goals as goal

pub returns-in-Err : goal.returns-in-Err
returns-in-Err c = (Err c.in-Err.refusal, inl c.in-Err.ensures, (c.refuse_octets.ensures, refl))

pub returns-in-Err-some_name_of : goal.returns-in-Err-some_name_of
returns-in-Err-some_name_of c =
    (Err c.in-Err-some_name_of.refusal, inr (c.in-Ok.labels, c.in-Ok.ensures, c.in-Err-some_name_of.ensures), (c.refuse_octets-in-Err-some_name_of.ensures, refl))

pub returns-in-Ok-some_name_of : goal.returns-in-Ok-some_name_of
returns-in-Ok-some_name_of c =
    (Ok (c.in-Ok.labels, c.in-Ok-some_name_of.last), (c.in-Ok.ensures, c.in-Ok-some_name_of.ensures), (c.accept.ensures.0, c.accept.ensures.1, c.bit.ensures ∙ ap bit c.ends_with.ensures))
