use Rattle.std.proofs.Common.{rules, ◌≡◌, ◌∙◌, [], ◌++◌, Ok, Err, ap, inl, inr, refl, subst}
use Rattle.std.specs.Option.{option_copied}
use Rattle.dns_octets.specs.Room.{exactly}
use Rattle.dns_wire.specs.Limits.{max_name}
use Rattle.rdata_tokens.specs.NameSpelling.{RefusesName}
use Rattle.c_calls.specs.Reports.{CopiesWhole}
use Rattle.c_calls.proofs.name_words.read_with_origin.Goals as goal

pub returns-in-Err : goal.returns-in-Err
returns-in-Err c = (Err c.in-Err.refusal, inl c.in-Err.ensures, (c.refuse_text.ensures, refl))

pub returns-in-Ok : goal.returns-in-Ok
returns-in-Ok c =
    let gained = c.in-Ok.ensures.ok in
    let none : c.new-octets.result.items ≡ [] = search rules in
    let octets : c.as_slice.result.now ≡ gained.0 = c.as_slice.ensures.value ∙ gained.2 ∙ ap (λ o. o ++ gained.0) none in (
      Ok gained.0,
      (c.in_default.ensures, gained.1),
      subst (λ o. CopiesWhole o c.args.name.now c.copy_whole.result c.copy_whole.new.buffer c.copy_whole.new.outcome) octets c.copy_whole.ensures,
    )

pub returns-in-Err-append_name : goal.returns-in-Err-append_name
returns-in-Err-append_name c =
    let none : c.new-octets.result.items ≡ [] = search rules in
    let why = subst (λ o. RefusesName (exactly max_name) (option_copied c.args.origin) c.args.text.now o c.in-Err-append_name.kind) none c.in-Err-append_name.ensures.err in (
      Err c.refusal_of_word.result,
      inr (c.in_default.ensures, c.in-Err-append_name.kind, why, c.refusal_of_word.ensures),
      (c.refuse_text-in-Err-append_name.ensures, refl),
    )
