use Rattle.std.proofs.Common.{drop, sym, subst}
use Rattle.mail_texts.specs.Joined.{IsStringBefore}
use Rattle.mail_texts.proofs.Joining.{string_at}
use Rattle.mail_texts.proofs.strings.split_string.Goals as goal

pub returns-in-Some : goal.returns-in-Some
returns-in-Some c =
    let strings = c.args.strings.now in
    let rest = c.in-Some.rest.now in
    let size = c.from-size.result in
    subst (λ after. IsStringBefore strings c.first_octets.result.now after) (sym c.after_count.ensures)
    (subst (λ first. IsStringBefore strings first (drop size rest)) (sym c.first_octets.ensures)
    (string_at strings c.in-Some.count.now rest size c.in-Some.ensures.cases.0 c.from-size.ensures))
