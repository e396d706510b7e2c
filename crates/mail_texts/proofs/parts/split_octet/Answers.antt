use Rattle.std.proofs.Common.{take, sym, subst, ◌∙◌}
use Rattle.mail_texts.specs.Parts.{IsSplitAt}
use Rattle.mail_texts.proofs.Splits.{split_is, unsplit_is}
use Rattle.mail_texts.proofs.parts.split_octet.Goals as goal

pub returns-in-Some : goal.returns-in-Some
returns-in-Some c =
    let octets = c.args.octets.now in
    let offset = c.in-Some.offset in
    subst (λ before. IsSplitAt c.args.wanted octets before c.after_count.result.now) (sym c.first_octets.ensures)
    (subst (λ after. IsSplitAt c.args.wanted octets (take offset octets) after) (sym c.after_count.ensures)
    (split_is c.args.wanted octets offset (sym c.offset_of.ensures.first ∙ c.in-Some.is)))

pub returns-in-None : goal.returns-in-None
returns-in-None c = unsplit_is c.args.wanted c.args.octets.now (sym c.offset_of.ensures.first ∙ c.in-None.is)
