use Rattle.std.proofs.Common.{◌∙◌, ap, sym}
use Rattle.finding_codes.specs.Code.{code_named}
use Rattle.finding_codes.proofs.Tables.{named_first, named_later}
use Rattle.finding_codes.proofs.table.find_code.Goals as goal

pub returns-in-None : goal.returns-in-None
returns-in-None c = c.find_named-in-None.ensures ∙ ap (λ rs. code_named rs c.args.name.now) c.later_rows.ensures
    ∙ sym (named_later c.args.name.now (ap (λ rs. code_named rs c.args.name.now) (sym c.first_rows.ensures) ∙ sym c.find_named.ensures ∙ c.in-None.is))

pub returns-in_default : goal.returns-in_default
returns-in_default c = c.find_named.ensures ∙ ap (λ rs. code_named rs c.args.name.now) c.first_rows.ensures
    ∙ sym (named_first c.args.name.now (λ e. c.in_default.not-None (c.find_named.ensures ∙ ap (λ rs. code_named rs c.args.name.now) c.first_rows.ensures ∙ e)))
