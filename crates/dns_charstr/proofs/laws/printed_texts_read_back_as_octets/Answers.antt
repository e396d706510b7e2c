use Rattle.std.proofs.lemmas.List.{get_or_default}
use Rattle.dns_symbol.specs.Printed.{is_plain_escape, is_unquoted_escape}
use Rattle.dns_symbol.proofs.PrintedForms.{plain_form, unquoted_form}
use Rattle.dns_charstr.proofs.PrintableTexts.{octets_of_characters}
use Rattle.dns_charstr.proofs.ReadBack.{reads_back, between_quotes}
use Rattle.dns_charstr.proofs.laws.printed_texts_read_back_as_octets.Goals as goal

pub returns-clause-plain : goal.returns-clause-plain
returns-clause-plain c =
    octets_of_characters _ _ (reads_back is_plain_escape plain_form c.args.octets.now (λ k d h. rw (get_or_default c.args.octets.now k d 0 h) (c.type_inv.octets k).fits))

pub returns-clause-unquoted : goal.returns-clause-unquoted
returns-clause-unquoted c =
    octets_of_characters _ _ (reads_back is_unquoted_escape unquoted_form c.args.octets.now (λ k d h. rw (get_or_default c.args.octets.now k d 0 h) (c.type_inv.octets k).fits))

pub returns-clause-between : goal.returns-clause-between
returns-clause-between c = λ between is.
    octets_of_characters _ _ (between_quotes c.args.octets.now between (λ k d h. rw (get_or_default c.args.octets.now k d 0 h) (c.type_inv.octets k).fits) is)
