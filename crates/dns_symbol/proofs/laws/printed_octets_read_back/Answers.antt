use Rattle.std.proofs.lemmas.List.{get_or_default}
use Rattle.dns_symbol.specs.Printed.{is_unquoted_escape, is_quoted_escape, is_plain_escape}
use Rattle.dns_symbol.proofs.PrintedForms.{printed_back, plain_form, quoted_form, unquoted_form, all_unquoted_words}
use Rattle.dns_symbol.proofs.laws.printed_octets_read_back.Goals as goal

pub returns-clause-plain : goal.returns-clause-plain
returns-clause-plain c = printed_back is_plain_escape plain_form c.args.octets.now (λ k d h. rw (get_or_default c.args.octets.now k d 0 h) (c.type_inv.octets k).fits)

pub returns-clause-quoted : goal.returns-clause-quoted
returns-clause-quoted c = printed_back is_quoted_escape quoted_form c.args.octets.now (λ k d h. rw (get_or_default c.args.octets.now k d 0 h) (c.type_inv.octets k).fits)

pub returns-clause-unquoted : goal.returns-clause-unquoted
returns-clause-unquoted c = printed_back is_unquoted_escape unquoted_form c.args.octets.now (λ k d h. rw (get_or_default c.args.octets.now k d 0 h) (c.type_inv.octets k).fits)

pub returns-clause-words : goal.returns-clause-words
returns-clause-words c = all_unquoted_words c.args.octets.now (λ k d h. rw (get_or_default c.args.octets.now k d 0 h) (c.type_inv.octets k).fits)
