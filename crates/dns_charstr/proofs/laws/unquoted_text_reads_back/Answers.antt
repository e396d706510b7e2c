use Rattle.std.proofs.lemmas.List.{get_or_default}
use Rattle.dns_symbol.specs.Printed.{is_unquoted_escape}
use Rattle.dns_symbol.proofs.PrintedForms.{unquoted_form}
use Rattle.dns_charstr.proofs.ReadBack.{reads_back}
use Rattle.dns_charstr.proofs.laws.unquoted_text_reads_back.Goals as goal

pub returns : goal.returns
returns c = reads_back is_unquoted_escape unquoted_form c.args.octets.now (λ k d h. rw (get_or_default c.args.octets.now k d 0 h) (c.type_inv.octets k).fits)
