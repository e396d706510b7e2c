use Rattle.std.proofs.Common.{sym, ap, ◌∙◌}
use Rattle.std.proofs.Output.{has_written_of_eq}
use Rattle.dns_symbol.specs.Printed.{text_of, is_unquoted_escape}
use Rattle.rdata_svcb.proofs.ListTexts.{special_octet, unspecial_octet}
use Rattle.rdata_svcb.proofs.shown.write_item_octet.Goals as goal

pub returns-then-is_escaped : goal.returns-then-is_escaped
returns-then-is_escaped g c = λ plain ok.
    has_written_of_eq _ _ _ _ _ (ap (text_of is_unquoted_escape) (sym (special_octet c.args.octet (sym c.is_escaped.ensures ∙ c.if-is_escaped.true)))) (c.write_unquoted.ensures plain ok)

pub returns-else-is_escaped : goal.returns-else-is_escaped
returns-else-is_escaped g c = λ plain ok.
    has_written_of_eq _ _ _ _ _ (ap (text_of is_unquoted_escape) (sym (unspecial_octet c.args.octet (sym c.is_escaped.ensures ∙ c.if-is_escaped.false)))) (c.write_unquoted-else-is_escaped.ensures plain ok)
