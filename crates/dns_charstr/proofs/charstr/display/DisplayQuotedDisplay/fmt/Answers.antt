use Rattle.std.proofs.Common.{rules}
use Rattle.std.proofs.Output.{has_written_append, has_written_of_eq}
use Rattle.dns_symbol.specs.Printed.{text_of, is_quoted_escape}
use Rattle.dns_charstr.proofs.Texts.{text_quoted}
use Rattle.dns_charstr.proofs.charstr.display.DisplayQuotedDisplay.fmt.Goals as goal

pub returns-clause-writes : goal.returns-clause-writes
returns-clause-writes g c plain ok =
    let first = c.write_str.ensures.writes plain (search rules) in
    let octets = c.write_octets.ensures first.plain (search rules) in
    let last = c.write_str-2.ensures.writes octets.plain ok in
    has_written_of_eq _ _ _ _ _ (text_quoted (text_of is_quoted_escape c.args.self.now.octets.now)) (has_written_append _ _ _ _ _ _ (has_written_append _ _ _ _ _ _ first octets) last)
