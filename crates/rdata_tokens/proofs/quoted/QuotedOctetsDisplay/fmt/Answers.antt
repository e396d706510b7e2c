use Rattle.std.proofs.Common.{rules}
use Rattle.std.proofs.Output.{has_written_append, has_written_of_eq}
use Rattle.rdata_tokens.proofs.FormLaws.{quoted_bytes}
use Rattle.rdata_tokens.proofs.quoted.QuotedOctetsDisplay.fmt.Goals as goal

pub returns-clause-writes : goal.returns-clause-writes
returns-clause-writes g c plain ok =
    let first = c.write_str.ensures.writes plain (search rules) in
    let written = c.write_octets.ensures first.plain (search rules) in
    let last = c.write_str-2.ensures.writes written.plain ok in
    has_written_of_eq _ _ _ _ _ (quoted_bytes _ _ c.as_slice-octets.ensures.value c.as_slice-octets.ensures.bytes)
    (has_written_append _ _ _ _ _ _ (has_written_append _ _ _ _ _ _ first written) last)
