use Rattle.std.proofs.Output.{has_written_of_eq}
use Rattle.rdata_tokens.proofs.PrintedLabels.{one_octet_text, joined_text_is}
use Rattle.rdata_tokens.proofs.name_text.NameTextDisplay.fmt.Goals as goal

pub returns-then-octets-eq1-clause-writes : goal.returns-then-octets-eq1-clause-writes
returns-then-octets-eq1-clause-writes g c = λ plain ok.
    has_written_of_eq _ _ _ _ _ (one_octet_text c.args.self.now.0.now c.if-octets-eq1.true) (c.write_str.ensures.writes plain ok)

pub returns-clause-writes : goal.returns-clause-writes
returns-clause-writes g c = λ plain ok.
    has_written_of_eq _ _ _ _ _ (joined_text_is c.args.self.now.0.now c.if-octets-eq1.false) (c.write_labels.ensures plain ok)
