use Rattle.dns_laws.proofs.ReaderDigits.{digits_read, digits_same, digits_spelled, hex_spelled}
use Rattle.dns_laws.proofs.readers.digits_are_read_alike.Goals as goal

pub returns-clause-read : goal.returns-clause-read
returns-clause-read c = digits_read

pub returns-clause-same : goal.returns-clause-same
returns-clause-same c = digits_same

pub returns-clause-spelled : goal.returns-clause-spelled
returns-clause-spelled c = digits_spelled

pub returns-clause-hex : goal.returns-clause-hex
returns-clause-hex c = hex_spelled
