use Rattle.std.proofs.Common.{refl}
use Rattle.dns_laws.proofs.ReaderSymbols.{octets_spelled, octets_read}
use Rattle.dns_laws.proofs.readers.strings_are_read_alike.Goals as goal

pub returns-clause-octets : goal.returns-clause-octets
returns-clause-octets c = λ text octets. (octets_spelled text octets, λ h. octets_read text octets h.0 h.1)

pub returns-clause-field : goal.returns-clause-field
returns-clause-field c = λ origin quoted text octets h short. record { octets = octets; spelled = (octets_spelled text octets h).1; short = short; whole = refl }
