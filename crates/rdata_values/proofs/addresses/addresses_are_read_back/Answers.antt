use Rattle.rdata_values.proofs.AddressLaws.{ipv4_is_kind, ipv6_is_kind}
use Rattle.rdata_values.proofs.addresses.addresses_are_read_back.Goals as goal

pub returns : goal.returns
returns c = record { ipv4 = ipv4_is_kind; ipv6 = ipv6_is_kind }
