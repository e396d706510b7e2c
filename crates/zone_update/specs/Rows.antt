-- Worked examples of the definitions.
use Rattle.std.specs.Prelude.{◌≡◌, true, false, refl}
use Rattle.rdata_values.specs.Rtype as Rtype
use Rattle.zone_update.specs.Operations.{is_sent}

-- an address is sent
address_row : is_sent false Rtype.a ≡ true
address_row = refl

-- the SOA is not among the operations
soa_row : is_sent true Rtype.soa ≡ false
soa_row = refl

signature_row : is_sent true Rtype.rrsig ≡ false
signature_row = refl

-- keys are sent if they are wanted
key_row : is_sent false Rtype.dnskey ≡ false
key_row = refl

wanted_key_row : is_sent true Rtype.dnskey ≡ true
wanted_key_row = refl
