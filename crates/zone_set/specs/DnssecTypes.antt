-- The types of records that the signing of a zone adds.
use Rattle.std.specs.Prelude.{List, [], ◌∷◌}
use Rattle.rdata_values.specs.Rtype as Rtype
use Rattle.rdata_values.specs.declared.types.RecordType.{RecordType}

-- those of RFC 4034 but DS, and those of RFC 5155
abbrev pub dnssec_types : List RecordType
dnssec_types = Rtype.rrsig ∷ Rtype.nsec ∷ Rtype.dnskey ∷ Rtype.nsec3 ∷ Rtype.nsec3param ∷ []
