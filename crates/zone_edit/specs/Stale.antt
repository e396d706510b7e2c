-- What a change of an SOA or a ZONEMD makes stale.
use Rattle.std.specs.Prelude.{ℕ, Bool, ◌&&◌, ◌||◌, ◌==◌, nat_eq, List, [], ◌∷◌}
use Rattle.std.specs.List.{starts_with}
use Rattle.rdata_values.specs.Rtype as Rtype
use Rattle.rdata_values.specs.declared.types.RecordType.{RecordType}

-- an RRSIG that covers the type SOA
abbrev pub signs_soa : RecordType → List ℕ → Bool
signs_soa rtype octets = (rtype == Rtype.rrsig) && starts_with nat_eq octets (0 ∷ 6 ∷ [])

abbrev pub is_of_signed_zone : RecordType → Bool
is_of_signed_zone rtype = (rtype == Rtype.rrsig) || (rtype == Rtype.nsec) || (rtype == Rtype.nsec3)
