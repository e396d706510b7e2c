-- The parameters of a chain of NSEC3 records (RFC 5155 section 4).
use Rattle.std.specs.Prelude.{ℕ, nat_eq, ◌==◌, ◌&&◌, Bool, List, [], ◌∷◌}
use Rattle.std.specs.Cmp.Lexicographic.{pointwise}
use Rattle.std.specs.List.{list_any}
use Rattle.dns_wire.specs.Order.{same_name}
use Rattle.rdata_values.specs.Rtype as Rtype
use Rattle.zone_record.specs.declared.record.Record.{Record}
use Rattle.zone_rules.specs.Zones.{field_octets, type_of}

-- an NSEC3PARAM names a chain if its hash algorithm is 1, SHA-1, and no flags are set (RFC 5155 section 4.1.2)
abbrev pub names_chain : {N O : Type 0} → Record N O → Bool
names_chain r = type_of r == Rtype.nsec3param && (pointwise nat_eq (field_octets 0 r) (1 ∷ []) && pointwise nat_eq (field_octets 1 r) (0 ∷ []))

-- some NSEC3PARAM at the apex names a chain
abbrev pub has_named_chain : {N O : Type 0} → List (List ℕ) → List (Record N O) → Bool
has_named_chain origin records = list_any (λ r. same_name r.owner origin && names_chain r) records
