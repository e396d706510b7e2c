-- Glue of a parent, and the addresses that the zone of the host has itself.
use Rattle.std.specs.Prelude.{ℕ, ◌==◌, ◌&&◌, ◌||◌, nat_eq, not, Bool, false, Option, List, [], ◌∷◌}
use Rattle.std.specs.Cmp.Lexicographic.{pointwise}
use Rattle.std.specs.List.{find, list_any}
use Rattle.std.specs.Option.{option_map_or}
use Rattle.dns_wire.specs.Order.{same_name}
use Rattle.rdata_values.specs.Rtype as Rtype
use Rattle.rdata_values.specs.declared.types.RecordType.{RecordType}
use Rattle.zone_record.specs.Records.{data_of}
use Rattle.zone_record.specs.declared.record.Record.{Record}
use Rattle.zone_rules.specs.Above.{closest_from, is_within, names_above}
use Rattle.zone_rules.specs.Rules.{is_below_zone_cut, is_zone_cut}
use Rattle.zone_rules.specs.Zones.{has_owner_within, type_of}
use Rattle.zone_rules.specs.declared.refused.RrsetName.{RrsetName}

-- ---- glue of the parent

-- the closest delegation at or above a name
abbrev pub closest_cut : {N O : Type 0} → List (List ℕ) → List (Record N O) → List (List ℕ) → Option (List (List ℕ))
closest_cut origin records name = closest_from (is_zone_cut origin records) name

-- a name is at or below a delegation that is below no other: a server returns its addresses in referrals (RFC 1034 section 4.3.2)
abbrev pub is_at_served_cut : {N O : Type 0} → List (List ℕ) → List (Record N O) → List (List ℕ) → Bool
is_at_served_cut origin records name = option_map_or (λ cut. not (is_below_zone_cut origin records cut)) (closest_cut origin records name) false

-- ---- addresses of the zone that answers

-- the record has this type and these data
abbrev pub is_equal_data : {N O : Type 0} → RecordType → List ℕ → Record N O → Bool
is_equal_data rtype octets r = type_of r == rtype && pointwise nat_eq (data_of r).octets octets

abbrev pub has_equal_data : {N O : Type 0} → RecordType → List ℕ → List (List ℕ) → List (Record N O) → Bool
has_equal_data rtype octets name records = list_any (λ r. same_name r.owner name && is_equal_data rtype octets r) records

abbrev pub wildcard_has_equal : {N O : Type 0} → RecordType → List ℕ → List (List ℕ) → List (Record N O) → Bool
wildcard_has_equal rtype octets name records = has_equal_data rtype octets ((42 ∷ []) ∷ name) records

-- the name doesn't exist, and the wildcard below its closest encloser has it (RFC 4592 section 3.3.1)
abbrev pub is_expanded_to : {N O : Type 0} → RecordType → List ℕ → List (List ℕ) → List (Record N O) → Bool
is_expanded_to rtype octets name records =
    not (has_owner_within name records) && option_map_or (λ encloser. has_equal_data rtype octets ((42 ∷ []) ∷ encloser) records) (find (λ above. has_owner_within above records) (names_above name)) false

-- the zone answers with the record's data at its owner
abbrev pub yields_equal : {N O M P : Type 0} → List (Record N O) → Record M P → Bool
yields_equal records r = has_equal_data (type_of r) (data_of r).octets r.owner records || is_expanded_to (type_of r) (data_of r).octets r.owner records

-- a zone answers for a name: it is in the zone, and neither a delegation nor below one
abbrev pub answers_for : {N O : Type 0} → List (List ℕ) → List (Record N O) → List (List ℕ) → Bool
answers_for origin records name = is_within name origin && (not (is_zone_cut origin records name) && not (is_below_zone_cut origin records name))

-- an entry of a type was rejected
abbrev pub rejects_type : RecordType → List RrsetName → Bool
rejects_type rtype refused = list_any (λ s. s.rtype == rtype) refused

-- glue has another address than the zone that answers for its owner; not if a rejected entry may have that address, or be a delegation
abbrev pub is_other_glue : {N O M P : Type 0} → List (List ℕ) → List (Record N O) → List RrsetName → Record M P → Bool
is_other_glue origin records refused r =
    not (rejects_type (type_of r) refused) && (not (rejects_type Rtype.ns refused) && (answers_for origin records r.owner && not (yields_equal records r)))
