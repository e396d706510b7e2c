-- The chain of NSEC3 records that an NSEC3PARAM names (RFC 5155 sections 3, 4 and 7.1).
use Rattle.std.specs.Prelude.{ℕ, ◌%◌, nat_eq, ◌==◌, ◌&&◌, Bool, Option, List, [], ◌∷◌, length, drop, reverse, option_and_then}
use Rattle.std.specs.Cmp.Lexicographic.{pointwise}
use Rattle.std.specs.Int.{from_be_bytes, w16}
use Rattle.std.specs.List.{find, list_any}
use Rattle.std.specs.Option.{option_or}
use Rattle.std.specs.Ordering.{is_lt}
use Rattle.dns_wire.specs.Order.{same_name}
use Rattle.rdata_values.specs.Rtype as Rtype
use Rattle.zone_record.specs.Names.{name_order}
use Rattle.zone_record.specs.Records.{data_of}
use Rattle.zone_record.specs.declared.record.Record.{Record}
use Rattle.zone_rules.specs.Zones.{field_octets, type_of}
use Rattle.zone_dnssec.specs.HashedNames.{name_hash, hashed_owner}
use Rattle.zone_dnssec.specs.NsecChain.{comes_after}
use Rattle.zone_dnssec.specs.Parameters.{names_chain}
use Rattle.zone_dnssec.specs.ZoneViews.{ZoneView}

-- ---- the fields: hash algorithm, flags, iterations, salt, and of NSEC3 the next hash (RFC 5155 sections 3.2 and 4.2)

-- the number in two octets
abbrev pub short_number : List ℕ → ℕ
short_number [] = 0
short_number (high ∷ []) = 0
short_number (high ∷ low ∷ others) = from_be_bytes w16 (high ∷ low ∷ [])

abbrev pub iterations_of : {N O : Type 0} → Record N O → ℕ
iterations_of r = short_number (field_octets 2 r)

-- the salt, after its length
abbrev pub salt_of : {N O : Type 0} → Record N O → List ℕ
salt_of r = drop 1 (field_octets 3 r)

-- the next hash, after its length
abbrev pub next_hash_of : {N O : Type 0} → Record N O → List ℕ
next_hash_of r = drop 1 (field_octets 4 r)

-- the bitmap of an NSEC3, after the first three fields of four octets, the salt and the next hash
abbrev pub hashed_bitmap : {N O : Type 0} → Record N O → List ℕ
hashed_bitmap r = drop (length (field_octets 4 r)) (drop (length (field_octets 3 r)) (drop 4 (data_of r).octets))

-- the lowest flag of an NSEC3 is Opt-Out (RFC 5155 section 3.1.2.1)
abbrev pub opts_out : {N O : Type 0} → Record N O → Bool
opts_out r = list_any (λ flags. flags % 2 == 1) (field_octets 1 r)

-- ---- the chain

abbrev pub is_same_field : {N O M P : Type 0} → ℕ → Record N O → Record M P → Bool
is_same_field place a b = pointwise nat_eq (field_octets place a) (field_octets place b)

-- an NSEC3 is of the chain of an NSEC3PARAM: hash algorithm, iterations and salt are the same
abbrev pub is_link : {N O M P : Type 0} → Record N O → Record M P → Bool
is_link chain r = type_of r == Rtype.nsec3 && (is_same_field 0 chain r && (is_same_field 2 chain r && is_same_field 3 chain r))

-- some NSEC3PARAM at the apex names a chain that passes the test
abbrev pub some_chain : {N O : Type 0} → (Record N O → Bool) → ZoneView N O → Bool
some_chain test zone = list_any (λ chain. same_name chain.owner zone.origin && (names_chain chain && test chain)) zone.records

-- the owner of the NSEC3 that matches a name
abbrev pub matching_owner : {N O : Type 0} → List (List ℕ) → Record N O → List (List ℕ) → Option (List (List ℕ))
matching_owner origin chain name = hashed_owner origin (name_hash (salt_of chain) (iterations_of chain) name)

-- the NSEC3 that matches a name
abbrev pub matching_link : {N O M P : Type 0} → ZoneView N O → Record M P → List (List ℕ) → Option (Record N O)
matching_link zone chain name = option_and_then (λ owner. find (λ r. same_name r.owner owner && is_link chain r) zone.records) (matching_owner zone.origin chain name)

-- the NSEC3 whose owner comes next, and after the last one the first
abbrev pub link_after : {N O M P : Type 0} → List (Record N O) → Record M P → List (List ℕ) → Option (Record N O)
link_after records chain name = option_or (find (λ r. comes_after r.owner name && is_link chain r) records) (find (is_link chain) records)

-- the NSEC3 whose owner comes before, and before the first one the last
abbrev pub link_before : {N O M P : Type 0} → List (Record N O) → Record M P → List (List ℕ) → Option (Record N O)
link_before records chain name =
    option_or (find (λ r. is_lt (name_order r.owner name) && is_link chain r) (reverse records)) (find (is_link chain) (reverse records))
